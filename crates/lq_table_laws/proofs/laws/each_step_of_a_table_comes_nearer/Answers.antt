use Rattle.lq_table_laws.proofs.Numbers.{same}
use Rattle.lq_table_laws.proofs.laws.each_step_of_a_table_comes_nearer.Goals as goal

pub returns : goal.returns
returns c = record {
  moves = λ k place c t moves now after. moves.nearer now after;
  none = λ k place cost t moves. same _ _ cost moves;
}
