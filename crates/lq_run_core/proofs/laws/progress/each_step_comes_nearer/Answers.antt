use Rattle.lq_run_core.proofs.Nearer.{nearer}
use Rattle.lq_run_core.proofs.Bounded.{all-nearer, measure-below}
use Rattle.lq_run_core.proofs.laws.progress.each_step_comes_nearer.Goals as goal

pub returns : goal.returns
returns c = record {
  nearer = λ m n one before move after. (nearer m n one before move after).1;
  moves = λ m n c one goes. (all-nearer m n c one goes).1.1;
  few = measure-below;
}
