use Rattle.std.proofs.Common.{[], ◌∷◌, sym, ◌∙◌}
use Rattle.lq_table.specs.Step.{LookMissed, Miss}
use Rattle.lq_run.specs.Steps.{Seen, Set}
use Rattle.lq_table.proofs.StepsThen.{makes_then}
use Rattle.lq_run.proofs.note_missed.Goals as goal

pub returns-then-look_missed : goal.returns-then-look_missed
returns-then-look_missed g c = record {
  makes = let l = c.look_missed.ensures.makes in (LookMissed l.0 ∷ [], Seen (sym l.1 ∙ c.if-look_missed.true), l.2);
}

pub returns : goal.returns
returns g c = record {
  makes = let l = c.look_missed.ensures.makes in (LookMissed l.0 ∷ Miss c.miss.result ∷ [], Set (sym l.1 ∙ c.if-look_missed.false), makes_then l.2 c.miss.ensures.makes);
}
