use Rattle.std.proofs.Common.{not, eq-eqb, ne_eqb, [], ◌∷◌, ap}
use Rattle.lq_table.specs.Step.{LoadState, MoveStation, SetSched, Unlock}
use Rattle.lq_run.specs.Steps.{NoneMissed, Schedules}
use Rattle.lq_table.proofs.StepsThen.{makes_then}
use Rattle.lq_run.proofs.release.Goals as goal

pub returns-then-state-ne0-clause-makes : goal.returns-then-state-ne0-clause-makes
returns-then-state-ne0-clause-makes g c = (
  MoveStation ∷ Unlock ∷ LoadState c.load_state-state.result ∷ SetSched (not c.set_sched.result) ∷ [],
  Schedules (ap not (ne_eqb _ 0 c.if-state-ne0.true)),
  makes_then (makes_then (makes_then c.move_station.ensures.makes c.unlock.ensures.makes) c.load_state-state.ensures.makes) c.set_sched.ensures.makes,
)

pub returns-else-state-ne0-clause-makes : goal.returns-else-state-ne0-clause-makes
returns-else-state-ne0-clause-makes g c = (
  MoveStation ∷ Unlock ∷ LoadState c.load_state-state.result ∷ [],
  NoneMissed (ap not (eq-eqb _ 0 c.if-state-ne0.false)),
  makes_then (makes_then c.move_station.ensures.makes c.unlock.ensures.makes) c.load_state-state.ensures.makes,
)
