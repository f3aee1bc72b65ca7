use Rattle.std.proofs.Common.{◌≡◌, false}
use Rattle.lq_model.specs.declared.machine.Phase.{Phase}
use Rattle.lq_model.specs.declared.machine.Phase.TheVariants.{Closing}
use Rattle.lq_table.specs.Sees.{view, IsSeatOf, IsElseSame}
use Rattle.lq_control.specs.Control.{phased}
use Rattle.lq_run.specs.Steps.{MakesStepsOf}
use Rattle.lq_control.specs.Steps.{LookInside, Wait}
use Rattle.lq_control.proofs.waits.wait_for_calls.Given as goal

abbrev pub invariant-loop : goal.invariant-loop
invariant-loop g l = record {
  can : (goal.iterator-loop g).can_next l.iterator';
  ends : (goal.iterator-loop g).is_finite l.iterator';
  seat : IsSeatOf l.shared l.cpu;
  still : IsElseSame l.fn.cpu l.cpu;
  phased : (p : Phase) × (view l.cpu ≡ phased Closing p (view l.fn.cpu));
  makes : MakesStepsOf (Wait LookInside false) l.fn.cpu l.cpu;
}
