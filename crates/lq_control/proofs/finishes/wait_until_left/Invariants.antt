use Rattle.std.proofs.Common.{false}
use Rattle.lq_table.specs.Sees.{view, IsSeatOf, IsElseSame}
use Rattle.lq_run.specs.Steps.{MakesStepsOf}
use Rattle.lq_control.specs.EndSteps.{LookLeft}
use Rattle.lq_control.specs.Finish.{IsLook}
use Rattle.lq_control.specs.Steps.{Wait}
use Rattle.lq_control.proofs.finishes.wait_until_left.Given as goal

abbrev pub invariant-loop : goal.invariant-loop
invariant-loop g l = record {
  can : (goal.iterator-loop g).can_next l.iterator';
  ends : (goal.iterator-loop g).is_finite l.iterator';
  seat : IsSeatOf l.shared l.cpu;
  still : IsElseSame l.fn.cpu l.cpu;
  look : IsLook (view l.fn.cpu) (view l.cpu);
  makes : MakesStepsOf (Wait LookLeft false) l.fn.cpu l.cpu;
}
