use Rattle.std.proofs.Common.{◌≡◌, false}
use Rattle.lq_table.specs.Sees.{view, IsSeatOf, IsElseSame}
use Rattle.lq_run.specs.Steps.{MakesStepsOf, TryRunLock}
use Rattle.lq_control.specs.Steps.{Wait}
use Rattle.lq_control.proofs.waits.take_lock.Given as goal

abbrev pub invariant-loop : goal.invariant-loop
invariant-loop g l = record {
  can : (goal.iterator-loop g).can_next l.iterator';
  ends : (goal.iterator-loop g).is_finite l.iterator';
  seat : IsSeatOf l.shared l.cpu;
  still : IsElseSame l.fn.cpu l.cpu;
  same : view l.cpu ≡ view l.fn.cpu;
  makes : MakesStepsOf (Wait TryRunLock false) l.fn.cpu l.cpu;
}
