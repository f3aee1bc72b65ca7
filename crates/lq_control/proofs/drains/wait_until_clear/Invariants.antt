use Rattle.std.proofs.Common.{◌≡◌, false, IsSome}
use Rattle.lq_model.specs.declared.machine.Position.TheVariants.{Control}
use Rattle.lq_table.specs.Sees.{view, setup, position, IsSeatOf, IsSameSeat, IsSole, account_of, solo}
use Rattle.lq_qdisc.specs.Sends.{IsReadyToSend}
use Rattle.lq_control.specs.Alone.{unmarked}
use Rattle.lq_control.specs.Control.{IsServed}
use Rattle.lq_ring.specs.StepLists.{MakesStepsFrom}
use Rattle.lq_control.specs.Steps.{WaitUntilClear}
use Rattle.lq_control.proofs.drains.wait_until_clear.Given as goal

abbrev pub invariant-loop : goal.invariant-loop
invariant-loop g l = record {
  can : (goal.iterator-loop g).can_next l.iterator';
  ends : (goal.iterator-loop g).is_finite l.iterator';
  seat : IsSeatOf l.shared l.cpu;
  same : IsSameSeat l.fn.cpu l.cpu;
  at : position l.cpu ≡ Control false;
  ready : IsReadyToSend l.cpu;
  served : IsServed (view l.fn.cpu) (view l.cpu);
  off : IsSole (view l.fn.cpu) → IsSome (account_of (view l.fn.cpu)).down → unmarked (solo (view l.cpu)) ≡ unmarked (solo (view l.fn.cpu));
  waits : MakesStepsFrom (λ s. WaitUntilClear (setup l.shared) s false) l.fn.cpu l.cpu;
}
