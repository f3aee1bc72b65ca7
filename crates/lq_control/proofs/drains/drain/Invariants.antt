use Rattle.std.proofs.Common.{◌≡◌}
use Rattle.lq_model.specs.declared.machine.Position.TheVariants.{Idle}
use Rattle.lq_table.specs.Views.{first_account}
use Rattle.lq_table.specs.Sees.{view, setup, position, IsSeatOf, IsSameSeat, solo}
use Rattle.lq_qdisc.specs.Alone.{BringsAlone}
use Rattle.lq_qdisc.specs.Sends.{IsReadyToSend}
use Rattle.lq_control.specs.Control.{IsServed}
use Rattle.lq_ring.specs.StepLists.{MakesStepsFrom}
use Rattle.lq_control.specs.Steps.{SoftirqEach}
use Rattle.lq_control.proofs.drains.drain.Given as goal

abbrev pub invariant-loop : goal.invariant-loop
invariant-loop g l = record {
  can : (goal.iterator-loop g).can_next l.iterator';
  ends : (goal.iterator-loop g).is_finite l.iterator';
  seat : IsSeatOf l.shared l.cpu;
  same : IsSameSeat l.fn.cpu l.cpu;
  at : position l.cpu ≡ Idle;
  ready : IsReadyToSend l.cpu;
  served : IsServed (view l.fn.cpu) (view l.cpu);
  alone : BringsAlone l.fn.shared.infos.now (first_account (setup l.fn.shared)) (λ s. s) (solo (view l.fn.cpu)) (solo (view l.cpu));
  interrupted : MakesStepsFrom (SoftirqEach (setup l.fn.shared)) l.fn.cpu l.cpu;
}
