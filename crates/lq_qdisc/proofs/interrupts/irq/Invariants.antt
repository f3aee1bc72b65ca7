use Rattle.std.proofs.Common.{◌≡◌}
use Rattle.lq_model.specs.declared.machine.Position.TheVariants.{Idle}
use Rattle.lq_table.specs.Sees.{view, position, IsSeatOf}
use Rattle.lq_qdisc.specs.Sends.{IsCallKept, IsReadyToSend, IsStill}
use Rattle.lq_run.specs.Steps.{MakesStepsOf}
use Rattle.lq_qdisc.specs.StepLists.{WakeEach}
use Rattle.lq_qdisc.proofs.interrupts.irq.Given as goal

abbrev pub invariant-loop-queue : goal.invariant-loop-queue
invariant-loop-queue g l = record {
  seat : IsSeatOf l.shared l.cpu;
  kept : IsCallKept l.fn.cpu l.cpu;
  at : position l.cpu ≡ Idle;
  ready : IsReadyToSend l.cpu;
  still : IsStill (view l.fn.cpu) (view l.cpu);
  settled : (view l.cpu).settled ≡ (view l.fn.cpu).settled;
  makes : MakesStepsOf (WakeEach l.queue l.opened) l.fn.cpu l.cpu;
}
