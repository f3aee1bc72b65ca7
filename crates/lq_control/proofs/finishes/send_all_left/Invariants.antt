use Rattle.std.proofs.Common.{◌≡◌, false}
use Rattle.lq_model.specs.declared.machine.Position.TheVariants.{Idle}
use Rattle.lq_table.specs.Sees.{view, setup, position, IsSeatOf}
use Rattle.lq_qdisc.specs.Sends.{IsCallKept, IsReadyToSend}
use Rattle.lq_ring.specs.StepLists.{MakesStepsFrom}
use Rattle.lq_control.specs.EndSteps.{SendLeftBelow}
use Rattle.lq_control.specs.Finish.{AreTurnsFrom, AreAllDone, IsSent}
use Rattle.lq_control.proofs.finishes.send_all_left.Given as goal

abbrev pub invariant-loop-n : goal.invariant-loop-n
invariant-loop-n g l = record {
  seat : IsSeatOf l.shared l.cpu;
  kept : IsCallKept l.fn.cpu l.cpu;
  at : position l.cpu ≡ Idle;
  ready : IsReadyToSend l.cpu;
  low : (view l.cpu).place.raised ≡ false;
  turns : AreTurnsFrom (setup l.shared) l.n (view l.cpu).turns;
  sent : IsSent (setup l.shared) (view l.fn.cpu) (view l.cpu);
  done : AreAllDone (setup l.shared) (view l.fn.cpu).turns → view l.cpu ≡ view l.fn.cpu;
  sends : MakesStepsFrom (SendLeftBelow (setup l.shared) l.n) l.fn.cpu l.cpu;
}
