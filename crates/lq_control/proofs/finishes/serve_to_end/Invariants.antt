use Rattle.std.proofs.Common.{◌≡◌, false}
use Rattle.lq_model.specs.declared.machine.Position.TheVariants.{Idle}
use Rattle.lq_table.specs.Sees.{view, setup, position, solo, IsSeatOf, IsSameSeat}
use Rattle.lq_qdisc.specs.Sends.{IsReadyToSend}
use Rattle.lq_control.specs.Control.{IsServed}
use Rattle.lq_ring.specs.StepLists.{MakesStepsFrom}
use Rattle.lq_table.specs.Views.{first_account}
use Rattle.lq_qdisc.specs.Alone.{IsAlone}
use Rattle.lq_control.specs.EndSteps.{ServeEach}
use Rattle.lq_control.specs.Ending.{IsEndedAlike}
use Rattle.lq_control.proofs.finishes.serve_to_end.Given as goal

abbrev pub invariant-loop : goal.invariant-loop
invariant-loop g l = record {
  can : (goal.iterator-loop g).can_next l.iterator';
  ends : (goal.iterator-loop g).is_finite l.iterator';
  seat : IsSeatOf l.shared l.cpu;
  same : IsSameSeat l.fn.cpu l.cpu;
  at : position l.cpu ≡ Idle;
  ready : IsReadyToSend l.cpu;
  low : (view l.cpu).place.raised ≡ false;
  served : IsServed (view l.fn.cpu) (view l.cpu);
  alike : IsAlone l.shared.infos.now (first_account (setup l.shared)) (solo (view l.fn.cpu)) → IsEndedAlike l.shared.infos.now (first_account (setup l.shared)) (solo (view l.fn.cpu)) (solo (view l.cpu));
  on : MakesStepsFrom (ServeEach (setup l.shared)) l.fn.cpu l.cpu;
}
