use Rattle.std.proofs.Common.{◌≡◌, ◌+◌, None, length}
use Rattle.lq_table.specs.Sees.{view, setup, position, IsSeatOf}
use Rattle.lq_table.specs.Moves.{IsKnownSlot}
use Rattle.lq_qdisc.specs.Calls.{KeepsFates, IsKeptInRun, IsServing}
use Rattle.lq_qdisc.specs.Direct.{position_in_run}
use Rattle.lq_ring.specs.StepLists.{MakesStepsFrom}
use Rattle.lq_qdisc.specs.StepLists.{SendEach}
use Rattle.lq_qdisc.proofs.runs.run.Given as goal

abbrev pub invariant-loop-sent : goal.invariant-loop-sent
invariant-loop-sent g l = record {
  seat : IsSeatOf l.shared l.cpu;
  kept : IsKeptInRun l.fn.cpu l.cpu;
  serving : IsServing l.cpu;
  at : position l.cpu ≡ position_in_run (view l.cpu);
  run : (view l.cpu).place.run ≡ l.sent;
  hand : (view l.cpu).holder.hand ≡ None;
  slot : IsKnownSlot (setup l.shared) (view l.cpu).holder.slot;
  trail : (view l.cpu).trail ≡ (view l.fn.cpu).trail;
  fates : KeepsFates (view l.fn.cpu) (view l.cpu);
  makes : MakesStepsFrom (λ s. SendEach (setup l.shared) s l.sent) l.fn.cpu l.cpu;
  accepted : length (view l.cpu).holder.station.device.accepted ≡ length (view l.fn.cpu).holder.station.device.accepted + l.sent;
}
