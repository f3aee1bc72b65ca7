use Rattle.std.proofs.Common.{◌≡◌, ◌≤◌}
use Rattle.lq_tap.specs.Sees.{steps, view}
use Rattle.lq_tap.specs.Settled.{IsSettled}
use Rattle.lq_tap_run.specs.Lanes.{AreDone}
use Rattle.lq_tap_run.specs.Marks.{AreMarkedFull}
use Rattle.lq_tap_run.specs.Reads.{IsReaderDone}
use Rattle.lq_tap_run.specs.Rounds.{JoinsSeats}
use Rattle.lq_tap_run.specs.Runs.{HasJoined}
use Rattle.lq_tap_run.proofs.run.join_all.Given as goal

abbrev pub invariant-loop-lane : goal.invariant-loop-lane
invariant-loop-lane g l = record {
  joined : HasJoined l.run.tap.now l.run.packets l.run.senders l.lanes.len l.seat;
  settled : l.lanes.len ≡ 0 → IsSettled (view l.seat);
  over : IsReaderDone l.seat;
  taken : (view l.seat).reader.taken ≡ (view l.fn.seat).reader.taken;
  destroyed : (view l.seat).reader.destroyed ≡ (view l.fn.seat).reader.destroyed;
  marked : AreMarkedFull l.run.packets (view l.seat).sender.fulls l.fates.items;
  steps_are : JoinsSeats (steps l.fn.seat) (steps l.seat);
  lanes : AreDone l.run.tap.now l.run.packets l.run.senders l.lanes.items;
  few : l.lanes.len ≤ l.run.senders;
}

abbrev pub decreases-loop-lane : goal.decreases-loop-lane
decreases-loop-lane g l = l.lanes.len
