use Rattle.std.proofs.Common.{◌≤◌, ◌+◌, ◌-◌}
use Rattle.lq_tap_run.specs.Lanes.{LaneHasRoom, LaneStandsAt}
use Rattle.lq_tap_run.proofs.lanes.put_all.Given as goal

abbrev pub invariant-loop-n : goal.invariant-loop-n
invariant-loop-n g l = record {
  stands : LaneStandsAt l.run.tap.now l.run.packets l.run.senders l.sender l.k l.n l.lane;
  room : LaneHasRoom l.run.packets l.run.senders l.lane;
  few : l.n ≤ l.run.packets + l.run.senders;
  less : l.k ≤ l.n;
}

abbrev pub decreases-loop-n : goal.decreases-loop-n
decreases-loop-n g l = l.run.packets - l.n
