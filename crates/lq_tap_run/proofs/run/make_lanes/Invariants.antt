use Rattle.std.proofs.Common.{◌≡◌, ◌≤◌, vec_len, vec_capacity}
use Rattle.std.specs.Prelude.{replicate}
use Rattle.lq_tap.specs.Made.{cut}
use Rattle.lq_tap.specs.Sees.{steps}
use Rattle.lq_tap_run.specs.Lanes.{AreReady}
use Rattle.lq_tap_run.specs.Runs.{IsSplittingTap}
use Rattle.lq_tap_run.proofs.run.make_lanes.Given as goal

abbrev pub invariant-loop-sender : goal.invariant-loop-sender
invariant-loop-sender l = record {
  splitting : IsSplittingTap l.tap l.senders l.sender l.seat;
  steps_are : steps l.seat ≡ replicate l.sender cut;
  ready : AreReady l.tap l.packets l.senders l.lanes.items;
  long : vec_len l.lanes ≡ l.sender;
  room : l.senders ≤ vec_capacity l.lanes;
}
