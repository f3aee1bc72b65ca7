use Rattle.std.proofs.Common.{length, ◌-◌, ◌≡◌, ◌<◌, ◌≤◌, true, drop}
use Rattle.lq_tap.specs.Told.{place_back}
use Rattle.lq_tap.specs.Steps.{put_back}
use Rattle.lq_tap.specs.Sees.{view, steps, IsSeatOf, IsElseSame}
use Rattle.lq_tap.proofs.BackSteps.{returning}
use Rattle.lq_tap.proofs.shared.Tap.put_all_back.Given as goal

abbrev pub invariant-loop-left : goal.invariant-loop-left
invariant-loop-left l = record {
  seat : IsSeatOf l.self l.seat × ((view l.seat).reader.reads ≡ true) × ((view l.seat).reader.holds ≡ true);
  same : IsElseSame l.fn.seat l.seat;
  within : l.left ≤ length l.batch;
  view_is : view l.seat ≡ returning (length l.batch - l.left) (view l.fn.seat);
  head : l.head ≡ place_back l.self.len l.fn.first (length l.batch - l.left);
  small : l.head < l.self.len;
  made : steps l.seat ≡ put_back l.self.len l.fn.first (drop l.left l.batch) (steps l.fn.seat);
}

abbrev pub decreases-loop-left : goal.decreases-loop-left
decreases-loop-left l = l.left
