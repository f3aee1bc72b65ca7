use Rattle.std.proofs.Common.{length, ◌-◌, ◌≡◌, ◌<◌, ◌≤◌, Bool, true, false, take, drop, All}
use Rattle.lq_band_laws.specs.Ring.{IsAtRest}
use Rattle.lq_tap.specs.Views.{AreFew}
use Rattle.lq_tap.specs.Told.{rest_at}
use Rattle.lq_tap.specs.Steps.{took_all}
use Rattle.lq_tap.specs.Sees.{view, steps, IsSeatOf, IsElseSame}
use Rattle.lq_tap.proofs.BatchSteps.{taken_so_far}
use Rattle.lq_tap.proofs.shared.Tap.take_all.Given as goal

abbrev pub invariant-loop-taken : goal.invariant-loop-taken
invariant-loop-taken l = record {
  seat : IsSeatOf l.self l.seat × ((view l.seat).reader.reads ≡ true) × ((view l.seat).reader.holds ≡ true);
  same : IsElseSame l.fn.seat l.seat;
  room : l.taken ≤ length l.fn.out;
  long : length l.out ≡ length l.fn.out;
  others : drop l.taken l.out ≡ drop l.taken l.fn.out;
  view_is : (d : Bool) × (view l.seat ≡ taken_so_far d (take l.taken l.out) (view l.fn.seat)) × (0 < l.taken → d ≡ false);
  made : steps l.seat ≡ took_all l.self.len (rest_at l.fn.first) (take l.taken l.out) (steps l.fn.seat);
  packets : All (λ n. n < l.self.packets) (take l.taken l.out);
  few : 0 < l.taken → AreFew (view l.seat);
  ends : ((view l.seat).reader.ends ≡ rest_at l.ends) × IsAtRest l.self.len (rest_at l.ends);
}

abbrev pub decreases-loop-taken : goal.decreases-loop-taken
decreases-loop-taken l = length l.fn.out - l.taken
