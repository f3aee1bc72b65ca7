use Rattle.std.proofs.Common.{◌≡◌, true}
use Rattle.lq_tap.specs.Sees.{view, IsSenderOf}
use Rattle.lq_test_below.proofs.tap_calls.put_some.Given as goal

abbrev pub invariant-loop-n : goal.invariant-loop-n
invariant-loop-n g l = record {
  seat : IsSenderOf l.tap l.seat;
  going : (view l.seat).sender.going ≡ true;
  next : (view l.seat).sender.next ≡ l.n;
}
