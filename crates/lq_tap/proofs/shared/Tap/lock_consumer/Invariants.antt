use Rattle.std.proofs.Common.{◌≡◌, ℕ}
use Rattle.lq_tap.specs.Sees.{view, steps, slot, IsSeatOf, IsSameSeat}
use Rattle.lq_tap.specs.Steps.{consumer_tries}
use Rattle.lq_tap.proofs.shared.Tap.lock_consumer.Given as goal

abbrev pub invariant-loop : goal.invariant-loop
invariant-loop g l = record {
  can : (goal.iterator-loop g).can_next l.iterator';
  ends : (goal.iterator-loop g).is_finite l.iterator';
  seat : IsSeatOf l.self l.seat;
  still : IsSameSeat l.fn.seat l.seat;
  same : view l.seat ≡ view l.fn.seat;
  slot : slot l.seat ≡ slot l.fn.seat;
  tries : (n : ℕ) × (steps l.seat ≡ consumer_tries n (steps l.fn.seat));
}
