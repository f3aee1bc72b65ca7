use Rattle.std.proofs.Common.{◌≡◌}
use Rattle.lq_tap.specs.Sees.{view, steps, IsSeatOf, IsElseSame}
use Rattle.lq_tap.specs.Steps.{ProducerTries}
use Rattle.lq_tap.proofs.shared.Tap.lock_producer.Given as goal

abbrev pub invariant-loop : goal.invariant-loop
invariant-loop g l = record {
  can : (goal.iterator-loop g).can_next l.iterator';
  ends : (goal.iterator-loop g).is_finite l.iterator';
  seat : IsSeatOf l.self l.seat;
  still : IsElseSame l.fn.seat l.seat;
  same : view l.seat ≡ view l.fn.seat;
  tries : ProducerTries (steps l.fn.seat) (steps l.seat);
}
