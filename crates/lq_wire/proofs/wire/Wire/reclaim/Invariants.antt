use Rattle.std.proofs.Common.{◌≡◌, ◌+◌, length}
use Rattle.lq_model.specs.Wire.{left_at}
use Rattle.lq_wire.proofs.wire.Wire.reclaim.Given as goal

-- so many were taken back, and what is left of the others is left of all
abbrev pub invariant-loop-turn : goal.invariant-loop-turn
invariant-loop-turn l = record {
  left : left_at l.now l.fn.self.ring.items ≡ left_at l.now l.self.ring.items;
  long : length l.self.ring.items + l.turn ≡ length l.fn.self.ring.items;
  free : l.self.free ≡ l.fn.self.free;
  accepted : l.self.accepted ≡ l.fn.self.accepted;
  untold : l.self.untold ≡ l.fn.self.untold;
  card : l.self.card ≡ l.fn.self.card;
}
