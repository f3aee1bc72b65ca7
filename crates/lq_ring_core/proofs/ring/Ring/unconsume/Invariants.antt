use Rattle.std.proofs.Common.{◌≡◌, ◌+◌, ◌<◌, ◌≤◌, length, drop}
use Rattle.lq_ring_core.specs.Ring.{with_before}
use Rattle.lq_ring_core.proofs.ring.Ring.unconsume.Given as goal

-- the entries from `left` on stand before the held ones
abbrev pub invariant-loop-left : goal.invariant-loop-left
invariant-loop-left l = record {
  within : l.left ≤ length l.entries;
  head_within : l.fn.self.head < l.fn.self.size;
  fits : length (drop l.left l.entries) + length l.fn.self.held ≤ l.fn.self.size;
  put : l.self ≡ with_before l.fn.self (drop l.left l.entries);
}

abbrev pub decreases-loop-left : goal.decreases-loop-left
decreases-loop-left l = l.left
