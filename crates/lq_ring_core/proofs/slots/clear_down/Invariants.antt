use Rattle.std.proofs.Common.{◌≤◌}
use Rattle.lq_ring_core.specs.Slots.{IsCleared}
use Rattle.lq_ring_core.proofs.slots.clear_down.Given as goal

-- the slots from the place on are empty
abbrev pub invariant-loop-place : goal.invariant-loop-place
invariant-loop-place l = record { after_start : l.start ≤ l.place; before_end : l.place ≤ l.end; cleared : IsCleared l.fn.slots l.slots l.place l.end }

abbrev pub decreases-loop-place : goal.decreases-loop-place
decreases-loop-place l = l.place
