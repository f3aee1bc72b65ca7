use Rattle.std.proofs.Common.{◌≡◌, ℕ, ◌+◌, ◌<◌, ◌≤◌, slice_index}
use Rattle.lq_ring_core.specs.Slots.{slot_at}
use Rattle.lq_ring_core.proofs.slots.copy_slots.Given as goal

-- the places that were passed are filled
abbrev pub invariant-loop-place : goal.invariant-loop-place
invariant-loop-place l = record {
  copied : (i : ℕ) → i < l.kept → i < l.place → slice_index l.out i ≡ slot_at l.slots l.size (l.head + i);
  empty : (i : ℕ) → l.kept ≤ i → i < l.place → slice_index l.out i ≡ 0;
}
