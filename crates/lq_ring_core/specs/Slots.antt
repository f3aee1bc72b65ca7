-- Which entries the slots hold. An empty slot is 0, and one with an entry has the entry plus 1.
use Rattle.std.specs.Prelude.{◌≡◌, ℕ, zero, suc, ◌+◌, ◌-◌, ◌<◌, ◌≤◌, ◌&&◌, nat_lt, nat_le, ◌==◌, if◌then◌else◌, List, [], ◌∷◌, ◌++◌, length, slice_index}
use Rattle.lq_model.specs.Band.{batch}
use Rattle.lq_ring_core.specs.Ring.{RingState}

-- a place that may lie behind the last slot, counted on from slot 0
abbrev pub round : ℕ → ℕ → ℕ
round size place = if nat_lt place size then place else place - size

abbrev pub slot_at : List ℕ → ℕ → ℕ → ℕ
slot_at slots size place = slice_index slots (round size place)

-- the entries of so many slots, from a place on
abbrev pub entries_from : List ℕ → ℕ → ℕ → ℕ → List ℕ
entries_from slots size place zero = []
entries_from slots size place (suc n) = entries_from slots size place n ++ (slot_at slots size (place + n) - 1) ∷ []

-- how far the producer is ahead of the head
abbrev pub distance : ℕ → ℕ → ℕ → ℕ
distance size head producer = if nat_le head producer then producer - head else producer + size - head

-- how many entries are held: where the producer is at the head, the slot there tells none from all
abbrev pub held_count : List ℕ → ℕ → ℕ → ℕ → ℕ
held_count slots size head producer =
    if (producer == head) && nat_lt 0 (slice_index slots head) then size else distance size head producer

-- so many slots from the tail on have an entry, and the others are empty
pub record IsUsed (slots : List ℕ) (size tail count : ℕ) : Type 0 where
  pub within : count ≤ size
  pub used : (i : ℕ) → i < count → 0 < slot_at slots size (tail + i)
  pub empty : (i : ℕ) → count ≤ i → i < size → slot_at slots size (tail + i) ≡ 0

-- what callers see of the slots and the ends
abbrev pub ring_of : List ℕ → ℕ → ℕ → ℕ → ℕ → ℕ → RingState
ring_of slots max_size size producer head tail =
    record {
      size = size;
      max_size = max_size;
      head = head;
      stale = entries_from slots size tail (head - tail);
      held = entries_from slots size head (held_count slots size head producer);
    }

-- the ends are places, fewer slots than a batch are stale, and the slots in use are the stale and the held ones
pub record IsInOrder (slots : List ℕ) (size producer head tail : ℕ) : Type 0 where
  pub producer_within : producer < size
  pub head_within : head < size
  pub tail_before_head : tail ≤ head
  pub stale_within_batch : head - tail < batch size
  pub uses : IsUsed slots size tail ((head - tail) + held_count slots size head producer)

-- the slots from one place up to another are empty now, and the others are as before
pub record IsCleared (old new : List ℕ) (start end : ℕ) : Type 0 where
  pub same_length : length new ≡ length old
  pub cleared : (i : ℕ) → start ≤ i → i < end → slice_index new i ≡ 0
  pub below : (i : ℕ) → i < start → slice_index new i ≡ slice_index old i
  pub above : (i : ℕ) → end ≤ i → slice_index new i ≡ slice_index old i

-- the new slots are so many of the old ones, from the head on, and then empty ones
pub record IsCopied (slots : List ℕ) (size head : ℕ) (new : List ℕ) (kept new_size : ℕ) : Type 0 where
  pub copied : (i : ℕ) → i < kept → slice_index new i ≡ slot_at slots size (head + i)
  pub empty : (i : ℕ) → kept ≤ i → i < new_size → slice_index new i ≡ 0
