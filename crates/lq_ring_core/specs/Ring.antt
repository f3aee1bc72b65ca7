-- A pointer ring as its callers see it, and what each call makes of it.
use Rattle.std.specs.Prelude.{◌≡◌, ℕ, zero, suc, ◌+◌, ◌-◌, ◌<◌, ◌≤◌, ◌||◌, nat_le, ◌==◌, if◌then◌else◌, List, [], ◌∷◌, ◌++◌, length, take, drop}
use Rattle.lq_model.specs.Band.{batch}

-- RINGS

pub record RingState : Type 0 where
  -- how many slots are in use, and how many may ever be
  pub size : ℕ
  pub max_size : ℕ
  -- the place of the slot that is consumed next
  pub head : ℕ
  -- the entries that were consumed and whose slots aren't empty yet, the oldest first: they stand before the head
  pub stale : List ℕ
  -- the entries that are held, the oldest first: they stand from the head on
  pub held : List ℕ

-- what is always so
pub record IsBounded (ring : RingState) : Type 0 where
  pub not_empty : 0 < ring.size
  pub within_max : ring.size ≤ ring.max_size
  pub max_within : ring.max_size ≤ 65536
  pub head_within : ring.head < ring.size
  pub stale_before_head : length ring.stale ≤ ring.head
  pub stale_within_batch : length ring.stale < batch ring.size
  pub slots_within : length ring.stale + length ring.held ≤ ring.size

abbrev pub new_ring : ℕ → ℕ → RingState
new_ring size max_size = record { size = size; max_size = max_size; head = 0; stale = []; held = [] }

-- PRODUCE

-- the slots that aren't empty, from the tail on
abbrev pub entries_of : RingState → List ℕ
entries_of ring = ring.stale ++ ring.held

-- no slot is empty
abbrev pub IsFull : RingState → Type 0
IsFull ring = length (entries_of ring) ≡ ring.size

abbrev pub after_produce : RingState → ℕ → RingState
after_produce ring n = record ring { held = ring.held ++ n ∷ [] }

-- CONSUME

-- the place behind another, round the ring
abbrev pub next_place : ℕ → ℕ → ℕ
next_place size place = if place + 1 == size then 0 else place + 1

-- The first held entry becomes stale. The stale slots are emptied once there is a batch of them, and where the
-- head comes to the last slot's end.
abbrev pub after_consume : RingState → RingState
after_consume ring =
    record ring {
      head = next_place ring.size ring.head;
      stale = if nat_le (batch ring.size) (length ring.stale + 1) || (ring.head + 1 == ring.size) then [] else ring.stale ++ take 1 ring.held;
      held = drop 1 ring.held;
    }

-- after so many consumes
abbrev pub after_consumes : ℕ → RingState → RingState
after_consumes zero ring = ring
after_consumes (suc n) ring = after_consume (after_consumes n ring)

-- UNCONSUME

-- no slot is stale any more
abbrev pub after_clear : RingState → RingState
after_clear ring = record ring { stale = [] }

-- how many of these entries find no slot beside the held ones
abbrev pub excess : RingState → List ℕ → ℕ
excess ring entries = length entries + length ring.held - ring.size

-- the place that lies so far before another, round the ring
abbrev pub place_before : ℕ → ℕ → ℕ → ℕ
place_before size place count = if nat_le count place then place - count else place + size - count

-- with these entries before the held ones
abbrev pub with_before : RingState → List ℕ → RingState
with_before ring entries = record ring { head = place_before ring.size ring.head (length entries); stale = []; held = entries ++ ring.held }

-- The entries at the front are destroyed, as many as find no slot; the others stand before the held ones.
abbrev pub after_unconsume : RingState → List ℕ → RingState
after_unconsume ring entries = with_before ring (drop (excess ring entries) entries)

-- RESIZE

-- the first held entries are kept, so many as the new size, and stand from slot 0 on
abbrev pub after_resize : RingState → ℕ → RingState
after_resize ring size = record ring { size = size; head = 0; stale = []; held = take size ring.held }

-- the others are destroyed
abbrev pub dropped_of : RingState → ℕ → List ℕ
dropped_of ring size = drop size ring.held
