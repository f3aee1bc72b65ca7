-- One band of a table as words: its slots and its producer word, what the seats know that lock it, and how far its
-- consumer is, against the band of the account.
use Rattle.std.specs.Prelude.{◌≡◌, ◌<◌, ◌≤◌, ℕ, zero, suc, ◌+◌, ◌*◌, ◌-◌, Bool, true, false, ◌&&◌, ◌||◌, nat_le, nat_lt, ◌==◌, if◌then◌else◌, List, [], ◌∷◌, length, slice_index, Option, Some, None}
use Rattle.lq_model.specs.Band.{Band, batch}
use Rattle.lq_ring_core.specs.Ring.{next_place}
use Rattle.lq_ring_core.specs.Slots.{round, slot_at}
use Rattle.lq_band_laws.specs.Seats.{total, Each}

-- THE CONSUMER

-- How far the consumer is: the slot to be taken next, the slot to be emptied at last, and the end of those that aren't
-- emptied yet. While a batch is being emptied the edge goes down from the head to the tail, and the head may be the size.
pub record Ends : Type 0 where
  pub head : ℕ
  pub tail : ℕ
  pub edge : ℕ

abbrev pub at_start : Ends
at_start = record { head = 0; tail = 0; edge = 0 }

-- the ends where no slot before the head has anything
abbrev pub cleared_at : ℕ → Ends
cleared_at place = record { head = place; tail = place; edge = place }

-- the band where the packet that was taken last was given back
abbrev pub given_back_one : Band → Band
given_back_one band = record { line = band.line; taken = band.taken - 1 }

-- a batch was taken, or the last slot, and not all of its slots are empty
abbrev pub is_emptying : ℕ → Ends → Bool
is_emptying size c = nat_le (c.tail + batch size) c.head || (c.head == size)

-- after the packet at the head was taken
abbrev pub taken_on : Ends → Ends
taken_on c = record { head = c.head + 1; tail = c.tail; edge = c.head + 1 }

-- the ends once all slots of a batch are empty
abbrev pub all_empty : ℕ → Ends → Ends
all_empty size c = if c.head == size then at_start else record { head = c.head; tail = c.head; edge = c.head }

-- after the slot below the edge was emptied
abbrev pub emptied_on : ℕ → Ends → Ends
emptied_on size c =
    if c.tail + 1 == c.edge then all_empty size c
    else record { head = c.head; tail = c.tail; edge = c.edge - 1 }

-- after so many of the slots below the head were emptied
abbrev pub emptied_down : ℕ → Ends → ℕ → Ends
emptied_down size c n = if c.tail + n == c.head then all_empty size c else record { head = c.head; tail = c.tail; edge = c.head - n }

-- after a take with all the emptying that it asks
abbrev pub after_take : ℕ → Ends → Ends
after_take size c = if is_emptying size (taken_on c) then all_empty size (taken_on c) else taken_on c

-- between two takes
abbrev pub IsAtRest : ℕ → Ends → Type 0
IsAtRest size c = (c.tail ≤ c.head) × (c.head < size) × (c.edge ≡ c.head) × (is_emptying size c ≡ false)

pub record AreEnds (size : ℕ) (c : Ends) : Type 0 where
  pub positive : 0 < size
  pub tail_within : c.tail < size
  pub head_within : c.head ≤ size
  pub tail_first : c.tail ≤ c.head
  pub few : c.head ≤ c.tail + batch size
  pub edge_within : c.edge ≤ c.head
  pub resting : is_emptying size c ≡ false → c.edge ≡ c.head
  pub emptying : is_emptying size c ≡ true → c.tail < c.edge

-- The ends of a consumer that may stand anywhere and may be emptying any of the slots before its head: where it has emptied all of
-- them, its tail is at its head.
pub record AreBounds (size : ℕ) (c : Ends) : Type 0 where
  pub positive : 0 < size
  pub tail_within : c.tail < size
  pub head_within : c.head ≤ size
  pub tail_first : c.tail ≤ c.edge
  pub edge_within : c.edge ≤ c.head
  pub few : c.head ≤ c.tail + batch size
  pub all_emptied : c.edge ≤ c.tail → c.head ≤ c.tail

-- THE SLOTS

-- the word of the packet at a place of the line, and 0 behind its end
abbrev pub word_at : List ℕ → ℕ → ℕ
word_at [] i = 0
word_at (n ∷ ns) zero = n + 1
word_at (n ∷ ns) (suc i) = word_at ns i

-- What stands in the slot of a place, counted from slot 0 of the lap that the consumer is in: the packet of this place
-- of the line, or 0 where it was emptied or nothing joined yet.
abbrev pub content : List ℕ → ℕ → Ends → ℕ → ℕ
content line lap c j = if nat_le c.edge j && nat_lt j c.head then 0 else word_at line (lap + j)

pub record IsWindow (size : ℕ) (slots line : List ℕ) (lap : ℕ) (c : Ends) : Type 0 where
  pub wide : size ≤ length slots
  pub window : (j : ℕ) → c.tail ≤ j → j < c.tail + size → slot_at slots size j ≡ content line lap c j
  pub beyond : (j : ℕ) → size ≤ j → slice_index slots j ≡ 0

-- THE PRODUCERS

-- What a seat knows of the band's producer lock: whether it has it, the index under it, the size where it was loaded
-- under it, whether the slot at the index was loaded as 0 under it, and whether it has stored a packet there.
pub record Lock : Type 0 where
  pub holds : Bool
  pub index : ℕ
  pub size : Option ℕ
  pub room : Bool
  pub stored : Bool

abbrev pub unlocked : Lock
unlocked = record { holds = false; index = 0; size = None; room = false; stored = false }

abbrev pub locked_at : ℕ → Lock
locked_at index = record { holds = true; index = index; size = None; room = false; stored = false }

abbrev pub sized_at : ℕ → Lock → Lock
sized_at size l = record l { size = Some size }

-- where the seat has the lock
abbrev pub sized_if : ℕ → Lock → Lock
sized_if size l = if l.holds then sized_at size l else l

abbrev pub with_room : Lock → Lock
with_room l = record l { room = true }

abbrev pub without_room : Lock → Lock
without_room l = record l { room = false }

abbrev pub having_stored : Lock → Lock
having_stored l = record l { room = false; stored = true }

abbrev pub locking : Lock → ℕ
locking l = if l.holds then 1 else 0

abbrev pub stored_count : Lock → ℕ
stored_count l = if l.stored then 1 else 0

-- the index, or the one behind it where a packet was stored and the index isn't given back yet
abbrev pub index_behind : ℕ → ℕ → ℕ → ℕ
index_behind size zero index = index
index_behind size (suc n) index = next_place size index

-- the index that a seat gives back
abbrev pub index_given : ℕ → Lock → ℕ
index_given size l = index_behind size (stored_count l) l.index

pub record KnowsLock (size index top ahead : ℕ) (l : Lock) : Type 0 where
  pub index_is : l.holds ≡ true → l.index ≡ index
  pub size_is : (n : ℕ) → l.holds ≡ true → l.size ≡ Some n → n ≡ size
  pub has_room : l.holds ≡ true → l.room ≡ true → ahead < top
  pub stores : l.stored ≡ true → l.holds ≡ true

-- THE BAND

-- The words hold the band, wherever its consumer stands.
pub record HoldsBand (size : ℕ) (slots : List ℕ) (word : ℕ) (seats : List Lock) (band : Band) (c : Ends) : Type 0 where
  -- the place of the line that slot 0 has in the consumer's lap, how far the line's end is from there, and the index
  pub lap : ℕ
  pub ahead : ℕ
  pub index : ℕ
  -- how many laps the consumer has made
  pub laps : ℕ
  pub lap_is : lap ≡ laps * size
  pub bounds : AreBounds size c
  pub line_is : length band.line ≡ lap + ahead
  pub taken_is : band.taken ≡ lap + c.head
  pub taken_within : c.head ≤ ahead
  pub fits : ahead ≤ c.tail + size
  pub slots_are : IsWindow size slots band.line lap c
  pub word_is : word ≡ 2 * index + total locking seats
  pub one : total locking seats ≤ 1
  pub index_within : index < size
  pub index_is : index_behind size (total stored_count seats) index ≡ round size ahead
  pub knows : Each (KnowsLock size index (c.tail + size) ahead) seats

-- They hold the band of a consumer that only takes: it empties whole batches, from the slot 0 on.
pub record IsRing (size : ℕ) (slots : List ℕ) (word : ℕ) (seats : List Lock) (band : Band) (c : Ends) : Type 0 where
  -- the place of the line that slot 0 has in the consumer's lap, how far the line's end is from there, and the index
  pub lap : ℕ
  pub ahead : ℕ
  pub index : ℕ
  -- how many laps the consumer has made, and how many batches it has emptied in this one
  pub laps : ℕ
  pub batches : ℕ
  pub lap_is : lap ≡ laps * size
  pub tail_is : c.tail ≡ batches * batch size
  pub ends : AreEnds size c
  pub line_is : length band.line ≡ lap + ahead
  pub taken_is : band.taken ≡ lap + c.head
  pub taken_within : c.head ≤ ahead
  pub fits : ahead ≤ c.tail + size
  pub slots_are : IsWindow size slots band.line lap c
  pub word_is : word ≡ 2 * index + total locking seats
  pub one : total locking seats ≤ 1
  pub index_within : index < size
  pub index_is : index_behind size (total stored_count seats) index ≡ round size ahead
  pub knows : Each (KnowsLock size index (c.tail + size) ahead) seats
