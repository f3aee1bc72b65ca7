-- One band while a resize is half done: control has its producer lock and the run lock, and moves the ring's packets by exchanges.
use Rattle.std.specs.Prelude.{◌≡◌, ◌≢◌, ◌⊎◌, ◌<◌, ◌≤◌, ℕ, ◌+◌, ◌*◌, true, false, List, ◌++◌, length, slice_index, Contains}
use Rattle.lq_model.specs.Band.{Band}
use Rattle.lq_band_laws.specs.Seats.{total, Each}
use Rattle.lq_band_laws.specs.Times.{times}
use Rattle.lq_ring_core.specs.Slots.{slot_at}
use Rattle.lq_band_laws.specs.Ring.{Ends, IsAtRest, Lock, locking, word_at}

-- one slot has the packet, and control's hand doesn't
pub record IsInSlot (slots hand : List ℕ) (n : ℕ) : Type 0 where
  pub place : ℕ
  pub there : slice_index slots place ≡ n + 1
  pub alone : (j : ℕ) → slice_index slots j ≡ n + 1 → j ≡ place
  pub not_in_hand : times n hand ≡ 0

-- control's hand has it once, and no slot does
pub record IsInHand (slots hand : List ℕ) (n : ℕ) : Type 0 where
  pub in_hand : times n hand ≡ 1
  pub in_no_slot : (j : ℕ) → slice_index slots j ≢ n + 1

-- The resize counts as done in the account: the band has its kept packets, and those that it dropped, whose fates aren't
-- stored yet, wait. Control knows the slots.
pub record IsHalfResized (slots : List ℕ) (word : ℕ) (seats : List Lock) (band : Band) (waiting known hand : List ℕ) : Type 0 where
  pub index : ℕ
  pub known_is : slots ≡ known
  pub none_taken : band.taken ≡ 0
  pub word_is : word ≡ 2 * index + 1
  pub one : total locking seats ≡ 1
  pub knows : Each (λ l. l.holds ≡ true → l.index ≡ index) seats
  pub none_stored : Each (λ l. l.stored ≡ false) seats
  pub once : (n : ℕ) → Contains (band.line ++ waiting) n → IsInSlot slots hand n ⊎ IsInHand slots hand n

-- no packet stands twice in the line
abbrev pub IsDistinct : List ℕ → Type 0
IsDistinct line = (i j n : ℕ) → word_at line i ≡ n + 1 → word_at line j ≡ n + 1 → i ≡ j

-- the slots from 0 on have the line's packets, and the others are empty
pub record IsRefilled (slots line : List ℕ) (len : ℕ) : Type 0 where
  pub wide : len ≤ length slots
  pub fits : length line ≤ len
  pub filled : (j : ℕ) → j < len → slice_index slots j ≡ word_at line j
  pub beyond : (j : ℕ) → len ≤ j → slice_index slots j ≡ 0

-- the slots at the beginning: the held packets stand from the head on, and no other slot behind it has one
pub record IsBeforeResize (size limit : ℕ) (slots held : List ℕ) (c : Ends) : Type 0 where
  pub rests : IsAtRest size c
  pub long : length slots ≡ limit
  pub inside : size ≤ limit
  pub fits : c.head + length held ≤ c.tail + size
  pub window : (j : ℕ) → c.head + j < c.tail + size → slot_at slots size (c.head + j) ≡ word_at held j
  pub stale : (j n : ℕ) → c.tail ≤ j → j < c.head → Contains held n → slice_index slots j ≢ n + 1
  pub beyond : (j : ℕ) → size ≤ j → slice_index slots j ≡ 0
