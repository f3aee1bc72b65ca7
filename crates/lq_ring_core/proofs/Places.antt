-- Places round the ring.
use Rattle.std.proofs.Common.{◌≡◌, ◌≢◌, ℕ, ◌+◌, ◌-◌, ◌<◌, ◌≤◌, arith, List, slice_index}
use Rattle.std.proofs.lemmas.Bool.Decides.{nat_tests}
use Rattle.lq_model.specs.Band.{batch}
use Rattle.lq_ring_core.specs.Ring.{next_place, place_before}
use Rattle.lq_ring_core.specs.Slots.{round, distance, held_count}

pub round-below : (size p : ℕ) → p < size → round size p ≡ p
round-below size p h = grind (arith, nat_tests)

pub round-above : (size p : ℕ) → size ≤ p → round size p ≡ p - size
round-above size p h = grind (arith, nat_tests)

pub round-within : (size p : ℕ) → p < size + size → round size p < size
round-within size p h = grind (arith, nat_tests)

-- two steps are one
pub round-round : (size p k : ℕ) → p + k < size + size → round size (round size p + k) ≡ round size (p + k)
round-round size p k h = grind (arith, nat_tests)

-- places less than a whole lap apart differ
pub round-apart : (size p i j : ℕ) → p < size → i < size → j < size → i ≢ j → round size (p + i) ≢ round size (p + j)
round-apart size p i j hp hi hj e = grind (arith, nat_tests)

pub round-count : (slots : List ℕ) (size head producer : ℕ) → head < size → producer < size
    → round size (head + held_count slots size head producer) ≡ producer
round-count slots size head producer hh hp = grind (arith, nat_tests)

-- the count is told from the producer and the slot at the head
pub held_count-is : (slots : List ℕ) (size head producer c : ℕ) → head < size → c ≤ size → producer ≡ round size (head + c)
    → (c ≡ 0 → slice_index slots head ≡ 0) → (0 < c → 0 < slice_index slots head) → held_count slots size head producer ≡ c
held_count-is slots size head producer c hh hc e none some = grind (arith, nat_tests)

-- the place after the one that is counted on to
pub next_place-round : (size p place : ℕ) → p + 1 < size + size → round size p ≡ place → next_place size place ≡ round size (p + 1)
next_place-round size p place h e = grind (arith, nat_tests)

pub batch-positive : (size : ℕ) → 0 < batch size
batch-positive size = grind (arith, nat_tests)

-- THE COUNT

pub held_count-all : (slots : List ℕ) (size head producer : ℕ) → head < size → producer < size → distance size head producer ≡ 0
    → slice_index slots head ≢ 0 → size ≡ held_count slots size head producer
held_count-all slots size head producer hh hp ahead some = grind (arith, nat_tests)

pub held_count-ahead : (slots : List ℕ) (size head producer : ℕ) → head < size → producer < size
    → (distance size head producer ≡ 0 → slice_index slots head ≡ 0) → distance size head producer ≡ held_count slots size head producer
held_count-ahead slots size head producer hh hp none = grind (arith, nat_tests)

-- THE PLACE BEFORE

pub place_before-within : (size head : ℕ) → head < size → place_before size head 1 < size
place_before-within size head h = grind (arith, nat_tests)

pub round-place_before : (size head i : ℕ) → head < size → i < size → round size (place_before size head 1 + (i + 1)) ≡ round size (head + i)
round-place_before size head i h hi = grind (arith, nat_tests)

pub round-last : (size head : ℕ) → head < size → round size (head + (size - 1)) ≡ place_before size head 1
round-last size head h = grind (arith, nat_tests)
