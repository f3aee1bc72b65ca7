-- What each call makes of the slots and the ends.
use Rattle.std.proofs.Common.{◌≡◌, ◌≢◌, ℕ, suc, ◌↔◌, Option, Some, None, ◌+◌, ◌-◌, ◌<◌, ◌≤◌, arith, min, List, [], ◌∷◌, false, true, ◌||◌, leb, eqb, length, slice_index, set, get_or-set_same, get_or-set_other, ◌⊎◌, inl, inr, sym, add-zero, add_assoc, add-one, ◌∙◌, ap, refl}
use Rattle.std.specs.List.{slice_get}
use Rattle.std.specs.Option.{SomeIff}
use Rattle.std.proofs.lemmas.Bool.{cases_lt, lt-leb, ne_eqb, le-leb, eq-eqb, or_left, or_right}
use Rattle.lq_model.specs.Band.{batch}
use Rattle.lq_ring_core.specs.Ring.{next_place, after_produce, after_consume, after_clear, with_before, place_before, after_resize, entries_of, IsFull, IsBounded, RingState}
use Rattle.lq_ring_core.specs.Slots.{round, slot_at, held_count, entries_from, IsUsed, IsCleared, IsCopied, IsInOrder, ring_of}
use Rattle.lq_ring_core.proofs.Places.{round-below, round-above, round-within, round-apart, round-round, round-count, held_count-is, next_place-round, batch-positive, round-place_before, round-last, place_before-within}
use Rattle.lq_ring_core.proofs.Entries.{entries_from-alike, entries_from-same, take-entries_from, entries_from-first, entries_from-append, length-entries_from}
use Rattle.lq_ring_core.proofs.Uses.{IsUsed-set, IsUsed-cleared, slot_at-cleared, IsUsed-set_before, slot_at-set_before, slot_at-set_itself}

-- the slots in use tell how many entries are held
pub held_count-used : (slots : List ℕ) (size producer head tail s c : ℕ) → tail + s ≡ head → head < size → producer ≡ round size (head + c) → IsUsed slots size tail (s + c)
    → held_count slots size head producer ≡ c
held_count-used slots size producer head tail s c e h p u =
    let at_head : round size (tail + s) ≡ head = rw e (round-below size head h) in
    held_count-is slots size head producer c h (omega (arith, u.within)) p (λ z. rw at_head at (u.empty s (omega arith) (omega arith)))
    (λ z. rw at_head at (u.used s (omega arith)))

-- what has to be shown of new slots and ends
pub IsInOrder-from : (slots : List ℕ) (size producer head tail s c : ℕ) → tail + s ≡ head → head < size → s < batch size → producer ≡ round size (head + c)
    → IsUsed slots size tail (s + c) → IsInOrder slots size producer head tail
IsInOrder-from slots size producer head tail s c e h b p u =
    let stale : head - tail ≡ s = omega arith in
    record {
      producer_within = rw p (round-within size (head + c) (omega (arith, u.within)));
      head_within = h;
      tail_before_head = omega arith;
      stale_within_batch = rw stale b;
      uses = rw (held_count-used slots size producer head tail s c e h p u, stale) u;
    }

-- PEEK

pub slice_index-head : (slots : List ℕ) (size producer head tail : ℕ) → IsInOrder slots size producer head tail
    → (slice_index slots head ≡ 0) ↔ (held_count slots size head producer ≡ 0)
slice_index-head slots size producer head tail o =
    let at_head : round size (tail + (head - tail)) ≡ head =
    (let e : tail + (head - tail) ≡ head = omega (arith, o.tail_before_head) in rw e (round-below size head o.head_within)) in (
      λ z. elim (cases_lt 0 (held_count slots size head producer)) [
        | inl some ↦ absurd (omega (arith, z, rw at_head at (o.uses.used (head - tail) (omega arith))))
        | inr none ↦ omega arith
      ],
      λ none. rw at_head at (o.uses.empty (head - tail) (omega arith) (omega (arith, o.head_within, o.tail_before_head))),
    )

pub entries_from-none : (slots : List ℕ) (size place count : ℕ) → count ≡ 0 → entries_from slots size place count ≡ []
entries_from-none slots size place count e = rw e

-- what the slot at the head tells, where v is that slot's
pub peek-first : (slots : List ℕ) (size producer head tail v : ℕ) (r : Option ℕ) → IsInOrder slots size producer head tail → v ≡ slice_index slots head
    → SomeIff r (1 ≤ v) (v - 1) → r ≡ slice_get (entries_from slots size head (held_count slots size head producer)) 0
peek-first slots size producer head tail v None o e none =
    let z : held_count slots size head producer ≡ 0 = (slice_index-head slots size producer head tail o).0 (elim (cases_lt 0 v) [ inl h ↦ absurd (none h) | inr h ↦ omega arith ]) in
    rw (entries_from-none slots size head (held_count slots size head producer) z)
peek-first slots size producer head tail v (Some x) o e some =
    let positive : 0 < held_count slots size head producer =
    elim (cases_lt 0 (held_count slots size head producer)) [
      | inl h ↦ h
      | inr h ↦ absurd (omega (arith, some.0, e, (slice_index-head slots size producer head tail o).1 (omega arith)))
    ] in
    let value : slot_at slots size head - 1 ≡ x = rw (round-below size head o.head_within, ← e) (sym some.1) in
    rw (entries_from-first slots size head (held_count slots size head producer) (held_count slots size head producer - 1) (omega arith), value)

-- PRODUCE

abbrev pub used_count : List ℕ → ℕ → ℕ → ℕ → ℕ → ℕ
used_count slots size producer head tail = (head - tail) + held_count slots size head producer

pub producer-is : (slots : List ℕ) (size producer head tail : ℕ) → IsInOrder slots size producer head tail
    → round size (tail + used_count slots size producer head tail) ≡ producer
producer-is slots size producer head tail o =
    let e : tail + used_count slots size producer head tail ≡ head + held_count slots size head producer = omega (arith, o.tail_before_head) in
    rw e (round-count slots size head producer o.head_within o.producer_within)

-- the slot at the producer is empty unless all are in use
pub slice_index-producer : (slots : List ℕ) (size producer head tail : ℕ) → IsInOrder slots size producer head tail
    → used_count slots size producer head tail < size → slice_index slots producer ≡ 0
slice_index-producer slots size producer head tail o h =
    rw (producer-is slots size producer head tail o) at (o.uses.empty (used_count slots size producer head tail) (omega arith) h)

pub producer-at_tail : (slots : List ℕ) (size producer head tail : ℕ) → IsInOrder slots size producer head tail
    → used_count slots size producer head tail ≡ size → producer ≡ tail
producer-at_tail slots size producer head tail o h =
    let above : round size (tail + used_count slots size producer head tail) ≡ tail + used_count slots size producer head tail - size =
    round-above size (tail + used_count slots size producer head tail) (omega arith) in
    omega (arith, above, producer-is slots size producer head tail o)

pub slice_index-producer_full : (slots : List ℕ) (size producer head tail : ℕ) → IsInOrder slots size producer head tail
    → used_count slots size producer head tail ≡ size → 0 < slice_index slots producer
slice_index-producer_full slots size producer head tail o h =
    let e : round size (tail + 0) ≡ producer =
    rw (add-zero, round-below size tail (omega (arith, o.tail_before_head, o.head_within))) (sym (producer-at_tail slots size producer head tail o h)) in
    rw e at (o.uses.used 0 (omega (arith, o.head_within)))

-- not all slots are in use where the producer's is empty
pub used_count-below : (slots : List ℕ) (size producer head tail : ℕ) → IsInOrder slots size producer head tail
    → slice_index slots producer ≡ 0 → used_count slots size producer head tail < size
used_count-below slots size producer head tail o z =
    elim (cases_lt (used_count slots size producer head tail) size) [
      | inl h ↦ h
      | inr h ↦ absurd (omega (arith, z, slice_index-producer_full slots size producer head tail o (omega (arith, o.uses.within))))
    ]

-- the ends and the slots in use
pub next_place-produce : (slots : List ℕ) (size producer head tail : ℕ) → IsInOrder slots size producer head tail
    → used_count slots size producer head tail < size → next_place size producer ≡ round size (head + (held_count slots size head producer + 1))
next_place-produce slots size producer head tail o below =
    let count = held_count slots size head producer in
    next_place-round size (head + count) producer (omega (arith, o.head_within)) (round-count slots size head producer o.head_within o.producer_within)
    ∙ ap (round size) (add_assoc head count 1)

pub IsUsed-produce : (slots : List ℕ) (size producer head tail n : ℕ) → size ≤ length slots → IsInOrder slots size producer head tail
    → slice_index slots producer ≡ 0 → IsUsed (set slots producer (n + 1)) size tail (head - tail + (held_count slots size head producer + 1))
IsUsed-produce slots size producer head tail n long o z =
    let count = held_count slots size head producer in
    let below : used_count slots size producer head tail < size = used_count-below slots size producer head tail o z in
    let place : round size (tail + (head - tail + count)) ≡ producer = producer-is slots size producer head tail o in
    let added = rw place at (IsUsed-set slots size tail (head - tail + count) (n + 1) long (omega arith) below (omega arith) o.uses) in
    let total : head - tail + count + 1 ≡ head - tail + (count + 1) = omega arith in
    rw total at added

pub IsInOrder-produce : (slots : List ℕ) (size producer head tail n : ℕ) → size ≤ length slots → IsInOrder slots size producer head tail
    → slice_index slots producer ≡ 0 → IsInOrder (set slots producer (n + 1)) size (next_place size producer) head tail
IsInOrder-produce slots size producer head tail n long o z =
    IsInOrder-from (set slots producer (n + 1)) size (next_place size producer) head tail (head - tail) (held_count slots size head producer + 1)
    (omega (arith, o.tail_before_head)) o.head_within o.stale_within_batch (next_place-produce slots size producer head tail o (used_count-below slots size producer head tail o z))
    (IsUsed-produce slots size producer head tail n long o z)

pub held_count-produce : (slots : List ℕ) (size producer head tail n : ℕ) → size ≤ length slots → IsInOrder slots size producer head tail
    → slice_index slots producer ≡ 0 → held_count (set slots producer (n + 1)) size head (next_place size producer) ≡ suc (held_count slots size head producer)
held_count-produce slots size producer head tail n long o z =
    held_count-used (set slots producer (n + 1)) size (next_place size producer) head tail (head - tail) (held_count slots size head producer + 1)
    (omega (arith, o.tail_before_head)) o.head_within (next_place-produce slots size producer head tail o (used_count-below slots size producer head tail o z)) (IsUsed-produce slots size producer head tail n long o z)
    ∙ add-one (held_count slots size head producer)

-- the other slots in use are as before
pub slot_at-produce : (slots : List ℕ) (size producer head tail v i : ℕ) → IsInOrder slots size producer head tail
    → used_count slots size producer head tail < size → i < used_count slots size producer head tail
    → slot_at (set slots producer v) size (tail + i) ≡ slot_at slots size (tail + i)
slot_at-produce slots size producer head tail v i o below h =
    let used = used_count slots size producer head tail in
    let apart : round size (tail + i) ≢ round size (tail + used) =
    round-apart size tail i used (omega (arith, o.tail_before_head, o.head_within)) (omega arith) below (omega arith) in
    get_or-set_other slots producer (round size (tail + i)) v 0 (rw (producer-is slots size producer head tail o) at apart)

-- the entry is put after the others
pub ring_of-produce : (slots : List ℕ) (max_size size producer head tail n : ℕ) → size ≤ length slots → IsInOrder slots size producer head tail
    → slice_index slots producer ≡ 0
    → ring_of (set slots producer (n + 1)) max_size size (next_place size producer) head tail ≡ after_produce (ring_of slots max_size size producer head tail) n
ring_of-produce slots max_size size producer head tail n long o z =
    let count = held_count slots size head producer in
    let stale = head - tail in
    let below : used_count slots size producer head tail < size = used_count-below slots size producer head tail o z in
    let stale_is : entries_from (set slots producer (n + 1)) size tail stale ≡ entries_from slots size tail stale =
    entries_from-alike (set slots producer (n + 1)) slots size tail tail stale
    (λ i h. slot_at-produce slots size producer head tail (n + 1) i o below (omega arith)) in
    let held_is : entries_from (set slots producer (n + 1)) size head count ≡ entries_from slots size head count =
    entries_from-alike (set slots producer (n + 1)) slots size head head count
    (λ i h.
    let e : head + i ≡ tail + (stale + i) = omega (arith, o.tail_before_head) in
    rw e (slot_at-produce slots size producer head tail (n + 1) (stale + i) o below (omega arith))) in
    let last : slot_at (set slots producer (n + 1)) size (head + count) ≡ n + 1 =
    rw (round-count slots size head producer o.head_within o.producer_within) (get_or-set_same slots producer (n + 1) 0 (omega (arith, o.producer_within))) in
    let entry : slot_at (set slots producer (n + 1)) size (head + count) - 1 ≡ n = omega (arith, last) in
    rw (held_count-produce slots size producer head tail n long o z, stale_is, held_is, entry)

-- the stale entries and the held ones are those of the slots in use, from the tail on
pub entries_of-ring_of : (slots : List ℕ) (max_size size producer head tail : ℕ) → tail ≤ head
    → entries_of (ring_of slots max_size size producer head tail) ≡ entries_from slots size tail (used_count slots size producer head tail)
entries_of-ring_of slots max_size size producer head tail h =
    let e : tail + (head - tail) ≡ head = omega arith in
    rw (entries_from-append slots size tail (head - tail) (held_count slots size head producer), e)

pub length-entries_of : (slots : List ℕ) (max_size size producer head tail : ℕ) → tail ≤ head
    → length (entries_of (ring_of slots max_size size producer head tail)) ≡ used_count slots size producer head tail
length-entries_of slots max_size size producer head tail h =
    rw (entries_of-ring_of slots max_size size producer head tail h) (length-entries_from slots size tail (used_count slots size producer head tail))

-- a slot that isn't empty tells that all are in use, and has the first entry
pub full-since : (slots : List ℕ) (max_size size producer head tail : ℕ) → IsInOrder slots size producer head tail → slice_index slots producer ≢ 0
    → IsFull (ring_of slots max_size size producer head tail)
full-since slots max_size size producer head tail o h =
    let used = used_count slots size producer head tail in
    rw (length-entries_of slots max_size size producer head tail o.tail_before_head)
    (elim (cases_lt used size) [ inl below ↦ absurd (h (slice_index-producer slots size producer head tail o below)) | inr all ↦ omega (arith, o.uses.within) ])

pub full-never : (slots : List ℕ) (max_size size producer head tail : ℕ) → IsInOrder slots size producer head tail → slice_index slots producer ≡ 0
    → IsFull (ring_of slots max_size size producer head tail) → ⊥
full-never slots max_size size producer head tail o z full =
    absurd (omega (arith, full, length-entries_of slots max_size size producer head tail o.tail_before_head, used_count-below slots size producer head tail o z))

pub seen-first : (slots : List ℕ) (max_size size producer head tail : ℕ) → IsInOrder slots size producer head tail → slice_index slots producer ≢ 0
    → slice_get (entries_of (ring_of slots max_size size producer head tail)) 0 ≡ Some (slice_index slots producer - 1)
seen-first slots max_size size producer head tail o h =
    let used = used_count slots size producer head tail in
    let all : used ≡ size = sym (length-entries_of slots max_size size producer head tail o.tail_before_head) ∙ full-since slots max_size size producer head tail o h in
    let place : round size tail ≡ producer = round-below size tail (omega (arith, o.head_within, o.tail_before_head)) ∙ sym (producer-at_tail slots size producer head tail o all) in
    rw (entries_of-ring_of slots max_size size producer head tail o.tail_before_head, entries_from-first slots size tail used (used - 1) (omega (arith, all, o.head_within)), place)

-- CONSUME

-- the first held entry, and the others
pub held-first : (slots : List ℕ) (size head count : ℕ) → 0 < count → entries_from slots size head count ≡ (slot_at slots size head - 1) ∷ entries_from slots size (head + 1) (count - 1)
held-first slots size head count h = entries_from-first slots size head count (count - 1) (omega arith)

-- the slots stay as they are
abbrev pub Stays : ℕ → ℕ → ℕ → Type 0
Stays size head tail = (head + 1 - tail < batch size) × (head + 1 < size)

pub held_count-stays : (slots : List ℕ) (size producer head tail : ℕ) → IsInOrder slots size producer head tail → 0 < held_count slots size head producer
    → Stays size head tail → held_count slots size (head + 1) producer ≡ held_count slots size head producer - 1
held_count-stays slots size producer head tail o some stays =
    let count = held_count slots size head producer in
    let total : head - tail + count ≡ head + 1 - tail + (count - 1) = omega (arith, o.tail_before_head) in
    let e : head + count ≡ head + 1 + (count - 1) = omega arith in
    held_count-used slots size producer (head + 1) tail (head + 1 - tail) (count - 1) (omega (arith, o.tail_before_head)) stays.1
    (sym (round-count slots size head producer o.head_within o.producer_within) ∙ ap (round size) e) (rw total at o.uses)

pub IsInOrder-stays : (slots : List ℕ) (size producer head tail : ℕ) → IsInOrder slots size producer head tail → 0 < held_count slots size head producer
    → Stays size head tail → IsInOrder slots size producer (head + 1) tail
IsInOrder-stays slots size producer head tail o some stays =
    let count = held_count slots size head producer in
    let total : head - tail + count ≡ head + 1 - tail + (count - 1) = omega (arith, o.tail_before_head) in
    let e : head + count ≡ head + 1 + (count - 1) = omega arith in
    IsInOrder-from slots size producer (head + 1) tail (head + 1 - tail) (count - 1) (omega (arith, o.tail_before_head)) stays.1 stays.0
    (sym (round-count slots size head producer o.head_within o.producer_within) ∙ ap (round size) e) (rw total at o.uses)

pub ring_of-stays : (slots : List ℕ) (max_size size producer head tail : ℕ) → IsInOrder slots size producer head tail → 0 < held_count slots size head producer
    → Stays size head tail → ring_of slots max_size size producer (head + 1) tail ≡ after_consume (ring_of slots max_size size producer head tail)
ring_of-stays slots max_size size producer head tail o some stays =
    let count = held_count slots size head producer in
    let stale = head - tail in
    let not_batch : leb (batch size) (length (entries_from slots size tail stale) + 1) ≡ false =
    lt-leb (batch size) (length (entries_from slots size tail stale) + 1) (omega (arith, length-entries_from slots size tail stale, o.tail_before_head, stays.0)) in
    let not_end : eqb (head + 1) size ≡ false = ne_eqb (head + 1) size (λ e. absurd (omega (arith, e, stays.1))) in
    let first = held-first slots size head count some in
    let stale_is : head + 1 - tail ≡ suc stale = omega (arith, o.tail_before_head) in
    let at_head : tail + stale ≡ head = omega (arith, o.tail_before_head) in
    rw (not_batch, not_end, held_count-stays slots size producer head tail o some stays, stale_is, at_head, first)

-- the stale slots and the one at the head are emptied
abbrev pub Clears : ℕ → ℕ → ℕ → Type 0
Clears size head tail = (batch size ≤ head + 1 - tail) ⊎ (head + 1 ≡ size)

abbrev pub kept_count : List ℕ → ℕ → ℕ → ℕ → ℕ
kept_count slots size producer head = held_count slots size head producer - 1

pub IsUsed-clears : (slots new : List ℕ) (size producer head tail : ℕ) → IsInOrder slots size producer head tail → 0 < held_count slots size head producer
    → IsCleared slots new tail (head + 1) → IsUsed new size (round size (head + 1)) (0 + kept_count slots size producer head)
IsUsed-clears slots new size producer head tail o some cleared =
    let count = held_count slots size head producer in
    let e : head + 1 ≡ tail + (head + 1 - tail) = omega (arith, o.tail_before_head) in
    let total : head - tail + count - (head + 1 - tail) ≡ 0 + (count - 1) = omega (arith, o.tail_before_head) in
    let u = IsUsed-cleared slots new size tail (head + 1 - tail) (head - tail + count) (omega (arith, o.tail_before_head, o.head_within)) (omega (arith, o.tail_before_head)) (rw e at cleared) o.uses in
    rw (← e, total) at u

pub producer-clears : (slots : List ℕ) (size producer head tail : ℕ) → IsInOrder slots size producer head tail → 0 < held_count slots size head producer
    → producer ≡ round size (round size (head + 1) + kept_count slots size producer head)
producer-clears slots size producer head tail o some =
    let count = held_count slots size head producer in
    let e : head + 1 + (count - 1) ≡ head + count = omega arith in
    rw (round-round size (head + 1) (count - 1) (omega (arith, o.uses.within, o.head_within)), e) (sym (round-count slots size head producer o.head_within o.producer_within))

pub held_count-clears : (slots new : List ℕ) (size producer head tail : ℕ) → IsInOrder slots size producer head tail → 0 < held_count slots size head producer
    → IsCleared slots new tail (head + 1) → held_count new size (round size (head + 1)) producer ≡ kept_count slots size producer head
held_count-clears slots new size producer head tail o some cleared =
    held_count-used new size producer (round size (head + 1)) (round size (head + 1)) 0 (kept_count slots size producer head) (add-zero (round size (head + 1)))
    (round-within size (head + 1) (omega (arith, o.head_within))) (producer-clears slots size producer head tail o some)
    (IsUsed-clears slots new size producer head tail o some cleared)

pub IsInOrder-clears : (slots new : List ℕ) (size producer head tail : ℕ) → IsInOrder slots size producer head tail → 0 < held_count slots size head producer
    → IsCleared slots new tail (head + 1) → IsInOrder new size producer (round size (head + 1)) (round size (head + 1))
IsInOrder-clears slots new size producer head tail o some cleared =
    IsInOrder-from new size producer (round size (head + 1)) (round size (head + 1)) 0 (kept_count slots size producer head) (add-zero (round size (head + 1)))
    (round-within size (head + 1) (omega (arith, o.head_within))) (batch-positive size) (producer-clears slots size producer head tail o some)
    (IsUsed-clears slots new size producer head tail o some cleared)

pub is_cleared : (size head tail : ℕ) (slots : List ℕ) → tail ≤ head → Clears size head tail
    → (leb (batch size) (length (entries_from slots size tail (head - tail)) + 1) || eqb (head + 1) size) ≡ true
is_cleared size head tail slots h (inl e) =
    or_left (leb (batch size) (length (entries_from slots size tail (head - tail)) + 1)) (eqb (head + 1) size)
    (le-leb (batch size) (length (entries_from slots size tail (head - tail)) + 1) (omega (arith, length-entries_from slots size tail (head - tail))))
is_cleared size head tail slots h (inr e) =
    or_right (leb (batch size) (length (entries_from slots size tail (head - tail)) + 1)) (eqb (head + 1) size) (eq-eqb (head + 1) size e)

pub ring_of-clears : (slots new : List ℕ) (max_size size producer head tail : ℕ) → IsInOrder slots size producer head tail → 0 < held_count slots size head producer
    → IsCleared slots new tail (head + 1) → Clears size head tail
    → ring_of new max_size size producer (round size (head + 1)) (round size (head + 1)) ≡ after_consume (ring_of slots max_size size producer head tail)
ring_of-clears slots new max_size size producer head tail o some cleared clears =
    let count = held_count slots size head producer in
    let next : next_place size head ≡ round size (head + 1) = next_place-round size head head (omega (arith, o.head_within)) (round-below size head o.head_within) in
    let none : round size (head + 1) - round size (head + 1) ≡ 0 = omega arith in
    let first = held-first slots size head count some in
    let test = is_cleared size head tail slots o.tail_before_head clears in
    let to_head : head + 1 ≡ tail + (head + 1 - tail) = omega (arith, o.tail_before_head) in
    let others : entries_from new size (round size (head + 1)) (count - 1) ≡ entries_from slots size (head + 1) (count - 1) =
    entries_from-alike new slots size (round size (head + 1)) (head + 1) (count - 1)
    (λ i h.
    let e : tail + (head + 1 - tail + i) ≡ head + 1 + i = omega (arith, o.tail_before_head) in
    let same = slot_at-cleared slots new size tail (head + 1 - tail) i (omega (arith, o.tail_before_head, o.head_within)) (rw to_head at cleared)
    (omega (arith, o.uses.within, o.tail_before_head)) in
    rw (e, ← to_head) at same) in
    rw (test, next, held_count-clears slots new size producer head tail o some cleared, none, first, others)

-- WHAT IS ALWAYS SO

pub IsBounded-ring_of : (slots : List ℕ) (max_size size producer head tail : ℕ) → IsInOrder slots size producer head tail → 0 < size → size ≤ max_size → max_size ≤ 65536
    → IsBounded (ring_of slots max_size size producer head tail)
IsBounded-ring_of slots max_size size producer head tail o positive within max_within =
    let stale = length-entries_from slots size tail (head - tail) in
    let held = length-entries_from slots size head (held_count slots size head producer) in
    record {
      not_empty = positive;
      within_max = within;
      max_within = max_within;
      head_within = o.head_within;
      stale_before_head = omega (arith, stale);
      stale_within_batch = omega (arith, stale, o.stale_within_batch);
      slots_within = omega (arith, stale, held, o.uses.within);
    }

-- something is held
pub held_count-positive : (slots : List ℕ) (max_size size producer head tail : ℕ) (ring : RingState) → ring_of slots max_size size producer head tail ≡ ring
    → 0 < length ring.held → 0 < held_count slots size head producer
held_count-positive slots max_size size producer head tail ring e h =
    omega (arith, rw (← e) at h, length-entries_from slots size head (held_count slots size head producer))

-- UNCONSUME

-- the slots in use, once none is stale
pub IsUsed-clear : (slots new : List ℕ) (size producer head tail : ℕ) → IsInOrder slots size producer head tail → IsCleared slots new tail head
    → IsUsed new size head (0 + held_count slots size head producer)
IsUsed-clear slots new size producer head tail o cleared =
    let count = held_count slots size head producer in
    let e : head ≡ tail + (head - tail) = omega (arith, o.tail_before_head) in
    let total : head - tail + count - (head - tail) ≡ 0 + count = omega arith in
    let place : round size (tail + (head - tail)) ≡ head = rw (← e) (round-below size head o.head_within) in
    let u = IsUsed-cleared slots new size tail (head - tail) (head - tail + count) (omega (arith, o.tail_before_head, o.head_within)) (omega arith) (rw e at cleared) o.uses in
    rw (place, total) at u

pub IsInOrder-clear : (slots new : List ℕ) (size producer head tail : ℕ) → IsInOrder slots size producer head tail → IsCleared slots new tail head
    → IsInOrder new size producer head head
IsInOrder-clear slots new size producer head tail o cleared =
    IsInOrder-from new size producer head head 0 (held_count slots size head producer) (add-zero head) o.head_within (batch-positive size)
    (sym (round-count slots size head producer o.head_within o.producer_within)) (IsUsed-clear slots new size producer head tail o cleared)

pub ring_of-clear : (slots new : List ℕ) (max_size size producer head tail : ℕ) → IsInOrder slots size producer head tail → IsCleared slots new tail head
    → ring_of new max_size size producer head head ≡ after_clear (ring_of slots max_size size producer head tail)
ring_of-clear slots new max_size size producer head tail o cleared =
    let count = held_count slots size head producer in
    let none : head - head ≡ 0 = omega arith in
    let count_is : held_count new size head producer ≡ count =
    held_count-used new size producer head head 0 count (add-zero head) o.head_within
    (sym (round-count slots size head producer o.head_within o.producer_within)) (IsUsed-clear slots new size producer head tail o cleared) in
    let to_head : head ≡ tail + (head - tail) = omega (arith, o.tail_before_head) in
    let place : round size (tail + (head - tail)) ≡ head = rw (← to_head) (round-below size head o.head_within) in
    let held_is : entries_from new size head count ≡ entries_from slots size head count =
    entries_from-alike new slots size head head count
    (λ i h.
    let e : tail + (head - tail + i) ≡ head + i = omega (arith, o.tail_before_head) in
    let same = slot_at-cleared slots new size tail (head - tail) i (omega (arith, o.tail_before_head, o.head_within)) (rw to_head at cleared)
    (omega (arith, o.uses.within, o.tail_before_head)) in
    rw (place, e) at same) in
    rw (none, count_is, held_is)

-- the slot before the head is empty unless all are in use
pub slice_index-before : (slots : List ℕ) (size producer head : ℕ) → IsInOrder slots size producer head head
    → (slice_index slots (place_before size head 1) ≡ 0) ↔ (held_count slots size head producer < size)
slice_index-before slots size producer head o =
    let count = held_count slots size head producer in
    let total : head - head + count ≡ count = omega arith in
    let u : IsUsed slots size head count = rw total at o.uses in
    let place : round size (head + (size - 1)) ≡ place_before size head 1 = round-last size head o.head_within in (
      λ z. elim (cases_lt count size) [
        | inl h ↦ h
        | inr h ↦ absurd (omega (arith, z, rw place at (u.used (size - 1) (omega (arith, o.head_within)))))
      ],
      λ h. rw place at (u.empty (size - 1) (omega arith) (omega (arith, o.head_within))),
    )

pub producer-before : (slots : List ℕ) (size producer head : ℕ) → IsInOrder slots size producer head head → held_count slots size head producer < size
    → producer ≡ round size (place_before size head 1 + (held_count slots size head producer + 1))
producer-before slots size producer head o h =
    sym (round-place_before size head (held_count slots size head producer) o.head_within h ∙ round-count slots size head producer o.head_within o.producer_within)

pub IsUsed-before : (slots : List ℕ) (size producer head n : ℕ) → size ≤ length slots → IsInOrder slots size producer head head → held_count slots size head producer < size
    → IsUsed (set slots (place_before size head 1) (n + 1)) size (place_before size head 1) (0 + (held_count slots size head producer + 1))
IsUsed-before slots size producer head n long o h =
    let count = held_count slots size head producer in
    let total : head - head + count ≡ count = omega arith in
    IsUsed-set_before slots size head count (n + 1) long o.head_within h (omega arith) (rw total at o.uses)

pub IsInOrder-before : (slots : List ℕ) (size producer head n : ℕ) → size ≤ length slots → IsInOrder slots size producer head head
    → held_count slots size head producer < size
    → IsInOrder (set slots (place_before size head 1) (n + 1)) size producer (place_before size head 1) (place_before size head 1)
IsInOrder-before slots size producer head n long o h =
    let place = place_before size head 1 in
    IsInOrder-from (set slots place (n + 1)) size producer place place 0 (held_count slots size head producer + 1) (add-zero place) (place_before-within size head o.head_within)
    (batch-positive size) (producer-before slots size producer head o h) (IsUsed-before slots size producer head n long o h)

pub ring_of-before : (slots : List ℕ) (max_size size producer head n : ℕ) → size ≤ length slots → IsInOrder slots size producer head head
    → held_count slots size head producer < size
    → ring_of (set slots (place_before size head 1) (n + 1)) max_size size producer (place_before size head 1) (place_before size head 1)
    ≡ with_before (ring_of slots max_size size producer head head) (n ∷ [])
ring_of-before slots max_size size producer head n long o h =
    let count = held_count slots size head producer in
    let place = place_before size head 1 in
    let new = set slots place (n + 1) in
    let none : (p : ℕ) → p - p ≡ 0 = λ p. omega arith in
    let count_is : held_count new size place producer ≡ count + 1 =
    held_count-used new size producer place place 0 (count + 1) (add-zero place) (place_before-within size head o.head_within)
    (producer-before slots size producer head o h) (IsUsed-before slots size producer head n long o h) in
    let first : entries_from new size place (count + 1) ≡ (slot_at new size place - 1) ∷ entries_from new size (place + 1) count =
    entries_from-first new size place (count + 1) count (omega arith) in
    let entry : slot_at new size place - 1 ≡ n = omega (arith, slot_at-set_itself slots size head (n + 1) long o.head_within) in
    let held_is : entries_from new size (place + 1) count ≡ entries_from slots size head count =
    entries_from-alike new slots size (place + 1) head count
    (λ i hi.
    let e : place + 1 + i ≡ place + (i + 1) = omega arith in
    rw e (slot_at-set_before slots size head (n + 1) i o.head_within (omega arith))) in
    rw (none place, count_is, first, entry, held_is)

-- where nothing is stale, the ends meet
pub ends-meet : (slots : List ℕ) (max_size size producer head tail : ℕ) (ring : RingState) → IsInOrder slots size producer head tail
    → ring_of slots max_size size producer head tail ≡ ring → ring.stale ≡ [] → tail ≡ head
ends-meet slots max_size size producer head tail ring o e none =
    omega (arith, o.tail_before_head, length-entries_from slots size tail (head - tail), ap length (rw (← e) at none))

pub room-before : (slots : List ℕ) (max_size size producer head tail : ℕ) (ring : RingState) → IsInOrder slots size producer head head
    → ring_of slots max_size size producer head tail ≡ ring
    → (slice_index slots (place_before size head 1) ≡ 0) ↔ (length ring.held < ring.size)
room-before slots max_size size producer head tail ring o e =
    rw (← e, length-entries_from slots size head (held_count slots size head producer)) (slice_index-before slots size producer head o)

-- RESIZE

-- the slots of the held entries aren't empty
pub slot_at-held : (slots : List ℕ) (size producer head tail i : ℕ) → IsInOrder slots size producer head tail → i < held_count slots size head producer
    → 0 < slot_at slots size (head + i)
slot_at-held slots size producer head tail i o h =
    let e : tail + (head - tail + i) ≡ head + i = omega (arith, o.tail_before_head) in
    rw e at (o.uses.used (head - tail + i) (omega arith))

pub IsUsed-refilled : (slots new : List ℕ) (size producer head tail kept new_size : ℕ) → IsInOrder slots size producer head tail
    → kept ≤ held_count slots size head producer → kept ≤ new_size → IsCopied slots size head new kept new_size → IsUsed new new_size 0 (0 + kept)
IsUsed-refilled slots new size producer head tail kept new_size o few within filled =
    let at : (i : ℕ) → i < new_size → slot_at new new_size (0 + i) ≡ slice_index new i =
    λ i h. let e : 0 + i ≡ i = omega arith in rw (e, round-below new_size i h) in
    record {
      within = omega arith;
      used = λ i h. rw (at i (omega arith), filled.copied i (omega arith)) (slot_at-held slots size producer head tail i o (omega arith));
      empty = λ i h hi. rw (at i hi) (filled.empty i (omega arith) hi);
    }

pub IsInOrder-refilled : (slots new : List ℕ) (size producer head tail kept new_size : ℕ) → IsInOrder slots size producer head tail → 0 < new_size
    → kept ≤ held_count slots size head producer → kept ≤ new_size → IsCopied slots size head new kept new_size → IsInOrder new new_size (round new_size kept) 0 0
IsInOrder-refilled slots new size producer head tail kept new_size o positive few within filled =
    let e : 0 + kept ≡ kept = omega arith in
    IsInOrder-from new new_size (round new_size kept) 0 0 0 kept (add-zero 0) positive (batch-positive new_size) (rw e refl)
    (IsUsed-refilled slots new size producer head tail kept new_size o few within filled)

pub entries_from-refilled : (slots new : List ℕ) (size producer head tail kept new_size : ℕ) → IsInOrder slots size producer head tail → 0 < new_size
    → kept ≤ held_count slots size head producer → kept ≤ new_size → IsCopied slots size head new kept new_size
    → entries_from new new_size 0 (held_count new new_size 0 (round new_size kept)) ≡ entries_from slots size head kept
entries_from-refilled slots new size producer head tail kept new_size o positive few within filled =
    let e : 0 + kept ≡ kept = omega arith in
    let count_is : held_count new new_size 0 (round new_size kept) ≡ kept =
    held_count-used new new_size (round new_size kept) 0 0 0 kept (add-zero 0) positive (rw e refl) (IsUsed-refilled slots new size producer head tail kept new_size o few within filled) in
    rw count_is
    (entries_from-same new slots new_size size 0 head kept
    (λ i h. let f : 0 + i ≡ i = omega arith in rw (f, round-below new_size i (omega arith)) (filled.copied i h)))

-- the kept entries, and the others
pub ring_of-refilled : (slots new : List ℕ) (max_size size producer head tail kept new_size : ℕ) → IsInOrder slots size producer head tail → 0 < new_size
    → kept ≡ min (held_count slots size head producer) new_size → IsCopied slots size head new kept new_size
    → ring_of new max_size new_size (round new_size kept) 0 0 ≡ after_resize (ring_of slots max_size size producer head tail) new_size
ring_of-refilled slots new max_size size producer head tail kept new_size o positive least filled =
    let none : 0 - 0 ≡ 0 = omega arith in
    let held = entries_from-refilled slots new size producer head tail kept new_size o positive (omega arith) (omega arith) filled in
    rw (none, held, take-entries_from slots size head (held_count slots size head producer) new_size kept least)

-- what the view tells of the fields
pub record IsSeen (slots : List ℕ) (max_size size producer head : ℕ) (ring : RingState) : Type 0 where
  pub size_is : ring.size ≡ size
  pub max_size_is : ring.max_size ≡ max_size
  pub held_is : ring.held ≡ entries_from slots size head (held_count slots size head producer)
  pub held_length : length ring.held ≡ held_count slots size head producer

pub IsSeen-ring_of : (slots : List ℕ) (max_size size producer head tail : ℕ) (ring : RingState) → ring_of slots max_size size producer head tail ≡ ring
    → IsSeen slots max_size size producer head ring
IsSeen-ring_of slots max_size size producer head tail ring e =
    record {
      size_is = rw (← e) refl;
      max_size_is = rw (← e) refl;
      held_is = rw (← e) refl;
      held_length = rw (← e) (length-entries_from slots size head (held_count slots size head producer));
    }
