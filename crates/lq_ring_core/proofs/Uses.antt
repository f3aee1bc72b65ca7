-- Which slots are in use, after each change.
use Rattle.std.proofs.Common.{◌≡◌, ◌≢◌, ℕ, ◌+◌, ◌-◌, ◌<◌, ◌≤◌, arith, List, length, slice_index, get_or, set, get_or-set_same, get_or-set_other, length-set, inl, inr, refl, ap, add-zero, ◌∙◌}
use Rattle.std.proofs.lemmas.Bool.{cases_eq, cases_lt}
use Rattle.lq_ring_core.specs.Slots.{round, slot_at, IsUsed, IsCleared}
use Rattle.lq_ring_core.proofs.Places.{round-below, round-above, round-within, round-apart, round-round, round-place_before, place_before-within}
use Rattle.lq_ring_core.specs.Ring.{place_before}

-- one more, after the others
pub IsUsed-set : (slots : List ℕ) (size tail count v : ℕ) → size ≤ length slots → tail < size → count < size → 0 < v → IsUsed slots size tail count
    → IsUsed (set slots (round size (tail + count)) v) size tail (count + 1)
IsUsed-set slots size tail count v long ht hc hv u =
    let place = round size (tail + count) in
    let in_slots : place < length slots = omega (arith, round-within size (tail + count) (omega arith)) in
    let other : (i : ℕ) → i < size → i ≢ count → get_or (set slots place v) (round size (tail + i)) 0 ≡ get_or slots (round size (tail + i)) 0 =
    λ i hi e. get_or-set_other slots place (round size (tail + i)) v 0 (round-apart size tail i count ht hi hc e) in
    record {
      within = omega arith;
      used = λ i h.
          elim (cases_eq i count) [
            | inl e ↦ rw (e, get_or-set_same slots place v 0 in_slots) hv
            | inr e ↦ rw (other i (omega arith) e) (u.used i (omega arith))
          ];
      empty = λ i h hi. rw (other i hi (omega arith)) (u.empty i (omega arith) hi);
    }

-- where the first k are cleared, the slots after them are as before
pub slot_at-cleared : (old new : List ℕ) (size tail k i : ℕ) → tail + k ≤ size → IsCleared old new tail (tail + k) → i < size - k
    → slot_at new size (round size (tail + k) + i) ≡ slot_at old size (tail + (k + i))
slot_at-cleared old new size tail k i hk cleared hi =
    let e : tail + k + i ≡ tail + (k + i) = omega arith in
    rw (round-round size (tail + k) i (omega arith), e)
    (elim (cases_lt (tail + (k + i)) size) [
      | inl h ↦ rw (round-below size (tail + (k + i)) h) (cleared.above (tail + (k + i)) (omega arith))
      | inr h ↦ rw (round-above size (tail + (k + i)) h) (cleared.below (tail + (k + i) - size) (omega arith))
    ])

-- and they themselves are empty
pub slot_at-cleared_itself : (old new : List ℕ) (size tail k i : ℕ) → tail + k ≤ size → IsCleared old new tail (tail + k) → size - k ≤ i → i < size
    → slot_at new size (round size (tail + k) + i) ≡ 0
slot_at-cleared_itself old new size tail k i hk cleared hi hs =
    rw (round-round size (tail + k) i (omega arith), round-above size (tail + k + i) (omega arith))
    (cleared.cleared (tail + k + i - size) (omega arith) (omega arith))

-- the first k, which lie before the last slot's end, are cleared
pub IsUsed-cleared : (old new : List ℕ) (size tail k count : ℕ) → tail + k ≤ size → k ≤ count → IsCleared old new tail (tail + k) → IsUsed old size tail count
    → IsUsed new size (round size (tail + k)) (count - k)
IsUsed-cleared old new size tail k count hk hc cleared u =
    record {
      within = omega (arith, u.within);
      used = λ i h. rw (slot_at-cleared old new size tail k i hk cleared (omega (arith, u.within))) (u.used (k + i) (omega arith));
      empty = λ i h hi.
          elim (cases_lt i (size - k)) [
            | inl before ↦ rw (slot_at-cleared old new size tail k i hk cleared before) (u.empty (k + i) (omega arith) (omega arith))
            | inr behind ↦ slot_at-cleared_itself old new size tail k i hk cleared behind hi
          ];
    }

-- one slot more is cleared, in front of the others
pub IsCleared-set : (old new : List ℕ) (place end : ℕ) → 0 < place → place ≤ end → end ≤ length old → IsCleared old new place end
    → IsCleared old (set new (place - 1) 0) (place - 1) end
IsCleared-set old new place end hp he hl cleared =
    let other : (i : ℕ) → i ≢ place - 1 → slice_index (set new (place - 1) 0) i ≡ slice_index new i = λ i e. get_or-set_other new (place - 1) i 0 0 e in
    record {
      same_length = length-set new (place - 1) 0 ∙ cleared.same_length;
      cleared = λ i h hi.
          elim (cases_eq i (place - 1)) [
            | inl e ↦ rw (e, get_or-set_same new (place - 1) 0 0 (omega (arith, cleared.same_length))) refl
            | inr e ↦ rw (other i e) (cleared.cleared i (omega arith) hi)
          ];
      below = λ i h. rw (other i (omega arith)) (cleared.below i (omega arith));
      above = λ i h. rw (other i (omega arith)) (cleared.above i h);
    }

-- a slot after the one before the head, once that one was set
pub slot_at-set_before : (slots : List ℕ) (size head v i : ℕ) → head < size → i + 1 < size
    → slot_at (set slots (place_before size head 1) v) size (place_before size head 1 + (i + 1)) ≡ slot_at slots size (head + i)
slot_at-set_before slots size head v i h hi =
    let place = place_before size head 1 in
    let within : place < size = place_before-within size head h in
    let itself : round size (place + 0) ≡ place = rw (add-zero, round-below size place within) in
    let apart : round size (place + (i + 1)) ≢ round size (place + 0) = round-apart size place (i + 1) 0 within hi (omega arith) (omega arith) in
    let same = round-place_before size head i h (omega arith) in
    get_or-set_other slots place (round size (place + (i + 1))) v 0 (rw itself at apart) ∙ ap (λ p. get_or slots p 0) same

pub slot_at-set_itself : (slots : List ℕ) (size head v : ℕ) → size ≤ length slots → head < size
    → slot_at (set slots (place_before size head 1) v) size (place_before size head 1) ≡ v
slot_at-set_itself slots size head v long h =
    let place = place_before size head 1 in
    let within : place < size = place_before-within size head h in
    rw (round-below size place within) (get_or-set_same slots place v 0 (omega arith))

-- one more, before the others
pub IsUsed-set_before : (slots : List ℕ) (size head count v : ℕ) → size ≤ length slots → head < size → count < size → 0 < v → IsUsed slots size head count
    → IsUsed (set slots (place_before size head 1) v) size (place_before size head 1) (0 + (count + 1))
IsUsed-set_before slots size head count v long h hc hv u =
    let place = place_before size head 1 in
    record {
      within = omega arith;
      used = λ i hi.
          elim (cases_eq i 0) [
            | inl e ↦ rw (e, add-zero, slot_at-set_itself slots size head v long h) hv
            | inr e ↦ let back : i ≡ i - 1 + 1 = omega arith in rw (back, slot_at-set_before slots size head v (i - 1) h (omega arith)) (u.used (i - 1) (omega arith))
          ];
      empty = λ i hi hs.
          let back : i ≡ i - 1 + 1 = omega arith in
          rw (back, slot_at-set_before slots size head v (i - 1) h (omega arith)) (u.empty (i - 1) (omega arith) (omega arith));
    }
