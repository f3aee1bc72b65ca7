-- The chain of places of a capture's records.
use Rattle.std.proofs.Common.{◌≡◌, ◌<◌, ◌≤◌, ◌+◌, ◌-◌, ◌++◌, ◌∷◌, [], ℕ, zero, suc, List, length, Some, None, Ok, Err, refl, sym, ap, ◌∙◌, subst, length-append, arith, inl, inr, get_or}
use Rattle.std.proofs.lemmas.Bool.{le-leb, lt-leb}
use Rattle.std.proofs.lemmas.Bool.{cases_eq}
use Rattle.std.proofs.lemmas.List.{get_or_append_left, get_or_push}
use Rattle.lq_model.specs.Capture.{place_of, end_of, record_fault, count_from}
use Rattle.lq_model.specs.declared.capture.CaptureReason.{CaptureReason}
use Rattle.lq_model.specs.declared.capture.CaptureReason.TheVariants.{TooMany}
use Rattle.lq_pcap.specs.Reading.{ArePlaces}

-- at the end of the file the count is told
pub count_ends : (bytes : List ℕ) (n i : ℕ) → length bytes ≤ place_of bytes i → count_from bytes n i ≡ Ok i
unfolding count_from
count_ends bytes zero i at_end = rw (le-leb (length bytes) (place_of bytes i) at_end) refl
count_ends bytes (suc n) i at_end = rw (le-leb (length bytes) (place_of bytes i) at_end) refl

-- where a record is whole, the count goes on behind it
pub count_goes_on : (bytes : List ℕ) (n i : ℕ) → place_of bytes i < length bytes → record_fault bytes (place_of bytes i) ≡ None → count_from bytes (suc n) i ≡ count_from bytes n (suc i)
unfolding count_from
count_goes_on bytes n i below whole = rw (lt-leb (length bytes) (place_of bytes i) below, whole) refl

-- where it isn't, the fault is told
pub count_faults : (bytes : List ℕ) (n i : ℕ) (reason : CaptureReason) → place_of bytes i < length bytes → record_fault bytes (place_of bytes i) ≡ Some reason → count_from bytes (suc n) i ≡ Err (record { reason = reason; place = place_of bytes i })
unfolding count_from
count_faults bytes n i reason below faulty = rw (lt-leb (length bytes) (place_of bytes i) below, faulty) refl

-- with no further record allowed, one more is too many
pub count_full : (bytes : List ℕ) (i : ℕ) → place_of bytes i < length bytes → count_from bytes zero i ≡ Err (record { reason = TooMany; place = place_of bytes i })
unfolding count_from
count_full bytes i below = rw (lt-leb (length bytes) (place_of bytes i) below) refl

-- the places of records so far
pub record IsChain (bytes places : List ℕ) : Type 0 where
  pub some : 0 < length places
  pub each : (i : ℕ) → i < length places → get_or places i 0 ≡ place_of bytes i
  pub within : (i : ℕ) → i < length places → get_or places i 0 ≤ length bytes

-- A reader that has these places stands at the last of them, and of max records the rest may come.
pub record Reaches (max : ℕ) (bytes places : List ℕ) (place : ℕ) : Type 0 where
  pub chain : IsChain bytes places
  pub last : place ≡ place_of bytes (length places - 1)
  pub few : length places ≤ max + 1
  pub count : count_from bytes (max + 1 - length places) (length places - 1) ≡ count_from bytes max 0

-- what holds of each item and of one more
pushed :
    (P : ℕ → ℕ → Type 0) (xs : List ℕ) (y : ℕ) → ((i : ℕ) → i < length xs → P i (get_or xs i 0)) → P (length xs) y → (i : ℕ) → i < length (xs ++ y ∷ []) → P i (get_or (xs ++ y ∷ []) i 0)
pushed P xs y each last i lt =
    elim (cases_eq i (length xs)) [
      | inl e ↦ subst (λ (n : ℕ). P n (get_or (xs ++ y ∷ []) n 0)) (sym e) (subst (P (length xs)) (sym (get_or_push xs y 0 (length xs) refl)) last)
      | inr ne ↦
          let below : i < length xs = omega (arith, length-append {A = ℕ}) in
          subst (P i) (sym (get_or_append_left xs (y ∷ []) 0 i below)) (each i below)
    ]

pub reaches_more :
    (max : ℕ) (bytes places : List ℕ) (place end : ℕ) → Reaches max bytes places place → place < length bytes → length places ≤ max → record_fault bytes place ≡ None → end ≡ end_of bytes place
    → end ≤ length bytes → Reaches max bytes (places ++ end ∷ []) end
reaches_more max bytes places place end r below few whole is within =
    let n = length places in
    let some : 0 < n = r.chain.some in
    let longer : length (places ++ end ∷ []) ≡ n + 1 = length-append places (end ∷ []) in
    let last_one : length (places ++ end ∷ []) - 1 ≡ n = omega arith in
    let k_more : suc (n - 1) ≡ n = omega arith in
    let m_more : max + 1 - n ≡ suc (max - n) = omega arith in
    let m_is : max + 1 - length (places ++ end ∷ []) ≡ max - n = omega arith in
    let at_end : end ≡ place_of bytes n = is ∙ ap (end_of bytes) r.last ∙ ap (place_of bytes) k_more in
    let is_below : place_of bytes (n - 1) < length bytes = subst (λ p. p < length bytes) r.last below in
    let is_whole : record_fault bytes (place_of bytes (n - 1)) ≡ None = subst (λ p. record_fault bytes p ≡ None) r.last whole in
    record {
      chain = record {
        some = omega arith;
        each = pushed (λ i p. p ≡ place_of bytes i) places end r.chain.each at_end;
        within = pushed (λ i p. p ≤ length bytes) places end r.chain.within within;
      };
      last = at_end ∙ ap (place_of bytes) (sym last_one);
      few = omega arith;
      count =
          ap (λ m. count_from bytes m (length (places ++ end ∷ []) - 1)) m_is ∙ ap (count_from bytes (max - n)) (last_one ∙ sym k_more)
          ∙ sym (count_goes_on bytes (max - n) (n - 1) is_below is_whole) ∙ ap (λ m. count_from bytes m (n - 1)) (sym m_more) ∙ r.count;
    }

-- at the end the places are all
pub reaches_end : (max : ℕ) (bytes places : List ℕ) (place : ℕ) → Reaches max bytes places place → length bytes ≤ place → count_from bytes max 0 ≡ Ok (length places - 1)
reaches_end max bytes places place r at_end =
    sym r.count ∙ count_ends bytes (max + 1 - length places) (length places - 1) (subst (λ p. length bytes ≤ p) r.last at_end)

-- one record more than may come
pub reaches_full :
    (max : ℕ) (bytes places : List ℕ) (place : ℕ) → Reaches max bytes places place → place < length bytes → max < length places
    → count_from bytes max 0 ≡ Err (record { reason = TooMany; place = place })
reaches_full max bytes places place r below full =
    let few = r.few in
    let none : max + 1 - length places ≡ zero = omega arith in
    sym r.count ∙ ap (λ m. count_from bytes m (length places - 1)) none
    ∙ count_full bytes (length places - 1) (subst (λ p. p < length bytes) r.last below) ∙ ap (λ p. Err (record { reason = TooMany; place = p })) (sym r.last)

pub reaches_fault :
    (max : ℕ) (bytes places : List ℕ) (place : ℕ) (reason : CaptureReason) → Reaches max bytes places place → place < length bytes → length places ≤ max
    → record_fault bytes place ≡ Some reason → count_from bytes max 0 ≡ Err (record { reason = reason; place = place })
reaches_fault max bytes places place reason r below few faulty =
    let m_more : max + 1 - length places ≡ suc (max - length places) = omega arith in
    sym r.count ∙ ap (λ m. count_from bytes m (length places - 1)) m_more
    ∙ count_faults bytes (max - length places) (length places - 1) reason (subst (λ p. p < length bytes) r.last below)
    (subst (λ p. record_fault bytes p ≡ Some reason) r.last faulty)
    ∙ ap (λ p. Err (record { reason = reason; place = p })) (sym r.last)

pub are_places : (bytes places : List ℕ) (place : ℕ) → Reaches 1000000 bytes places place → ArePlaces bytes places
are_places bytes places place r = record { some = r.chain.some; few = r.few; each = r.chain.each; within = r.chain.within }
