-- What the walk along the records has found, where it ends.
use Rattle.std.proofs.Common.{◌≡◌, ◌<◌, ◌≤◌, ◌+◌, ℕ, zero, suc, List, length, Option, Some, None, Ok, refl, sym, ap, ◌∙◌, subst, arith, inl, inr, ◌⊎◌, Bool, true, false, cond, ltb}
use Rattle.std.proofs.lemmas.Bool.{cases_lt, ltb-false, le-ltb}
use Rattle.lq_model.specs.Capture.{place_of, end_of, captured_length, record_fault, count_from}
use Rattle.lq_model.specs.declared.capture.CaptureReason.{CaptureReason}
use Rattle.lq_model.specs.declared.capture.CaptureReason.TheVariants.{CutRecordHeader, LongRecord, CutData}
use Rattle.lq_pcap.specs.Laws.{IsWholeRecord}
use Rattle.lq_pcap.proofs.Chain.{count_ends, count_goes_on, count_faults, count_full}

-- a record with no fault is whole, and a whole one has none
none_of : (a b c : Bool) (x y z : CaptureReason) → cond a (Some x) (cond b (Some y) (cond c (Some z) None)) ≡ None → (a ≡ false) × (b ≡ false) × (c ≡ false)
none_of true b c x y z e = cc
none_of false true c x y z e = cc
none_of false false true x y z e = cc
none_of false false false x y z e = (refl, refl, refl)

pub whole_from_none : (bytes : List ℕ) (place : ℕ) → record_fault bytes place ≡ None → IsWholeRecord bytes place
whole_from_none bytes place e =
    let tests = none_of (ltb (length bytes) (place + 16)) (ltb 262144 (captured_length bytes place)) (ltb (length bytes) (end_of bytes place)) CutRecordHeader LongRecord CutData e in
    record {
      has_header = ltb-false (length bytes) (place + 16) tests.0;
      is_short = ltb-false 262144 (captured_length bytes place) tests.1;
      has_data = ltb-false (length bytes) (end_of bytes place) tests.2;
    }

pub none_from_whole : (bytes : List ℕ) (place : ℕ) → IsWholeRecord bytes place → record_fault bytes place ≡ None
none_from_whole bytes place w =
    rw (le-ltb (length bytes) (place + 16) w.has_header, le-ltb 262144 (captured_length bytes place) w.is_short, le-ltb (length bytes) (end_of bytes place) w.has_data) refl

-- a whole record begins before the end of the file
pub begins_before : (bytes : List ℕ) (place : ℕ) → IsWholeRecord bytes place → place < length bytes
begins_before bytes place w = let header = w.has_header in omega arith

pub option_cases : {X : Type 0} (o : Option X) → (o ≡ None) ⊎ ((x : X) × (o ≡ Some x))
option_cases None = inl refl
option_cases (Some x) = inr (x, refl)

-- from record i on, with at most `more` to come, the walk counted up to n
pub record Counted (bytes : List ℕ) (more i n : ℕ) : Type 0 where
  pub from : i ≤ n
  pub few : n ≤ i + more
  pub whole : (j : ℕ) → i ≤ j → j < n → IsWholeRecord bytes (place_of bytes j)
  pub ends : length bytes ≤ place_of bytes n

counted_at_once : (bytes : List ℕ) (more i n : ℕ) → length bytes ≤ place_of bytes i → count_from bytes more i ≡ Ok n → Counted bytes more i n
counted_at_once bytes more i n ends e =
    let at_once = count_ends bytes more i ends in
    let same : i ≡ n = cc in
    record {
      from = omega arith;
      few = omega arith;
      whole = λ j low high. absurd (omega arith);
      ends = subst (λ k. length bytes ≤ place_of bytes k) same ends;
    }

one_more : (bytes : List ℕ) (more i n : ℕ) → IsWholeRecord bytes (place_of bytes i) → Counted bytes more (suc i) n → Counted bytes (suc more) i n
one_more bytes more i n whole c =
    let from = c.from in
    let few = c.few in
    record {
      from = omega arith;
      few = omega arith;
      whole = λ j low high. elim (cases_lt i j) [
        | inl above ↦ c.whole j above high
        | inr below ↦ (let same : i ≡ j = omega arith in subst (λ k. IsWholeRecord bytes (place_of bytes k)) same whole)
      ];
      ends = c.ends;
    }

pub counted : (bytes : List ℕ) (more i n : ℕ) → count_from bytes more i ≡ Ok n → Counted bytes more i n
counted bytes zero i n e =
    elim (cases_lt (place_of bytes i) (length bytes)) [
      | inl below ↦ (let full = count_full bytes i below in cc)
      | inr ends ↦ counted_at_once bytes zero i n ends e
    ]
counted bytes (suc more) i n e =
    elim (cases_lt (place_of bytes i) (length bytes)) [
      | inl below ↦ elim (option_cases (record_fault bytes (place_of bytes i))) [
        | inl none ↦ one_more bytes more i n (whole_from_none bytes (place_of bytes i) none) (counted bytes more (suc i) n (sym (count_goes_on bytes more i below none) ∙ e))
        | inr (reason, some) ↦ (let faulty = count_faults bytes more i reason below some in cc)
      ]
      | inr ends ↦ counted_at_once bytes (suc more) i n ends e
    ]

-- along r whole records up to the end the walk counts them
pub counts : (bytes : List ℕ) (more i r : ℕ) → r ≤ more → ((j : ℕ) → i ≤ j → j < i + r → IsWholeRecord bytes (place_of bytes j)) → length bytes ≤ place_of bytes (i + r) → count_from bytes more i ≡ Ok (i + r)
counts bytes more i zero few whole ends =
    let same : i + 0 ≡ i = omega arith in
    count_ends bytes more i (subst (λ k. length bytes ≤ place_of bytes k) same ends) ∙ ap Ok (sym same)
counts bytes zero i (suc r) few whole ends = absurd (omega arith)
counts bytes (suc more) i (suc r) few whole ends =
    let same : suc i + r ≡ i + suc r = omega arith in
    let here : IsWholeRecord bytes (place_of bytes i) = whole i (omega arith) (omega arith) in
    count_goes_on bytes more i (begins_before bytes (place_of bytes i) here) (none_from_whole bytes (place_of bytes i) here)
    ∙ counts bytes more (suc i) r (omega arith) (λ j low high. whole j (omega arith) (omega arith)) (subst (λ k. length bytes ≤ place_of bytes k) (sym same) ends)
    ∙ ap Ok same
