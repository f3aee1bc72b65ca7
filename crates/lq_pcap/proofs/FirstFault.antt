-- The bytes are refused exactly for the first fault that they have.
use Rattle.std.proofs.Common.{◌≤◌, ap, ◌≡◌, ◌<◌, ◌+◌, ◌-◌, ℕ, zero, suc, List, length, Some, None, Result, Ok, Err, refl, sym, ◌∙◌, subst, arith, inl, inr, Bool, true, false, cond, ltb, eqb, not, ◌||◌}
use Rattle.std.proofs.lemmas.Bool.{cases_lt, ltb-true, ltb-false, lt-ltb, le-ltb, eqb-true, eqb-false, eq-eqb, ne_eqb, not-true, not-false}
use Rattle.lq_model.specs.Capture.{Refusal, capture_of, refused, place_of, end_of, captured_length, record_fault, count_from, is_little_endian, is_big_endian, major_version}
use Rattle.lq_model.specs.declared.capture.CaptureReason.{CaptureReason}
use Rattle.lq_model.specs.declared.capture.CaptureReason.TheVariants.{ShortHeader, Magic, Version, CutRecordHeader, LongRecord, CutData, TooMany}
use Rattle.lq_pcap.specs.Laws.{IsWholeRecord, HasFileHeader, GoesOnAt, HasFault}
use Rattle.lq_pcap.proofs.Acceptance.{counted_in}
use Rattle.lq_pcap.proofs.Chain.{count_ends, count_goes_on, count_faults, count_full}
use Rattle.lq_pcap.proofs.Walk.{begins_before, none_from_whole, option_cases, whole_from_none}

-- which of three tests refuses
data First (A : Type 0) (a b c : Bool) (x y z f : A) (last : Type 0) : Type 0 where
  first_test : a ≡ true → x ≡ f → First A a b c x y z f last
  second_test : a ≡ false → b ≡ true → y ≡ f → First A a b c x y z f last
  third_test : a ≡ false → b ≡ false → c ≡ true → z ≡ f → First A a b c x y z f last
  no_test : a ≡ false → b ≡ false → c ≡ false → last → First A a b c x y z f last

first_of_header :
    (a b c : Bool) (x y z f : Refusal) (bytes : List ℕ) (r : Result ℕ Refusal) → cond a (Err x) (cond b (Err y) (cond c (Err z) (counted_in bytes r))) ≡ Err f
    → First Refusal a b c x y z f (r ≡ Err f)
first_of_header true b c x y z f bytes r e = first_test refl cc
first_of_header false true c x y z f bytes r e = second_test refl refl cc
first_of_header false false true x y z f bytes r e = third_test refl refl refl cc
first_of_header false false false x y z f bytes (Ok n) e = cc
first_of_header false false false x y z f bytes (Err g) e = no_test refl refl refl cc

first_of_record :
    (a b c : Bool) (x y z f : CaptureReason) → cond a (Some x) (cond b (Some y) (cond c (Some z) None)) ≡ Some f → First CaptureReason a b c x y z f ⊥
first_of_record true b c x y z f e = first_test refl cc
first_of_record false true c x y z f e = second_test refl refl cc
first_of_record false false true x y z f e = third_test refl refl refl cc
first_of_record false false false x y z f e = cc

-- what a refusal says is said of an equal one
at_refusal : (bytes : List ℕ) (f g : Refusal) → f ≡ g → HasFault bytes f.reason f.place → HasFault bytes g.reason g.place
at_refusal bytes f g is has = subst (λ (h : Refusal). HasFault bytes h.reason h.place) is has

same_refusal : (f g : Refusal) → ◌≡◌ {A = Result ℕ Refusal} (Err f) (Err g) → f ≡ g
same_refusal f g e = cc

-- the fault of a record
fault_of_record : (bytes : List ℕ) (i place : ℕ) (reason : CaptureReason) → i < 1000000 → GoesOnAt bytes i place → record_fault bytes place ≡ Some reason → HasFault bytes reason place
fault_of_record bytes i place reason few reached e =
    let len = length bytes in
    let captured = captured_length bytes place in
    elim (first_of_record (ltb len (place + 16)) (ltb 262144 captured) (ltb len (end_of bytes place)) CutRecordHeader LongRecord CutData reason e) [
      | first_test a is ↦ subst (λ r. HasFault bytes r place) is (i, few, reached, ltb-true len (place + 16) a)
      | second_test a b is ↦ subst (λ r. HasFault bytes r place) is (i, few, reached, ltb-false len (place + 16) a, ltb-true 262144 captured b)
      | third_test a b c is ↦ subst (λ r. HasFault bytes r place) is
          (i, few, reached, ltb-false len (place + 16) a, ltb-false 262144 captured b, ltb-true len (end_of bytes place) c)
      | no_test a b c never ↦ absurd never
    ]

-- the fault that the walk meets from record i on
fault_of_walk :
    (bytes : List ℕ) (more i : ℕ) (reason : CaptureReason) (place : ℕ) → i + more ≡ 1000000 → HasFileHeader bytes → ((j : ℕ) → j < i → IsWholeRecord bytes (place_of bytes j))
    → count_from bytes more i ≡ Err (record { reason = reason; place = place }) → HasFault bytes reason place
fault_of_walk bytes zero i reason place most header whole e =
    elim (cases_lt (place_of bytes i) (length bytes)) [
      | inl below ↦
          let found : Refusal = record { reason = TooMany; place = place_of bytes i } in
          let given : Refusal = record { reason = reason; place = place } in
          let all : i ≡ 1000000 = omega arith in
          at_refusal bytes found given (same_refusal found given (sym (count_full bytes i below) ∙ e))
          (i, all, record { header = header; whole = whole; begins = refl; more = below })
      | inr ends ↦ (let at_end = count_ends bytes zero i ends in cc)
    ]
fault_of_walk bytes (suc more) i reason place most header whole e =
    elim (cases_lt (place_of bytes i) (length bytes)) [
      | inl below ↦ elim (option_cases (record_fault bytes (place_of bytes i))) [
        | inl none ↦
            let here : IsWholeRecord bytes (place_of bytes i) = whole_from_none bytes (place_of bytes i) none in
            fault_of_walk bytes more (suc i) reason place (omega arith) header
            (λ j lt. elim (cases_lt j i) [
              | inl before ↦ whole j before
              | inr after ↦ (let same : i ≡ j = omega arith in subst (λ k. IsWholeRecord bytes (place_of bytes k)) same here)
            ]) (sym (count_goes_on bytes more i below none) ∙ e)
        | inr (found, some) ↦
            let here : Refusal = record { reason = found; place = place_of bytes i } in
            let given : Refusal = record { reason = reason; place = place } in
            at_refusal bytes here given (same_refusal here given (sym (count_faults bytes more i found below some) ∙ e))
            (fault_of_record bytes i (place_of bytes i) found (omega arith) (record { header = header; whole = whole; begins = refl; more = below }) some)
      ]
      | inr ends ↦ (let at_end = count_ends bytes (suc more) i ends in cc)
    ]

pub first_fault : (bytes : List ℕ) (reason : CaptureReason) (place : ℕ) → capture_of bytes ≡ refused reason place → HasFault bytes reason place
first_fault bytes reason place e =
    let len = length bytes in
    let magic = is_little_endian bytes || is_big_endian bytes in
    let version = eqb (major_version bytes) 2 in
    let short : Refusal = record { reason = ShortHeader; place = len } in
    let no_magic : Refusal = record { reason = Magic; place = 0 } in
    let other_version : Refusal = record { reason = Version; place = 4 } in
    let given : Refusal = record { reason = reason; place = place } in
    elim (first_of_header (ltb len 24) (not magic) (not version) short no_magic other_version given bytes (count_from bytes 1000000 0) e) [
      | first_test a is ↦ at_refusal bytes short given is (ltb-true len 24 a, refl)
      | second_test a b is ↦ at_refusal bytes no_magic given is (ltb-false len 24 a, not-true magic b, refl)
      | third_test a b c is ↦ at_refusal bytes other_version given is
          (record { long = ltb-false len 24 a; magic = not-false magic b }, eqb-false (major_version bytes) 2 (not-true version c), refl)
      | no_test a b c walk ↦ fault_of_walk bytes 1000000 0 reason place (omega arith)
          (record { magic = record { long = ltb-false len 24 a; magic = not-false magic b }; version = eqb-true (major_version bytes) 2 (not-false version c) })
          (λ j lt. absurd (omega arith)) walk
    ]

-- along whole records the walk goes on
goes_on : (bytes : List ℕ) (more i r : ℕ) → ((j : ℕ) → i ≤ j → j < i + r → IsWholeRecord bytes (place_of bytes j)) → count_from bytes (r + more) i ≡ count_from bytes more (i + r)
goes_on bytes more i zero whole =
    let same : 0 + more ≡ more = omega arith in
    let here : i + 0 ≡ i = omega arith in
    ap (λ n. count_from bytes n i) same ∙ ap (count_from bytes more) (sym here)
goes_on bytes more i (suc r) whole =
    let one : suc r + more ≡ suc (r + more) = omega arith in
    let behind : suc i + r ≡ i + suc r = omega arith in
    let here : IsWholeRecord bytes (place_of bytes i) = whole i (omega arith) (omega arith) in
    ap (λ n. count_from bytes n i) one ∙ count_goes_on bytes (r + more) i (begins_before bytes (place_of bytes i) here) (none_from_whole bytes (place_of bytes i) here)
    ∙ goes_on bytes more (suc i) r (λ j low high. whole j (omega arith) (omega arith)) ∙ ap (count_from bytes more) behind

walked : (bytes : List ℕ) (more i place : ℕ) → i + more ≡ 1000000 → GoesOnAt bytes i place → count_from bytes 1000000 0 ≡ count_from bytes more i
walked bytes more i place most g =
    let from_0 : 0 + i ≡ i = omega arith in
    ap (λ n. count_from bytes n 0) (sym most) ∙ goes_on bytes more 0 i (λ j low high. g.whole j (omega arith)) ∙ ap (count_from bytes more) from_0

-- what the walk refuses is refused
refused_in_walk : (bytes : List ℕ) (f : Refusal) → HasFileHeader bytes → count_from bytes 1000000 0 ≡ Err f → capture_of bytes ≡ Err f
refused_in_walk bytes f good walk = rw (le-ltb (length bytes) 24 good.magic.long, good.magic.magic, eq-eqb (major_version bytes) 2 good.version, walk) refl

refused_at_record : (bytes : List ℕ) (i place : ℕ) (reason : CaptureReason) → i < 1000000 → GoesOnAt bytes i place → record_fault bytes place ≡ Some reason → capture_of bytes ≡ refused reason place
refused_at_record bytes i place reason few g fault =
    let more = 999999 - i in
    let most : i + suc more ≡ 1000000 = omega arith in
    let here : Refusal = record { reason = reason; place = place_of bytes i } in
    let below : place_of bytes i < length bytes = subst (λ p. p < length bytes) g.begins g.more in
    let fault_here : record_fault bytes (place_of bytes i) ≡ Some reason = subst (λ p. record_fault bytes p ≡ Some reason) g.begins fault in
    refused_in_walk bytes here g.header (walked bytes (suc more) i place most g ∙ count_faults bytes more i reason below fault_here)
    ∙ ap (λ p. refused reason p) (sym g.begins)

refused_at_most : (bytes : List ℕ) (i place : ℕ) → i ≡ 1000000 → GoesOnAt bytes i place → capture_of bytes ≡ refused TooMany place
refused_at_most bytes i place all g =
    let most : i + 0 ≡ 1000000 = omega arith in
    let here : Refusal = record { reason = TooMany; place = place_of bytes i } in
    let below : place_of bytes i < length bytes = subst (λ p. p < length bytes) g.begins g.more in
    refused_in_walk bytes here g.header (walked bytes 0 i place most g ∙ count_full bytes i below) ∙ ap (λ p. refused TooMany p) (sym g.begins)

pub fault_refused : (bytes : List ℕ) (reason : CaptureReason) (place : ℕ) → HasFault bytes reason place → capture_of bytes ≡ refused reason place
fault_refused bytes ShortHeader place has = rw (lt-ltb (length bytes) 24 has.0, has.1) refl
fault_refused bytes Magic place has = rw (le-ltb (length bytes) 24 has.0, has.1, has.2) refl
fault_refused bytes Version place has = rw (le-ltb (length bytes) 24 has.0.long, has.0.magic, ne_eqb (major_version bytes) 2 has.1, has.2) refl
fault_refused bytes TooMany place has = refused_at_most bytes has.0 place has.1 has.2
fault_refused bytes CutRecordHeader place has =
    refused_at_record bytes has.0 place CutRecordHeader has.1 has.2 (rw (lt-ltb (length bytes) (place + 16) has.3) refl)
fault_refused bytes LongRecord place has =
    refused_at_record bytes has.0 place LongRecord has.1 has.2 (rw (le-ltb (length bytes) (place + 16) has.3, lt-ltb 262144 (captured_length bytes place) has.4) refl)
fault_refused bytes CutData place has =
    refused_at_record bytes has.0 place CutData has.1 has.2
    (rw (le-ltb (length bytes) (place + 16) has.3, le-ltb 262144 (captured_length bytes place) has.4, lt-ltb (length bytes) (end_of bytes place) has.5) refl)
fault_refused bytes _ place has = absurd has
