-- The start of a header, as the definition finds it and as the law says it: case by case of the tests.
use Rattle.std.proofs.Common.{◌≡◌, ◌≢◌, ◌+◌, ◌/◌, ◌&&◌, ℕ, cond, List, length, Bool, Option, Some, None, true, nat_eq, nat_le, subst, sym, ap, ◌∙◌, arith}
use Rattle.std.specs.Prelude.{slice_index, slice_range}
use Rattle.std.specs.Option.{option_and_then}
use Rattle.std.proofs.lemmas.Bool.{cond_both, cond-true, cond-false, eqb-true, eq-eqb, ne_eqb, leb-true, le-leb, and_parts, and_from, false_from_ne_true}
use Rattle.std.specs.Int.{w16, from_be_bytes}
use Rattle.lq_model.specs.Class.{has_type, ethernet_start, network_start}
use Rattle.lq_class.specs.Laws.{HasType, IsHeaderPlace, raw, untagged, tagged, IsHeaderAt}

-- the definition's test of a type, and the law's fact
HasType-from_test : (frame : List ℕ) (place ethertype : ℕ) → has_type frame place ethertype ≡ true → HasType ethertype frame place
HasType-from_test frame place ethertype e =
    let parts = and_parts (nat_le (place + 2) (length frame)) (nat_eq (from_be_bytes w16 (slice_range frame place (place + 2))) ethertype) e in
    record { present = leb-true (place + 2) (length frame) parts.0; value = eqb-true (from_be_bytes w16 (slice_range frame place (place + 2))) ethertype parts.1 }

test-from_HasType : (frame : List ℕ) (place ethertype : ℕ) → HasType ethertype frame place → has_type frame place ethertype ≡ true
test-from_HasType frame place ethertype h =
    and_from (nat_le (place + 2) (length frame)) (nat_eq (from_be_bytes w16 (slice_range frame place (place + 2))) ethertype) (le-leb (place + 2) (length frame) h.present) (eq-eqb (from_be_bytes w16 (slice_range frame place (place + 2))) ethertype h.value)

module _ (ethertype link : ℕ) (frame : List ℕ) (start : ℕ) where
  -- where the definition puts the start, the law's cases allow it
  place-from_ethernet : link ≡ 1 → ethernet_start ethertype frame ≡ Some start → IsHeaderPlace ethertype link frame start
  place-from_ethernet on_ethernet =
      let Follows : Option ℕ → Type 0 = λ o. o ≡ Some start → IsHeaderPlace ethertype link frame start in
      let at : (n : ℕ) → IsHeaderPlace ethertype link frame n → Follows (Some n) = λ n p e. let same : n ≡ start = cc in subst (λ m. IsHeaderPlace ethertype link frame m) same p in
      cond_both (has_type frame 12 ethertype) _ _ Follows
      (λ t. at 14 (untagged on_ethernet (HasType-from_test frame 12 ethertype t)))
      (λ _. cond_both (has_type frame 12 0x8100 && has_type frame 16 ethertype) (Some 18) None Follows
      (λ t. let both = and_parts (has_type frame 12 0x8100) (has_type frame 16 ethertype) t in
      at 18 (tagged on_ethernet (HasType-from_test frame 12 0x8100 both.0) (HasType-from_test frame 16 ethertype both.1)))
      (λ _ e. absurd (cc)))

  place-from_start : network_start ethertype link frame ≡ Some start → IsHeaderPlace ethertype link frame start
  place-from_start =
      let Follows : Option ℕ → Type 0 = λ o. o ≡ Some start → IsHeaderPlace ethertype link frame start in
      cond_both (nat_eq link 1) (ethernet_start ethertype frame) _ Follows
      (λ t. place-from_ethernet (eqb-true link 1 t))
      (λ _. cond_both (nat_eq link 101) (Some 0) None Follows
      (λ t e. let same : 0 ≡ start = cc in subst (λ m. IsHeaderPlace ethertype link frame m) same (raw (eqb-true link 101 t)))
      (λ _ e. absurd (cc)))

-- in each of the law's cases the definition finds the start
start-from_place : (ethertype : ℕ) → ethertype ≢ 0x8100 → (link : ℕ) (frame : List ℕ) (start : ℕ) → IsHeaderPlace ethertype link frame start → network_start ethertype link frame ≡ Some start
start-from_place ethertype no_tag link frame _ (raw e) =
    cond-false (nat_eq link 1) _ _ (ne_eqb link 1 (λ f. omega arith)) ∙ cond-true (nat_eq link 101) _ _ (eq-eqb link 101 e)
start-from_place ethertype no_tag link frame _ (untagged e h) =
    cond-true (nat_eq link 1) _ _ (eq-eqb link 1 e) ∙ cond-true (has_type frame 12 ethertype) _ _ (test-from_HasType frame 12 ethertype h)
start-from_place ethertype no_tag link frame _ (tagged e h k) =
    cond-true (nat_eq link 1) _ _ (eq-eqb link 1 e)
    ∙ (cond-false (has_type frame 12 ethertype) _ _ (false_from_ne_true _ (λ t. no_tag (sym (HasType-from_test frame 12 ethertype t).value ∙ h.value)))
    ∙ cond-true (has_type frame 12 0x8100 && has_type frame 16 ethertype) _ _
    (and_from (has_type frame 12 0x8100) (has_type frame 16 ethertype) (test-from_HasType frame 12 0x8100 h) (test-from_HasType frame 16 ethertype k)))

-- the definition's test of a header
abbrev has_header : ℕ → ℕ → List ℕ → ℕ → Bool
has_header size version frame n = nat_le (n + size) (length frame) && nat_eq (slice_index frame n / 16) version

-- both ways for the whole header
pub header-from_start : (ethertype size version link : ℕ) (frame : List ℕ) (start : ℕ) (o : Option ℕ) → network_start ethertype link frame ≡ o
    → option_and_then (λ n. cond (has_header size version frame n) (Some n) None) o ≡ Some start → IsHeaderAt ethertype size version link frame start
header-from_start ethertype size version link frame start None e = λ f. absurd (cc)
header-from_start ethertype size version link frame start (Some n) e =
    let Follows : Option ℕ → Type 0 = λ o. o ≡ Some start → IsHeaderAt ethertype size version link frame start in
    cond_both (has_header size version frame n) (Some n) None Follows
    (λ t f.
    let same : n ≡ start = cc in
    let both = and_parts (nat_le (n + size) (length frame)) (nat_eq (slice_index frame n / 16) version) t in
    subst (λ m. IsHeaderAt ethertype size version link frame m) same
    (record { place = place-from_start ethertype link frame n e; whole = leb-true (n + size) (length frame) both.0; version = eqb-true (slice_index frame n / 16) version both.1 }))
    (λ _ f. absurd (cc))

pub start-from_header : (ethertype size version : ℕ) → ethertype ≢ 0x8100 → (link : ℕ) (frame : List ℕ) (start : ℕ) → IsHeaderAt ethertype size version link frame start
    → option_and_then (λ n. cond (has_header size version frame n) (Some n) None) (network_start ethertype link frame) ≡ Some start
start-from_header ethertype size version no_tag link frame start h =
    ap (option_and_then (λ n. cond (has_header size version frame n) (Some n) None)) (start-from_place ethertype no_tag link frame start h.place)
    ∙ cond-true (has_header size version frame start) _ _
    (and_from (nat_le (start + size) (length frame)) (nat_eq (slice_index frame start / 16) version)
    (le-leb (start + size) (length frame) h.whole) (eq-eqb (slice_index frame start / 16) version h.version))
