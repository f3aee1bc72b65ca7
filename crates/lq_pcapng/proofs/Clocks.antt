-- How interfaces count time, found one after the other.
use Rattle.std.proofs.Common.{◌≡◌, ◌<◌, ◌++◌, ◌∷◌, [], ℕ, List, length, Some, sym, ap, ◌∙◌, subst, arith, Bool, get_or, inl, inr}
use Rattle.std.specs.List.{slice_get}
use Rattle.std.proofs.lemmas.Bool.{cases_eq}
use Rattle.std.proofs.lemmas.List.{get_or_append_left, get_or_push, length-append, length-map}
use Rattle.std.proofs.lemmas.Option.{get_or_from_slice_get, slice_get-get_or, slice_get_within}
use Rattle.lq_pcapng.specs.Pcapng.{NgCapture, interface_at, is_little_endian, order_of}
use Rattle.lq_pcapng.specs.Reading.{AreClocks, IsClock, block_at, blocks_at}
use Rattle.lq_pcapng.specs.View.{IsInMemory, capture_at}
use Rattle.lq_pcapng.specs.declared.interfaces.Clock.{Clock}
use Rattle.lq_pcapng.proofs.Places.{get_or-blocks_at, order_at}

pub clocks_more :
    (o : Bool) (bytes places : List ℕ) (clocks : List Clock) (clock : Clock) (i : ℕ) → AreClocks o bytes places clocks → i ≡ length clocks → i < length places
    → IsClock o (interface_at (blocks_at o bytes places) i) clock → AreClocks o bytes places (clocks ++ clock ∷ [])
clocks_more o bytes places clocks clock i are here below is = λ j other found.
    elim (cases_eq j i) [
      | inl e ↦
          let last : get_or (clocks ++ clock ∷ []) j other ≡ clock = get_or_push clocks clock other j (sym (e ∙ here)) in
          let same : clock ≡ other = sym last ∙ get_or_from_slice_get (clocks ++ clock ∷ []) j other other found in
          let block : interface_at (blocks_at o bytes places) i ≡ block_at o bytes (get_or places j 0) = get_or-blocks_at o bytes places i below ∙ ap (λ n. block_at o bytes (get_or places n 0)) (sym e) in
          subst (IsClock o (block_at o bytes (get_or places j 0))) same (subst (λ (b : List ℕ). IsClock o b clock) block is)
      | inr ne ↦
          let within : j < length (clocks ++ clock ∷ []) = slice_get_within (clocks ++ clock ∷ []) j other found in
          let len = length-append clocks (clock ∷ []) in
          let before : j < length clocks = omega arith in
          let same : get_or clocks j other ≡ other = sym (get_or_append_left clocks (clock ∷ []) other j before) ∙ get_or_from_slice_get (clocks ++ clock ∷ []) j other other found in
          are j other (slice_get-get_or clocks j other before ∙ ap Some same)
    ]

-- the clock of an interface as a method sees it
pub clock_seen :
    (bytes interfaces packets : List ℕ) (clocks : List Clock) (c : NgCapture) (i : ℕ) (clock : Clock) → IsInMemory bytes interfaces packets clocks → capture_at bytes interfaces packets ≡ c
    → i < length c.interfaces → slice_get clocks i ≡ Some clock → IsClock (order_of c) (interface_at c.interfaces i) clock
clock_seen bytes interfaces packets clocks c i clock kept view below found =
    let o = is_little_endian bytes in
    let same : length c.interfaces ≡ length interfaces = ap (λ (k : NgCapture). length k.interfaces) (sym view) ∙ length-map interfaces (block_at o bytes) in
    let within : i < length interfaces = omega arith in
    let block : block_at o bytes (get_or interfaces i 0) ≡ interface_at c.interfaces i =
    sym (get_or-blocks_at o bytes interfaces i within) ∙ ap (λ (k : NgCapture). interface_at k.interfaces i) view in
    let order : o ≡ order_of c = sym (order_at bytes interfaces packets kept.read) ∙ ap order_of view in
    subst (λ b. IsClock b (interface_at c.interfaces i) clock) order (subst (λ (b : List ℕ). IsClock o b clock) block (kept.clocks_are i clock found))
