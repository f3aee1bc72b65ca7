-- A unit is of one station alone.
use Rattle.std.proofs.Common.{◌≡◌, ◌≢◌, ℕ, zero, suc, ◌+◌, ◌<◌, Bool, true, false, ◌⊎◌, inl, inr, List, [], ◌∷◌, length, refl, ap, arith, Some, sym, ◌∙◌}
use Rattle.std.specs.Prelude.{cond, slice_get, count_by, take}
use Rattle.std.proofs.lemmas.List.Sums.{count_by_more_no, count_by_more_yes, sum_by-cons}
use Rattle.std.proofs.lemmas.Option.{get_or_from_slice_get, slice_get_within}
use Rattle.lq_model.proofs.Reach.{at-swap}
use Rattle.lq_model.specs.Legal.{IsEventAt}
use Rattle.lq_model.specs.Plan.{Plan, is_swap, is_swap_kind, unit_of_swap}
use Rattle.lq_model.specs.Settled.{IsUnitOf}
use Rattle.lq_model.specs.declared.device.Params.{Params}
use Rattle.lq_model.specs.declared.plan.EventKind.TheVariants as kind
use Rattle.lq_model.specs.declared.plan.EventPlan.{EventPlan}

-- the units that the first so many events bring
abbrev pub one_where : Bool → ℕ
one_where true = 1
one_where false = 0

pub unit-more : (plan : Plan) (count : ℕ) (event : EventPlan) → slice_get plan.events count ≡ Some event → (b : Bool) → is_swap event ≡ b
    → unit_of_swap plan (suc count) ≡ unit_of_swap plan count + one_where b
unit-more plan count event there true is =
    let test = count_by_more_yes is_swap plan.events count event (slice_get_within plan.events count event there) (ap is_swap (get_or_from_slice_get plan.events count event event there) ∙ is) in
    let same : suc count ≡ count + 1 = omega arith in ap (unit_of_swap plan) same ∙ omega (arith, test)
unit-more plan count event there false is =
    let test = count_by_more_no is_swap plan.events count event (slice_get_within plan.events count event there) (ap is_swap (get_or_from_slice_get plan.events count event event there) ∙ is) in
    let same : suc count ≡ count + 1 = omega arith in ap (unit_of_swap plan) same ∙ omega (arith, test)

pub unit-after : (plan : Plan) (count : ℕ) (event : EventPlan) → slice_get plan.events count ≡ Some event → (b : Bool) → is_swap event ≡ b → unit_of_swap plan (count + 1) ≡ unit_of_swap plan count + one_where b
unit-after plan count event there b is = let same : suc count ≡ count + 1 = omega arith in ap (unit_of_swap plan) (sym same) ∙ unit-more plan count event there b is

pub unit-rises : (plan : Plan) (count unit : ℕ) (event : EventPlan) → slice_get plan.events count ≡ Some event → unit < unit_of_swap plan count → unit < unit_of_swap plan (suc count)
unit-rises plan count unit event there below = let more = unit-more plan count event there (is_swap event) refl in omega arith

some-injective : {X : Type 0} (a b : X) → Some a ≡ Some b → a ≡ b
some-injective a b e = cc

-- a count over a longer prefix is higher, where an element that passes stands between the two ends
counts-grow : {X : Type 0} (test : X → Bool) (xs : List X) (i j : ℕ) (x : X) → i < j → slice_get xs i ≡ Some x → test x ≡ true → count_by test (take i xs) < count_by test (take j xs)
counts-grow test [] i j x below there passes = cc
counts-grow test (y ∷ ys) zero zero x below there passes = omega arith
counts-grow test (y ∷ ys) zero (suc j) x below there passes =
    let yx : y ≡ x = some-injective y x there in let p : test y ≡ true = ap test yx ∙ passes in
    let more = sum_by-cons (λ z. cond (test z) 1 0) y (take j ys) in grind arith
counts-grow test (y ∷ ys) (suc i) zero x below there passes = omega arith
counts-grow test (y ∷ ys) (suc i) (suc j) x below there passes =
    let left = sum_by-cons (λ z. cond (test z) 1 0) y (take i ys) in let right = sum_by-cons (λ z. cond (test z) 1 0) y (take j ys) in
    let rest = counts-grow test ys i j x (omega arith) there passes in omega arith

swaps-differ : (plan : Plan) (j k d e : ℕ) (p q : Params) → IsEventAt plan j d (kind.Swap p) → IsEventAt plan k e (kind.Swap q) → d < e → unit_of_swap plan d ≢ unit_of_swap plan e
swaps-differ plan j k d e p q (x, there, at, is) other below same =
    let grow = counts-grow is_swap plan.events d e x below there (ap is_swap_kind is) in omega arith

-- two swaps that bring the same unit are the same event
pub same-swap : (plan : Plan) (j k d e : ℕ) (p q : Params) → IsEventAt plan j d (kind.Swap p) → IsEventAt plan k e (kind.Swap q) → unit_of_swap plan d ≡ unit_of_swap plan e → d ≡ e
same-swap plan j k d e p q one other same = elim (order d e) [
  | inl less ↦ absurd (swaps-differ plan j k d e p q one other less same)
  | inr (inl equal) ↦ equal
  | inr (inr more) ↦ absurd (swaps-differ plan k j e d q p other one more (sym same))
]
  where
    order : (x y : ℕ) → (x < y) ⊎ ((x ≡ y) ⊎ (y < x))
    order zero zero = inr (inl refl)
    order zero (suc y) = inl (omega arith)
    order (suc x) zero = inr (inr (omega arith))
    order (suc x) (suc y) = elim (order x y) [
      | inl less ↦ inl (omega arith)
      | inr (inl equal) ↦ inr (inl (ap suc equal))
      | inr (inr more) ↦ inr (inr (omega arith))
    ]

same-station : (plan : Plan) (j k d e : ℕ) (p q : Params) → IsEventAt plan j d (kind.Swap p) → IsEventAt plan k e (kind.Swap q) → d ≡ e → j ≡ k
same-station plan j k d e p q (x, there, at, is) (y, there', at', is') same =
    let both : Some x ≡ Some y = sym there ∙ (ap (slice_get plan.events) same ∙ there') in
    at-swap j x (ap is_swap_kind is) at ∙ (ap (λ z. z.station) (some-injective x y both) ∙ sym (at-swap k y (ap is_swap_kind is') at'))

pub one-station : (plan : Plan) (j k unit : ℕ) → j < length plan.stations → k < length plan.stations → IsUnitOf plan j unit → IsUnitOf plan k unit → j ≡ k
one-station plan j k unit jn kn (inl a) (inl b) = sym a ∙ b
one-station plan j k unit jn kn (inl a) (inr (e, q, at, b)) = absurd (omega arith)
one-station plan j k unit jn kn (inr (d, p, at, a)) (inl b) = absurd (omega arith)
one-station plan j k unit jn kn (inr (d, p, one, a)) (inr (e, q, other, b)) =
    same-station plan j k d e p q one other (same-swap plan j k d e p q one other (sym a ∙ b))
