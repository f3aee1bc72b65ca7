-- Which units a station has in turn: each is one of its own, and a later one has a higher number.
use Rattle.std.proofs.Common.{◌≡◌, ℕ, zero, suc, ◌+◌, ◌<◌, ◌≤◌, ◌&&◌, Bool, true, false, cond, inl, inr, length, slice_get, Some, refl, sym, ap, ◌∙◌, subst, arith}
use Rattle.std.proofs.lemmas.Bool.{and_parts}
use Rattle.lq_model.specs.Plan.{Plan, is_at, is_swap, unit_of_swap}
use Rattle.lq_model.specs.Settled.{IsUnitOf}
use Rattle.lq_model.specs.declared.plan.EventPlan.{EventPlan}
use Rattle.lq_senders.specs.Units.{unit_at}
use Rattle.lq_senders.proofs.Turns.{event-there}
use Rattle.lq_account_laws.proofs.Units.{unit-more, unit-rises}
use Rattle.lq_senders.proofs.Units.{swap-params, unit-here, unit-next}
use Rattle.lq_senders.proofs.Ways.{below-or-at}

module _ (plan : Plan) (station : ℕ) where
  one-of-its : (count : ℕ) (event : EventPlan) → slice_get plan.events count ≡ Some event → (b : Bool) → (is_swap event && is_at station event) ≡ b
      → IsUnitOf plan station (unit_at plan station count) → IsUnitOf plan station (cond b (unit_of_swap plan count) (unit_at plan station count))
  one-of-its count event there false is was = was
  one-of-its count event there true is was =
      let both = and_parts (is_swap event) (is_at station event) is in let params = swap-params event.kind both.0 in
      inr (count, params.0, (event, there, both.1, params.1), refl)

  -- each is one of the station's
  pub unit-of-station : (count : ℕ) → count ≤ length plan.events → IsUnitOf plan station (unit_at plan station count)
  unit-of-station zero within = inl refl
  unit-of-station (suc count) within =
      let next = event-there plan.events count (omega arith) in
      subst (IsUnitOf plan station) (sym (unit-next plan station count next.0 next.1)) (one-of-its count next.0 next.1 (is_swap next.0 && is_at station next.0) refl (unit-of-station count (omega arith)))

  next-under : (count : ℕ) (event : EventPlan) → slice_get plan.events count ≡ Some event → (b : Bool) → (is_swap event && is_at station event) ≡ b
      → unit_at plan station count < unit_of_swap plan count
      → (unit_at plan station count ≤ cond b (unit_of_swap plan count) (unit_at plan station count)) × (cond b (unit_of_swap plan count) (unit_at plan station count) < unit_of_swap plan (suc count))
  next-under count event there false is under = (omega arith, unit-rises plan count (unit_at plan station count) event there under)
  next-under count event there true is under =
      let both = and_parts (is_swap event) (is_at station event) is in
      let more : unit_of_swap plan (suc count) ≡ unit_of_swap plan count + 1 = unit-more plan count event there true both.0 in (omega arith, omega arith)

  module _ (below : station < length plan.stations) where
    -- the units that are still to come have higher numbers
    unit-under : (count : ℕ) → count ≤ length plan.events → unit_at plan station count < unit_of_swap plan count
    unit-under zero within = omega arith
    unit-under (suc count) within =
        let next = event-there plan.events count (omega arith) in
        subst (λ (u : ℕ). u < unit_of_swap plan (suc count)) (sym (unit-next plan station count next.0 next.1)) (next-under count next.0 next.1 (is_swap next.0 && is_at station next.0) refl (unit-under count (omega arith))).1

    unit-grows : (count : ℕ) → suc count ≤ length plan.events → unit_at plan station count ≤ unit_at plan station (suc count)
    unit-grows count within =
        let next = event-there plan.events count (omega arith) in
        subst (λ (u : ℕ). unit_at plan station count ≤ u) (sym (unit-next plan station count next.0 next.1)) (next-under count next.0 next.1 (is_swap next.0 && is_at station next.0) refl (unit-under count (omega arith))).0

    -- one that a swap took away never comes back
    pub unit-left : (count e : ℕ) (event : EventPlan) → count ≤ length plan.events → e < count → slice_get plan.events e ≡ Some event → is_swap event ≡ true → is_at station event ≡ true
        → unit_at plan station e < unit_at plan station count
    unit-left zero e event within less there swap here = absurd (omega arith)
    unit-left (suc count) e event within less there swap here = elim (below-or-at e count less) [
      | inl before ↦ (let was = unit-left count e event (omega arith) before there swap here in let grows = unit-grows count within in omega arith)
      | inr same ↦
          (let now : unit_at plan station (suc e) ≡ unit_of_swap plan e = unit-here plan station e event there here ∙ ap (λ b. cond b (unit_of_swap plan e) (unit_at plan station e)) swap in
          let under = unit-under e (omega arith) in
          subst (λ (k : ℕ). unit_at plan station e < unit_at plan station (suc k)) same (subst (λ (u : ℕ). unit_at plan station e < u) (sym now) under))
    ]
