-- The swaps are undone: each device comes to the place of its unit.
use Rattle.std.proofs.Common.{◌≡◌, ℕ, zero, suc, ◌+◌, ◌<◌, ◌≤◌, Bool, true, false, cond, List, inl, inr, length, map, slice_get, count_by, Some, refl, sym, ap, ◌∙◌, subst, arith}
use Rattle.std.specs.Prelude.{slice_set}
use Rattle.std.proofs.lemmas.List.{length-set, map-set}
use Rattle.std.proofs.lemmas.Option.{slice_get_within}
use Rattle.lq_model.proofs.Reach.{at-own-swap, swap-apart}
use Rattle.lq_model.specs.Plan.{Plan, is_swap, unit_of_swap}
use Rattle.lq_model.specs.declared.plan.EventPlan.{EventPlan}
use Rattle.lq_senders.specs.Units.{swaps_before, traded, undone, undone_event, unit_at}
use Rattle.lq_senders.proofs.Devices.{swaps-more}
use Rattle.lq_senders.proofs.Seats.{each-set, mapped-at, set-apart}
use Rattle.lq_senders.proofs.Turns.{event-there}
use Rattle.lq_senders.proofs.Units.{unit-elsewhere, unit-here, unit-stays, unit-within}
use Rattle.lq_senders.proofs.Ways.{below-or-at}

-- two devices change their places
pub trade : {X Y : Type 0} (f : X → Y) (plan : Plan) (e place : ℕ) (event : EventPlan) (homes spares : List X) (x y : X) → slice_get plan.events e ≡ Some event → is_swap event ≡ true → place ≡ swaps_before plan e
    → slice_get homes event.station ≡ Some x → slice_get spares place ≡ Some y
    → (map f (slice_set homes event.station y), map f (slice_set spares place x)) ≡ undone_event plan e (slice_get plan.events e) (map f homes) (map f spares)
trade f plan e place event homes spares x y there swap place-is at-x at-y = first ∙ (second ∙ (third ∙ (fourth ∙ fifth)))
  where
    first : (map f (slice_set homes event.station y), map f (slice_set spares place x)) ≡ traded event.station (map f homes) place (map f spares) (Some (f x)) (Some (f y))
    first = λ i. (map-set f homes event.station y i, map-set f spares place x i)

    second : traded event.station (map f homes) place (map f spares) (Some (f x)) (Some (f y)) ≡ traded event.station (map f homes) place (map f spares) (slice_get (map f homes) event.station) (slice_get (map f spares) place)
    second = λ i. traded event.station (map f homes) place (map f spares) (sym (mapped-at f homes event.station x at-x) i) (sym (mapped-at f spares place y at-y) i)

    third : traded event.station (map f homes) place (map f spares) (slice_get (map f homes) event.station) (slice_get (map f spares) place)
        ≡ traded event.station (map f homes) (swaps_before plan e) (map f spares) (slice_get (map f homes) event.station) (slice_get (map f spares) (swaps_before plan e))
    third = ap (λ k. traded event.station (map f homes) k (map f spares) (slice_get (map f homes) event.station) (slice_get (map f spares) k)) place-is

    fourth : traded event.station (map f homes) (swaps_before plan e) (map f spares) (slice_get (map f homes) event.station) (slice_get (map f spares) (swaps_before plan e))
        ≡ undone_event plan e (Some event) (map f homes) (map f spares)
    fourth = ap (λ b. cond b (traded event.station (map f homes) (swaps_before plan e) (map f spares) (slice_get (map f homes) event.station) (slice_get (map f spares) (swaps_before plan e))) (map f homes, map f spares)) (sym swap)

    fifth : undone_event plan e (Some event) (map f homes) (map f spares) ≡ undone_event plan e (slice_get plan.events e) (map f homes) (map f spares)
    fifth = ap (λ o. undone_event plan e o (map f homes) (map f spares)) (sym there)

-- WHAT HOLDS OF EACH UNIT'S DEVICE

-- a later swap has a later place
swaps-rise : (plan : Plan) (count e : ℕ) (event : EventPlan) → count ≤ length plan.events → e < count → slice_get plan.events e ≡ Some event → is_swap event ≡ true → swaps_before plan e < swaps_before plan count
swaps-rise plan zero e event within below there swap = absurd (omega arith)
swaps-rise plan (suc count) e event within below there swap =
    let next = event-there plan.events count (omega arith) in
    elim (below-or-at e count below) [
      | inl less ↦ (let lower = swaps-rise plan count e event (omega arith) less there swap in let more = swaps-more plan count next.0 next.1 (is_swap next.0) refl in omega arith)
      | inr same ↦ (let more : swaps_before plan (suc e) ≡ swaps_before plan e + 1 = swaps-more plan e event there true swap in let is : swaps_before plan (suc e) ≡ swaps_before plan (suc count) = ap (λ k. swaps_before plan (suc k)) same in omega arith)
    ]

module _ {X : Type 0} (P : ℕ → X → Type 0) (plan : Plan) where
  -- P holds of each device and its unit, where the swaps below `count` are still to be undone
  pub record LieAt (count : ℕ) (homes spares : List X) : Type 0 where
    pub stations : length homes ≡ length plan.stations
    pub swaps : length spares ≡ count_by is_swap plan.events
    pub home : (j : ℕ) (x : X) → slice_get homes j ≡ Some x → P (unit_at plan j count) x
    pub taken : (e : ℕ) (event : EventPlan) (x : X) → e < count → slice_get plan.events e ≡ Some event → is_swap event ≡ true → slice_get spares (swaps_before plan e) ≡ Some x → P (unit_at plan event.station e) x
    pub back : (k : ℕ) (x : X) → swaps_before plan count ≤ k → slice_get spares k ≡ Some x → P (length plan.stations + k) x

  one-undone : (count : ℕ) (event : EventPlan) (homes spares : List X) → suc count ≤ length plan.events → event.station < length plan.stations → slice_get plan.events count ≡ Some event
      → (b : Bool) → is_swap event ≡ b → LieAt (suc count) homes spares
      → let new = cond b (traded event.station homes (swaps_before plan count) spares (slice_get homes event.station) (slice_get spares (swaps_before plan count))) (homes, spares) in LieAt count new.0 new.1
  one-undone count event homes spares within station there false none lie = record {
    stations = lie.stations;
    swaps = lie.swaps;
    home = λ j x at. subst (λ u. P u x) (unit-stays plan j count event there none) (lie.home j x at);
    taken = λ e late x below at swap go. lie.taken e late x (omega arith) at swap go;
    back = λ k x above at. lie.back k x (let more : swaps_before plan (suc count) ≡ swaps_before plan count + 0 = swaps-more plan count event there false none in omega arith) at;
  }
  one-undone count event homes spares within station there true swap lie =
      let x = event-there homes event.station (let long = lie.stations in omega arith) in
      let y = event-there spares (swaps_before plan count) (let long = lie.swaps in let below = unit-within plan count event there swap in omega arith) in
      subst (λ (new : List X × List X). LieAt count new.0 new.1) (λ i. traded event.station homes (swaps_before plan count) spares (sym x.1 i) (sym y.1 i)) (record {
        stations = length-set homes event.station y.0 ∙ lie.stations;
        swaps = length-set spares (swaps_before plan count) x.0 ∙ lie.swaps;
        home = each-set (λ (j : ℕ) (z : X). P (unit_at plan j count) z) homes event.station y.0 (slice_get_within homes event.station x.0 x.1)
            (lie.taken count event y.0 (omega arith) there swap y.1)
            (λ j z other at. subst (λ u. P u z) (unit-elsewhere plan j count event there (swap-apart j event swap other)) (lie.home j z at));
        taken = λ e late z below at is go. lie.taken e late z (omega arith) at is
            (sym (set-apart spares (swaps_before plan count) (swaps_before plan e) x.0 (λ same. let lower = swaps-rise plan count e late (omega arith) below at is in absurd (omega arith))) ∙ go);
        back = λ k z above at. each-set (λ (k : ℕ) (z : X). swaps_before plan count ≤ k → P (length plan.stations + k) z) spares (swaps_before plan count) x.0 (slice_get_within spares (swaps_before plan count) y.0 y.1)
            (λ above. subst (λ u. P u x.0) (unit-here plan event.station count event there (at-own-swap event swap) ∙ ap (λ b. cond b (unit_of_swap plan count) (unit_at plan event.station count)) swap) (lie.home event.station x.0 x.1))
            (λ k z other at above. lie.back k z (let more : swaps_before plan (suc count) ≡ swaps_before plan count + 1 = swaps-more plan count event there true swap in omega (arith, other, above)) at)
            k z at above;
      })

  -- once all are undone it holds of each device and the unit of its place
  pub all-undone : (count : ℕ) (devices : List X × List X) → count ≤ length plan.events → ((e : ℕ) (event : EventPlan) → slice_get plan.events e ≡ Some event → event.station < length plan.stations)
      → LieAt count devices.0 devices.1 → LieAt 0 (undone plan count devices).0 (undone plan count devices).1
  all-undone zero devices within stations lie = lie
  all-undone (suc count) devices within stations lie =
      let next = event-there plan.events count (omega arith) in
      all-undone count (undone_event plan count (slice_get plan.events count) devices.0 devices.1) (omega arith) stations
      (subst (λ (new : List X × List X). LieAt count new.0 new.1) (ap (λ o. undone_event plan count o devices.0 devices.1) (sym next.1))
      (one-undone count next.0 devices.0 devices.1 within (stations count next.0 next.1) next.1 (is_swap next.0) refl lie))
