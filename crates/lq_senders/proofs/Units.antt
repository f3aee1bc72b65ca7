-- The plan's events and the units that they bring.
use Rattle.std.proofs.Common.{◌≡◌, ℕ, zero, suc, ◌+◌, ◌<◌, ◌≤◌, ◌&&◌, Bool, true, false, cond, List, [], ◌∷◌, inl, inr, length, take, slice_get, Some, refl, sym, ap, ◌∙◌, subst, arith, Contains}
use Rattle.std.proofs.lemmas.List.Sums.{count_by-le-length, sum_by-take-le}
use Rattle.std.proofs.lemmas.Option.{same_Some}
use Rattle.lq_account_laws.proofs.Units.{unit-after}
use Rattle.lq_account_laws.proofs.Lists.{cons-in, here-in, there-in, none-in}
use Rattle.lq_model.specs.Account.{Event, Swap}
use Rattle.lq_model.specs.Plan.{Plan, after_events, is_at, is_swap, is_swap_kind, unit_count, unit_of_swap}
use Rattle.lq_model.specs.declared.device.Params.{Params}
use Rattle.lq_model.specs.declared.plan.EventKind.{EventKind}
use Rattle.lq_model.specs.declared.plan.EventKind.TheVariants as kind
use Rattle.lq_model.specs.declared.plan.EventPlan.{EventPlan}
use Rattle.lq_seat.specs.State.{units_of}
use Rattle.lq_senders.specs.Units.{unit_at}

-- HOW MANY

-- there are as many units, the one that a swap brings among them
pub unit-within : (plan : Plan) (count : ℕ) (event : EventPlan) → slice_get plan.events count ≡ Some event → is_swap event ≡ true → unit_of_swap plan count < unit_count plan
unit-within plan count event there swap =
    let more : unit_of_swap plan (count + 1) ≡ unit_of_swap plan count + 1 = unit-after plan count event there true swap in
    let few = sum_by-take-le (λ (x : EventPlan). cond (is_swap x) 1 0) plan.events (count + 1) in omega arith

pub units-few : (plan : Plan) → unit_count plan ≤ length plan.stations + length plan.events
units-few plan = let few = count_by-le-length is_swap plan.events in omega arith

-- what a swap is
pub swap-params : (k : EventKind) → is_swap_kind k ≡ true → (params : Params) × (k ≡ kind.Swap params)
swap-params (kind.Swap params) is = (params, refl)
swap-params kind.Down is = absurd cc
swap-params kind.Up is = absurd cc
swap-params (kind.Resize len) is = absurd cc
swap-params (kind.TxQueueLen len) is = absurd cc

-- THE UNIT OF A STATION

-- one event more
pub event-more : {X : Type 0} (change : ℕ → EventPlan → X → X) (station : ℕ) (events : List EventPlan) (count e : ℕ) (x : X) (event : EventPlan) → slice_get events count ≡ Some event
    → after_events change station (take (suc count) events) e x
    ≡ cond (is_at station event) (change (e + count) event (after_events change station (take count events) e x)) (after_events change station (take count events) e x)
event-more change station [] count e x event there = absurd cc
event-more change station (y ∷ ys) zero e x event there =
    let same : y ≡ event = same_Some y event there in let more : e + 0 ≡ e = omega arith in
    ap (λ (z : EventPlan). cond (is_at station z) (change e z x) x) same ∙ ap (λ i. cond (is_at station event) (change i event x) x) (sym more)
event-more change station (y ∷ ys) (suc count) e x event there =
    let more : (e + 1) + count ≡ e + suc count = omega arith in let now = cond (is_at station y) (change e y x) x in
    let before = after_events change station (take count ys) (e + 1) now in
    event-more change station ys count (e + 1) now event there ∙ ap (λ i. cond (is_at station event) (change i event before) before) more

pub unit-next : (plan : Plan) (station count : ℕ) (event : EventPlan) → slice_get plan.events count ≡ Some event
    → unit_at plan station (suc count) ≡ cond (is_swap event && is_at station event) (unit_of_swap plan count) (unit_at plan station count)
unit-next plan station count event there =
    let same : 0 + count ≡ count = omega arith in let before = unit_at plan station count in
    event-more (λ e event unit. cond (is_swap event) (unit_of_swap plan e) unit) station plan.events count 0 station event there
    ∙ (ap (λ i. cond (is_at station event) (cond (is_swap event) (unit_of_swap plan i) before) before) same ∙ both (is_swap event) (is_at station event))
  where
    both : (a b : Bool) → cond b (cond a (unit_of_swap plan count) (unit_at plan station count)) (unit_at plan station count) ≡ cond (a && b) (unit_of_swap plan count) (unit_at plan station count)
    both true true = refl
    both true false = refl
    both false true = refl
    both false false = refl

pub unit-here : (plan : Plan) (station count : ℕ) (event : EventPlan) → slice_get plan.events count ≡ Some event → is_at station event ≡ true
    → unit_at plan station (suc count) ≡ cond (is_swap event) (unit_of_swap plan count) (unit_at plan station count)
unit-here plan station count event there here = unit-next plan station count event there
    ∙ (ap (λ b. cond (is_swap event && b) (unit_of_swap plan count) (unit_at plan station count)) here ∙ go (is_swap event))
  where
    go : (b : Bool) → cond (b && true) (unit_of_swap plan count) (unit_at plan station count) ≡ cond b (unit_of_swap plan count) (unit_at plan station count)
    go true = refl
    go false = refl

pub unit-elsewhere : (plan : Plan) (station count : ℕ) (event : EventPlan) → slice_get plan.events count ≡ Some event → is_at station event ≡ false → unit_at plan station (suc count) ≡ unit_at plan station count
unit-elsewhere plan station count event there other = unit-next plan station count event there
    ∙ (ap (λ b. cond (is_swap event && b) (unit_of_swap plan count) (unit_at plan station count)) other ∙ go (is_swap event))
  where
    go : (b : Bool) → cond (b && false) (unit_of_swap plan count) (unit_at plan station count) ≡ unit_at plan station count
    go true = refl
    go false = refl

pub unit-stays : (plan : Plan) (station count : ℕ) (event : EventPlan) → slice_get plan.events count ≡ Some event → is_swap event ≡ false → unit_at plan station (suc count) ≡ unit_at plan station count
unit-stays plan station count event there none = unit-next plan station count event there
    ∙ ap (λ b. cond (b && is_at station event) (unit_of_swap plan count) (unit_at plan station count)) none

-- a unit on the trail was brought by its swap
pub unit-on-trail : (trail : List Event) (unit : ℕ) → Contains (units_of trail) unit → Contains trail (Swap unit)
unit-on-trail [] unit h = absurd (none-in [] unit refl h)
unit-on-trail (Swap u ∷ trail) unit h = elim (cons-in u (units_of trail) unit h) [
  | inl same ↦ subst (λ x. Contains (Swap u ∷ trail) (Swap x)) same (here-in (Swap u) trail)
  | inr was ↦ there-in (Swap u) trail (Swap unit) (unit-on-trail trail unit was)
]
unit-on-trail (e ∷ trail) unit h = there-in e trail (Swap unit) (unit-on-trail trail unit h)
