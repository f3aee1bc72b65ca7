-- The devices that swaps bring are configured.
use Rattle.std.proofs.Common.{◌≡◌, inl, inr, ℕ, ◌+◌, ◌<◌, ◌≤◌, true, List, ap, arith, Some, sym, ◌∙◌, subst, slice_get, map}
use Rattle.std.specs.Prelude.{slice_set, option_map}
use Rattle.std.proofs.lemmas.Bool.{cases_eq}
use Rattle.std.proofs.lemmas.List.{length-map, length-set}
use Rattle.std.proofs.lemmas.Option.{same_Some, slice_get_within, slice_get-map}
use Rattle.lq_model.specs.Device.{DeviceState, IsConfigured}
use Rattle.lq_model.specs.Plan.{Plan, is_swap, is_swap_kind, unit_count, unit_of_swap}
use Rattle.lq_model.specs.declared.device.Params.{Params}
use Rattle.lq_model.specs.declared.fate.Info.{Info}
use Rattle.lq_model.specs.declared.plan.EventKind.TheVariants as kind
use Rattle.lq_model.specs.declared.plan.EventPlan.{EventPlan}
use Rattle.lq_seat.specs.State.{station_count}
use Rattle.lq_senders.specs.Setup.{AreSparesConfigured, ConfiguresSpare}
use Rattle.lq_senders.proofs.Seats.{set-here, set-apart, mapped-at}
use Rattle.lq_senders.proofs.Sendable.{count-later}
use Rattle.lq_account_laws.proofs.Units.{unit-after}
use Rattle.lq_senders.proofs.Units.{unit-within}

units-rise : (plan : Plan) (i j : ℕ) → i ≤ j → unit_of_swap plan i ≤ unit_of_swap plan j
units-rise plan i j le = let more = count-later is_swap plan.events i j le in omega arith

swap-of : (event : EventPlan) (params : Params) → event.kind ≡ kind.Swap params → is_swap event ≡ true
swap-of event params is = ap is_swap_kind is

-- the unit that a swap brings is one of the plan's
pub brought-within : (plan : Plan) (e : ℕ) (event : EventPlan) (params : Params) → slice_get plan.events e ≡ Some event
    → event.kind ≡ kind.Swap params → unit_of_swap plan e < unit_count plan
brought-within plan e event params planned swaps = unit-within plan e event planned (swap-of event params swaps)

pub spares-more : (plan : Plan) (infos : List Info) (e : ℕ) (first mid new : List DeviceState) → AreSparesConfigured plan infos e first mid → ConfiguresSpare plan infos e mid new
    → AreSparesConfigured plan infos (e + 1) first new
spares-more plan infos e first mid new was step = record {
  same_length = step.same_length ∙ was.same_length;
  apart = λ unit less. step.below unit (omega arith) ∙ was.apart unit less;
  later = λ unit from. step.from_there unit from ∙ was.later unit (let rises = units-rise plan e (e + 1) (omega arith) in omega arith);
  configured = λ k event params old now less planned swaps before after. elim (cases_eq k e) [
    | inl same ↦
        step.configured event params old now (subst (λ i. slice_get plan.events i ≡ Some event) same planned) swaps
        (was.later (unit_of_swap plan e) (omega arith) ∙ subst (λ i. slice_get first (unit_of_swap plan i) ≡ Some old) same before)
        (subst (λ i. slice_get new (unit_of_swap plan i) ≡ Some now) same after)
    | inr other ↦
        was.configured k event params old now (omega arith) planned swaps before
        (sym (step.below (unit_of_swap plan k) (let next = unit-after plan k event planned true (swap-of event params swaps) in let rises = units-rise plan (k + 1) e (omega arith) in omega arith)) ∙ after)
  ];
}

-- one was configured
pub spare-configured : {X : Type 0} (state : X → DeviceState) (plan : Plan) (infos : List Info) (e : ℕ) (event : EventPlan) (params : Params) (bench : List X) (old new : X)
    → slice_get plan.events e ≡ Some event → event.kind ≡ kind.Swap params → slice_get bench (unit_of_swap plan e) ≡ Some old
    → IsConfigured params (station_count infos event.station) (state old) (state new)
    → ConfiguresSpare plan infos e (map state bench) (map state (slice_set bench (unit_of_swap plan e) new))
spare-configured state plan infos e event params bench old new planned swaps there now =
    let u = unit_of_swap plan e in
    let next = unit-after plan e event planned true (swap-of event params swaps) in
    record {
      same_length = length-map (slice_set bench u new) state ∙ (length-set bench u new ∙ sym (length-map bench state));
      configured = λ other params' a b planned' swaps' was is.
          (let event_is : event ≡ other = same_Some event other (sym planned ∙ planned') in
          let params_are : kind.Swap params ≡ kind.Swap params' = sym swaps ∙ (ap (λ (x : EventPlan). x.kind) event_is ∙ swaps') in
          let a_is : state old ≡ a = same_Some (state old) a (sym (mapped-at state bench u old there) ∙ was) in
          let b_is : state new ≡ b = same_Some (state new) b (sym (mapped-at state (slice_set bench u new) u new (set-here bench u new (slice_get_within bench u old there))) ∙ is) in
          let same_params : params ≡ params' = cc in
          subst (λ (x : EventPlan). IsConfigured params' (station_count infos x.station) a b) event_is
          (subst (λ p. IsConfigured p (station_count infos event.station) a b) same_params
          (subst (λ x. IsConfigured params (station_count infos event.station) x b) a_is
          (subst (λ y. IsConfigured params (station_count infos event.station) (state old) y) b_is now))));
      below = λ unit less. slice_get-map state (slice_set bench u new) unit ∙ (ap (option_map state) (set-apart bench u unit new (λ same. absurd (omega arith))) ∙ sym (slice_get-map state bench unit));
      from_there = λ unit from. slice_get-map state (slice_set bench u new) unit ∙ (ap (option_map state) (set-apart bench u unit new (λ same. absurd (omega arith))) ∙ sym (slice_get-map state bench unit));
    }
