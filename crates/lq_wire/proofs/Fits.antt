-- A plan with a card fits it.
use Rattle.std.proofs.Common.{◌≡◌, ◌<◌, ℕ, All, Bool, List, length, if◌then◌else◌, None, Option, Some, slice_get, ap, arith, refl, subst, sym, true, ◌∙◌}
use Rattle.std.specs.Option.{option_map_or}
use Rattle.std.proofs.lemmas.Option.{get_or_from_slice_get, slice_get_within}
use Rattle.lq_card_laws.specs.Laws.{FitsCard}
use Rattle.lq_model.specs.Plan.{Plan, is_at, queues_at, reach}
use Rattle.lq_model.specs.declared.fate.Info.{Info}
use Rattle.lq_model.specs.declared.plan.Card.{Card}
use Rattle.lq_model.specs.declared.plan.EventPlan.{EventPlan}
use Rattle.lq_model.specs.declared.plan.StationPlan.{StationPlan}
use Rattle.lq_model.proofs.Reach.{at-of}
use Rattle.lq_plan.specs.Limits.{IsLink, IsStationWithin, IsWithinLimits, StopsAtEach}
use Rattle.lq_plan.specs.Packets.{IsInfoWithin}

-- what a packet has, if there is one, or else 0
had : (P : ℕ → Type 0) (field : Info → ℕ) (infos : List Info) (n : ℕ) → P 0 → ((info : Info) → slice_get infos n ≡ Some info → P (field info)) → P (option_map_or field (slice_get infos n) 0)
had P field infos n none some = by (slice_get infos n) refl
  where
    by : (o : Option Info) → slice_get infos n ≡ o → P (option_map_or field (slice_get infos n) 0)
    by None is = subst (λ (o : Option Info). P (option_map_or field o 0)) (sym is) none
    by (Some info) is = subst (λ (o : Option Info). P (option_map_or field o 0)) (sym is) (some info is)

pub card-fits : (plan : Plan) (infos : List Info) (station : StationPlan) (card : Card) → IsWithinLimits plan → All (IsInfoWithin plan) infos
    → slice_get plan.stations 0 ≡ Some station → station.card ≡ Some card → (s : StationPlan) × FitsCard plan infos s
card-fits plan infos station card limits within at is = (
  station,
  record {
    one = record { stations = link.alone; events = at-one; packets = λ n. had (λ k. k ≡ 0) (λ info. info.station) infos n refl (λ info there. first info (each n info there)) };
    some = own.some;
    queues = link.queues;
    burst = device.burst;
    never_busy = device.never_busy;
    never_hangs = device.never_hangs;
    no_swap = link.no_swap;
    bands = λ n. had (λ k. k < 3) (λ info. info.band) infos n (omega arith) (λ info there. (each n info there).band);
    first_queue = λ n. had (λ k. k ≡ 0) (λ info. info.queue) infos n refl (λ info there. only info (each n info there));
  },
)
  where
    link : IsLink plan station
    link = limits.link 0 station card at is

    own : IsStationWithin station
    own = limits.each_station 0 station at

    device : StopsAtEach station.params
    device = (own.card card is).1

    one : length plan.stations ≡ 1
    one = ap length link.alone

    each : (n : ℕ) (info : Info) → slice_get infos n ≡ Some info → IsInfoWithin plan info
    each n info there = subst (IsInfoWithin plan) (get_or_from_slice_get infos n info info there) (within n info (slice_get_within infos n info there))

    first : (info : Info) → IsInfoWithin plan info → info.station ≡ 0
    first info is-within = omega (arith, is-within.station, one)

    only : (info : Info) → IsInfoWithin plan info → info.queue ≡ 0
    only info is-within =
        let queues : queues_at plan.stations info.station ≡ station.queues = ap (queues_at plan.stations) (first info is-within) ∙ ap (λ o. option_map_or (λ (s : StationPlan). s.queues) o 1) at in
        omega (arith, is-within.queue, queues, link.queues)

    at-one : (e : ℕ) (event : EventPlan) → slice_get plan.events e ≡ Some event → is_at 0 event ≡ true
    at-one e event at-e =
        let inside = limits.each_event e event at-e in
        let all : reach event ≡ event.mq = ap (λ (b : Bool). if b then 1 else event.mq) (link.no_swap e event at-e) in
        at-of 0 event (omega (arith, inside.some, inside.within, one)) (omega (arith, inside.some, all))
