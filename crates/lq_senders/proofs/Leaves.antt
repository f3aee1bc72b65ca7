-- The fates of a whole run, and where its devices are.
use Rattle.std.proofs.Common.{◌≡◌, refl, inl, inr, ℕ, ◌+◌, ◌-◌, ◌<◌, List, [], ◌++◌, length, map, count_by, true, Option, Some, None, sym, ap, ◌∙◌, subst, slice_get, arith, Contains}
use Rattle.std.specs.Option.{option_and_then, option_map, option_map_or}
use Rattle.std.specs.Prelude.{slice_index}
use Rattle.std.proofs.Math.ListN.{drop_of_length-le}
use Rattle.std.proofs.lemmas.Bool.{cases_lt}
use Rattle.std.proofs.lemmas.Option.{same_Some, slice_get_within}
use Rattle.lq_account_laws.proofs.Lists.{get-push-old}
use Rattle.lq_account_laws.proofs.Units.{one-station}
use Rattle.lq_device.specs.Station.{StationState}
use Rattle.lq_model.specs.Alone.{after_run, fate_in, new_device, new_stations}
use Rattle.lq_model.specs.Device.{DeviceState, Telling, told_params}
use Rattle.lq_model.proofs.Reach.{at-own-swap}
use Rattle.lq_model.specs.Plan.{Plan, is_swap, station_in, unit_count}
use Rattle.lq_model.specs.Settled.{IsConfiguredWith, IsUnitOf}
use Rattle.lq_model.specs.Words.{IsWordOf}
use Rattle.lq_model.specs.declared.device.Params.{Params}
use Rattle.lq_model.specs.declared.fate.Fate.{Fate}
use Rattle.lq_model.specs.declared.fate.Info.{Info}
use Rattle.lq_model.specs.declared.plan.EventPlan.{EventPlan}
use Rattle.lq_seat.specs.State.{SeatState, seat_account, no_station, HasServed, new_seat, no_device, setup_of}
use Rattle.lq_senders.specs.Ends.{AreBack, AreOver, ClosedState, EndsAt, FatesRead, HasSentAll, IsClosedStation, RunEnds, UnitEnds, home_device}
use Rattle.lq_senders.specs.Fates.{AllTell, AreFatesOf, IsEndedAs}
use Rattle.lq_senders.specs.Senders.{AllOwn, IsSendable}
use Rattle.lq_senders.specs.Units.{DevicesStand, swaps_before, undone, unit_at}
use Rattle.lq_senders.proofs.AtEnd.{configured-below, unit-at-end, unit-configured}
use Rattle.lq_senders.proofs.FatesOfRun.{fates_of_run}
use Rattle.lq_senders.proofs.FatesRead.{fate-in}
use Rattle.lq_senders.proofs.Lists.{get-past, length-mapped, take-all}
use Rattle.lq_senders.proofs.Present.{unit-left, unit-of-station}
use Rattle.lq_senders.proofs.Seats.{mapped-at}
use Rattle.lq_senders.proofs.Starts.{of-plan, own-queue, starts-run, units-tell}
use Rattle.lq_senders.proofs.Turns.{event-there}
use Rattle.lq_senders.proofs.Undone.{LieAt, all-undone}

-- THE CLOSED STATIONS

-- a seat of no table
abbrev no-seat : Plan → List Info → SeatState
no-seat plan infos = new_seat (record { words = 0; slots = 0; views_name = 0; atom = 0; block = 0; offset = 0; slot_names = [] }) (setup_of plan infos 0) no_device

module _ (plan : Plan) (infos : List Info) (opens : ℕ → ℕ) (others : ℕ) (start : List SeatState) (brought : List DeviceState) (closed : List ClosedState) (spares : List DeviceState) (ran : HasSentAll plan infos opens others start brought closed spares) where
  abbrev views : ℕ → SeatState
  views j = option_map_or (λ (c : SeatState). c) (slice_get ran.seats j) (no-seat plan infos)

  seat-there : (j : ℕ) → j < length plan.stations → (c : SeatState) × (slice_get ran.seats j ≡ Some c)
  seat-there j below = event-there ran.seats j (let one = ran.one_each in omega arith)

  closed-there : (j : ℕ) → j < length plan.stations → (x : ClosedState) × (slice_get closed j ≡ Some x)
  closed-there j below = event-there closed j (let so_many = ran.closed_are.so_many in omega arith)

  view-is : (j : ℕ) (c : SeatState) → slice_get ran.seats j ≡ Some c → c ≡ views j
  view-is j c there = ap (λ (o : Option SeatState). option_map_or (λ (x : SeatState). x) o (no-seat plan infos)) (sym there)

  as-closed : (j : ℕ) (x : ClosedState) → j < length plan.stations → slice_get closed j ≡ Some x → IsClosedStation plan infos j (views j) x
  as-closed j x below at = let c = seat-there j below in subst (λ (v : SeatState). IsClosedStation plan infos j v x) (view-is j c.0 c.1) (ran.closed_are.each j c.0 x c.1 at)

  ends-at : (j : ℕ) → j < length plan.stations → EndsAt plan infos j (views j)
  ends-at j below = let x = closed-there j below in (as-closed j x.0 below x.1).ends

  pub leaves-station : (fates : List Fate) → FatesRead infos closed (length infos) fates → (j : ℕ) (x : ClosedState) → slice_get closed j ≡ Some x → IsEndedAs plan infos fates j x.ended
  leaves-station fates read j x at = let below : j < length plan.stations = (let within = slice_get_within closed j x at in let so_many = ran.closed_are.so_many in omega arith) in
      let is = as-closed j x below at in record {
        number_is = is.number_is;
        plan_is = is.plan_is;
        packets_are = is.packets_are;
        fates_are = λ n fate there of. read.each n x fate (ap (slice_get closed) of ∙ at) there;
      }

  -- THE UNITS' DEVICES

  events-at : (e : ℕ) (event : EventPlan) → slice_get plan.events e ≡ Some event → event.station < length plan.stations
  events-at e event there = (ran.limits.each_event e event there).station

  abbrev homes : List DeviceState
  homes = map home_device closed

  home-there : (j : ℕ) (device : DeviceState) → slice_get homes j ≡ Some device → (j < length plan.stations) × ((views j).whole.device ≡ device)
  home-there j device at =
      let within = slice_get_within homes j device at in let long = length-mapped home_device closed in let so_many = ran.closed_are.so_many in
      let below : j < length plan.stations = omega arith in
      let x = closed-there j below in let home = (as-closed j x.0 below x.1).at_home in
      let is : home_device x.0 ≡ device = same_Some _ device (sym (mapped-at home_device closed j x.0 x.1) ∙ at) in
      (below, sym (ap (λ (o : Option StationState). option_map_or (λ (st : StationState). st.device) o no_station.device) home.1 ∙ home.2) ∙ is)

  module _ (units : List DeviceState) (begin : DevicesStand plan infos units 0 start brought) where
    abbrev last : ℕ
    last = length plan.events

    stand : DevicesStand plan infos units last ran.seats spares
    stand = ran.devices units begin

    -- What is known of a unit's device after the run: the unit is one of a station, to which its device came so, and which has that
    -- it sent what the device accepted; and if it is the latest, its device is the station's.
    record IsUnit (unit : ℕ) (device : DeviceState) : Type 0 where
      station : ℕ
      within : station < length plan.stations
      of_station : IsUnitOf plan station unit
      origin : DeviceState
      came : slice_get units unit ≡ Some origin
      has_served : HasServed infos station origin device
      sent : (seat_account (views station)).sent unit ≡ device.accepted
      present : (j : ℕ) → j < length plan.stations → unit_at plan j last ≡ unit → (views j).whole.device ≡ device

    home-unit : (j : ℕ) (device : DeviceState) → slice_get homes j ≡ Some device → IsUnit (unit_at plan j last) device
    home-unit j device at =
        let home = home-there j device at in let ends = ends-at j home.0 in let c = seat-there j home.0 in
        let unit = unit-at-end plan infos j (views j) ends in record {
          station = j;
          within = home.0;
          of_station = unit-of-station plan j last (omega arith);
          origin = (views j).origin;
          came = stand.home j c.0 c.1 ∙ ap (λ (v : SeatState). Some v.origin) (view-is j c.0 c.1);
          has_served = subst (λ (d : DeviceState). HasServed infos j (views j).origin d) home.1 ends.sound.device;
          sent = ap (seat_account (views j)).sent (sym unit) ∙ (ends.sound.sent ∙ ap (λ (d : DeviceState). d.accepted) home.1);
          present = λ k below same.
              let is : k ≡ j = one-station plan k j (unit_at plan j last) below home.0 (subst (IsUnitOf plan k) same (unit-of-station plan k last (omega arith))) (unit-of-station plan j last (omega arith)) in
              ap (λ (i : ℕ). (views i).whole.device) is ∙ home.1;
        }

    spares-are : spares ≡ stand.taken
    spares-are =
        let long = stand.units_are.long in let all = ap (λ (events : List EventPlan). count_by is_swap events) (take-all plan.events) in
        stand.spares_are ∙ ap (λ (l : List DeviceState). l ++ stand.taken) (drop_of_length-le units (omega arith))

    pub spares-long : length spares ≡ count_by is_swap plan.events
    spares-long = ap length spares-are ∙ (stand.so_many ∙ ap (λ (events : List EventPlan). count_by is_swap events) (take-all plan.events))

    taken-unit : (e : ℕ) (event : EventPlan) (device : DeviceState) → e < last → slice_get plan.events e ≡ Some event → is_swap event ≡ true → slice_get spares (swaps_before plan e) ≡ Some device
        → IsUnit (unit_at plan event.station e) device
    taken-unit e event device before there swap at =
        let took = stand.each e event before there swap in let below = events-at e event there in let c = seat-there event.station below in
        let is : took.device ≡ device = same_Some took.device device (sym took.went ∙ (ap (λ (l : List DeviceState). slice_get l (swaps_before plan e)) (sym spares-are) ∙ at)) in
        let gone = subst (λ (v : SeatState). Contains v.gone (unit_at plan event.station e, took.device.accepted)) (view-is event.station c.0 c.1) (took.gone c.0 c.1) in record {
          station = event.station;
          within = below;
          of_station = unit-of-station plan event.station e (omega arith);
          origin = took.origin;
          came = took.came;
          has_served = subst (λ (d : DeviceState). HasServed infos event.station took.origin d) is took.has_served;
          sent = (ends-at event.station below).sound.gone (unit_at plan event.station e) took.device.accepted gone ∙ ap (λ (d : DeviceState). d.accepted) is;
          present = λ k below-k same. absurd (
              let same-station : k ≡ event.station = one-station plan k event.station (unit_at plan event.station e) below-k below
              (subst (IsUnitOf plan k) same (unit-of-station plan k last (omega arith))) (unit-of-station plan event.station e (omega arith)) in
              let last-is : unit_at plan k last ≡ unit_at plan event.station last = ap (λ (i : ℕ). unit_at plan i last) same-station in
              let left = unit-left plan event.station below last e event (omega arith) before there swap (at-own-swap event swap) in omega arith);
        }

    lie : LieAt IsUnit plan last homes spares
    lie = record {
      stations = length-mapped home_device closed ∙ ran.closed_are.so_many;
      swaps = spares-long;
      home = home-unit;
      taken = taken-unit;
      back = λ k device above at. absurd (
          let within = slice_get_within spares k device at in let long = spares-long in
          let all : swaps_before plan last ≡ count_by is_swap plan.events = ap (λ (events : List EventPlan). count_by is_swap events) (take-all plan.events) in omega arith);
    }

    -- THE BENCH

    module _ (after : List DeviceState) (back : AreBack plan closed spares after) where
      by-units : LieAt IsUnit plan 0 (undone plan last (homes, spares)).0 (undone plan last (homes, spares)).1
      by-units = all-undone IsUnit plan last (homes, spares) (omega arith) events-at lie

      -- each unit's device is back in its place
      unit-back : (unit : ℕ) → unit < unit_count plan → (device : DeviceState) × (slice_get after unit ≡ Some device) × IsUnit unit device
      unit-back unit below = elim (cases_lt unit (length plan.stations)) [
        | inl station ↦
            (let x = event-there (undone plan last (homes, spares)).0 unit (let long = by-units.stations in omega arith) in
            (x.0, back unit x.0 (get-push-old (undone plan last (homes, spares)).0 (undone plan last (homes, spares)).1 x.0 unit x.1), by-units.home unit x.0 x.1))
        | inr swap ↦
            (let k = unit - length plan.stations in let first = by-units.stations in
            let x = event-there (undone plan last (homes, spares)).1 k (let long = by-units.swaps in omega arith) in
            let at : length plan.stations + k ≡ unit = omega arith in let at' : length (undone plan last (homes, spares)).0 + k ≡ unit = omega arith in (
              x.0,
              back unit x.0 (ap (slice_get ((undone plan last (homes, spares)).0 ++ (undone plan last (homes, spares)).1)) (sym at') ∙ (get-past (undone plan last (homes, spares)).0 (undone plan last (homes, spares)).1 k ∙ x.1)),
              subst (λ (u : ℕ). IsUnit u x.0) at (by-units.back k x.0 (omega arith) x.1),
            ))
      ]

      unit-is : (unit : ℕ) (device : DeviceState) → unit < unit_count plan → slice_get after unit ≡ Some device → IsUnit unit device
      unit-is unit device below there = let u = unit-back unit below in subst (IsUnit unit) (same_Some u.0 device (sym u.1 ∙ there)) u.2

      unit-ends : (unit : ℕ) → unit < unit_count plan → UnitEnds plan infos after views unit
      unit-ends unit below = let u = unit-back unit below in let is = u.2 in record {
        station = is.station;
        within = is.within;
        of_station = is.of_station;
        device = u.0;
        there = u.1;
        sent = is.sent;
        asked = is.has_served.asked;
        hangs = is.has_served.told;
      }

      device-present : (j : ℕ) → j < length plan.stations → slice_get after (seat_account (views j)).unit ≡ Some (views j).whole.device
      device-present j below =
          let at-end = unit-at-end plan infos j (views j) (ends-at j below) in
          let s = unit-configured plan j (unit_at plan j last) below (unit-of-station plan j last (omega arith)) in
          let u = unit-back (unit_at plan j last) (configured-below plan (unit_at plan j last) s.0 s.1) in
          ap (slice_get after) at-end ∙ (u.1 ∙ ap Some (sym (u.2.present j below refl)))

-- EACH BOX

module _ (plan : Plan) (infos : List Info) (opens : ℕ → ℕ) (before after : List DeviceState) (others : ℕ) (start : List SeatState) (brought : List DeviceState) (closed : List ClosedState) (spares : List DeviceState)
    (ran : HasSentAll plan infos opens others start brought closed spares) (over : AreOver plan infos before others start brought) (back : AreBack plan closed spares after) where
  -- a unit's device, as it came and as it went
  own-unit : (unit : ℕ) (device : DeviceState) → unit < unit_count plan → slice_get after unit ≡ Some device → IsUnit plan infos opens others start brought closed spares ran over.units over.stand unit device
  own-unit = unit-is plan infos opens others start brought closed spares ran over.units over.stand after back

  pub keeps-box : (unit : ℕ) (old new : DeviceState) → unit < unit_count plan → slice_get before unit ≡ Some old → slice_get after unit ≡ Some new → new.identity ≡ old.identity
  keeps-box unit old new below at-old at-new =
      let u = own-unit unit new below at-new in let s = unit-configured plan u.station unit u.within u.of_station in
      u.has_served.identity ∙ (over.configured unit s.0 old u.origin s.1 at-old u.came).1.identity

-- what a configured device tells, if it told anything before
told-as : (params : Params) (o : Option Telling) → option_map (λ (t : Telling). t.params) (option_map (λ (_ : Telling). new_device params) o) ≡ option_map (λ (_ : Telling). params) o
told-as params None = refl
told-as params (Some t) = refl

-- THE FATES

module _ (plan : Plan) (infos : List Info) (opens : ℕ → ℕ) (before after : List DeviceState) (others : ℕ) (start : List SeatState) (brought : List DeviceState) (closed : List ClosedState) (spares : List DeviceState) (fates : List Fate)
    (ran : HasSentAll plan infos opens others start brought closed spares) (sendable : IsSendable plan infos) (over : AreOver plan infos before others start brought) (read : FatesRead infos closed (length infos) fates)
    (back : AreBack plan closed spares after) (one-fate : (f g : Fate) (word : ℕ) → IsWordOf f word → IsWordOf g word → f ≡ g) where
  abbrev own-views : ℕ → SeatState
  own-views = views plan infos opens others start brought closed spares ran

  fates-are : (n : ℕ) → n < length infos → slice_get fates n ≡ (seat_account (own-views (station_in infos n))).fates n
  fates-are n inside =
      let below = of-plan plan infos sendable n inside in let x = closed-there plan infos opens others start brought closed spares ran (station_in infos n) below in
      let own = fate-in plan infos (own-views (station_in infos n)) x.0 n inside (as-closed plan infos opens others start brought closed spares ran (station_in infos n) x.0 below x.1) in
      let there = event-there fates n (let so_many = read.so_many in omega arith) in
      there.1 ∙ (ap Some (one-fate there.0 own.0 (slice_index x.0.ended.words n) (read.each n x.0 there.0 x.1 there.1) own.2) ∙ sym own.1)

  all-own : plan.senders ≡ 1 → AllOwn infos
  all-own one n inside = let owner = (sendable.made (station_in infos n) (of-plan plan infos sendable n inside)).owners n inside in omega arith

  fate-alone : AllTell (unit_count plan) before → plan.senders ≡ 1 → (n : ℕ) → n < length infos
      → fate_in (after_run plan infos opens (λ n. true) (new_stations 0 plan.stations)) infos n ≡ (seat_account (own-views (station_in infos n))).fates n
  fate-alone tell one n inside =
      let below = of-plan plan infos sendable n inside in let c = seat-there plan infos opens others start brought closed spares ran (station_in infos n) below in
      let stand = ran.devices over.units over.stand in
      let begins = starts-run plan infos before others start brought over ran.long ran.limits tell one in
      let ends = ran.alone (over.alone one).0 (all-own one) over.units over.stand (units-tell plan infos before others start brought over tell) (new_stations 0 plan.stations) begins (station_in infos n) c.0 c.1 in
      ap (option_and_then (λ s. s.account.fates n)) ends.1
      ∙ (ap (λ fs. fs n) (sym ends.2) ∙ ap (λ (v : SeatState). (seat_account v).fates n) (view-is plan infos opens others start brought closed spares ran (station_in infos n) c.0 c.1))

  device-tells : (unit : ℕ) (params : Params) (old device : DeviceState) → IsConfiguredWith plan unit params → slice_get before unit ≡ Some old → slice_get after unit ≡ Some device
      → told_params device ≡ option_map (λ _. params) old.told
  device-tells unit params old device configured was there =
      let below = configured-below plan unit params configured in let u = own-unit plan infos opens before after others start brought closed spares ran over back unit device below there in
      u.has_served.params ∙ (ap (option_map (λ (t : Telling). t.params)) (over.configured unit params old u.origin configured was u.came).1.told ∙ told-as params old.told)

  ends : RunEnds plan infos opens before after own-views fates
  ends = record {
    of_plan = of-plan plan infos sendable;
    queues = own-queue plan infos sendable;
    one_each = read.so_many;
    bench = over.bench;
    each = ends-at plan infos opens others start brought closed spares ran;
    fates_are = fates-are;
    units = unit-ends plan infos opens others start brought closed spares ran over.units over.stand after back;
    present = device-present plan infos opens others start brought closed spares ran over.units over.stand after back;
    tells = device-tells;
    alone = fate-alone;
  }

  pub leaves-fates : AreFatesOf plan infos opens fates before after
  leaves-fates = fates_of_run plan infos opens before after own-views fates ends
