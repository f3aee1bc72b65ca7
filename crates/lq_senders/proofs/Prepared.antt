-- A run begins over the devices of a bench: those of the stations lie in their tables, and those of the swaps are to spare.
use Rattle.std.proofs.Common.{◌≡◌, inl, inr, ℕ, zero, suc, ◌+◌, ◌<◌, ◌≤◌, List, [], ◌∷◌, length, refl, ap, arith, Some, Result, Ok, Err, OnErr, sym, ◌∙◌, subst, map, take, drop, count_by, slice_get}
use Rattle.std.specs.Prelude.{option_map}
use Rattle.std.proofs.lemmas.List.{append-nil, drop-take, length-take-le}
use Rattle.std.proofs.lemmas.Option.{same_Some, slice_get_within, slice_get_cases, slice_get-map}
use Rattle.lq_model.specs.Device.{DeviceState, IsConfigured}
use Rattle.lq_model.specs.Plan.{Plan, is_swap, unit_count, unit_of_swap}
use Rattle.lq_model.specs.Settled.{IsConfiguredWith}
use Rattle.lq_model.specs.declared.device.Params.{Params}
use Rattle.lq_model.specs.declared.fate.Info.{Info}
use Rattle.lq_seat.specs.State.{SeatState, TableState, setup_of, station_count, below, new_seat}
use Rattle.lq_senders.specs.Ends.{AreOver}
use Rattle.lq_senders.specs.Setup.{AreBroughtAsConfigured, AreConfigured, AreSparesConfigured, AreTablesReady}
use Rattle.lq_senders.specs.Units.{AreUnits, DevicesStand, SameDevices}
use Rattle.lq_senders.proofs.Benches.{drop-later, get-drop}
use Rattle.lq_senders.proofs.Turns.{event-there}
use Rattle.lq_senders.proofs.Units.{swap-params, unit-within}

-- ANSWERS

-- what holds whatever the answer is holds on an error
pub on-any-err : {T E P : Type 0} (r : Result T E) → P → OnErr r P
on-any-err (Ok value) holds = _
on-any-err (Err error) holds = holds

-- LISTS

get-taken : {X : Type 0} (n : ℕ) (xs : List X) (k : ℕ) → k < n → slice_get (take n xs) k ≡ slice_get xs k
get-taken zero xs k below = absurd (omega arith)
get-taken (suc n) [] k below = refl
get-taken (suc n) (x ∷ xs) zero below = refl
get-taken (suc n) (x ∷ xs) (suc k) below = get-taken n xs k (omega arith)

-- lists with the same rest have the same elements there
same-past : {X : Type 0} (n k : ℕ) (xs ys : List X) → n ≤ k → drop n xs ≡ drop n ys → slice_get xs k ≡ slice_get ys k
same-past n k xs ys from same = sym (get-drop xs k) ∙ (ap (λ l. slice_get l 0) (drop-later n k xs ys from same) ∙ get-drop ys k)

-- CONFIGURED

-- those of the stations stay as they are while those that swaps bring are configured
pub still-configured : (plan : Plan) (infos : List Info) (before mid after : List DeviceState) → AreConfigured plan infos (length plan.stations) before mid
    → AreSparesConfigured plan infos (length plan.events) mid after → AreConfigured plan infos (length plan.stations) before after
still-configured plan infos before mid after stations spares = record {
  same_length = spares.same_length ∙ stations.same_length;
  configured = λ station s old new below planned was is. stations.configured station s old new below planned was (sym (spares.apart station below) ∙ is);
}

-- those that swaps bring were as they had been before
pub brought-configured : {X : Type 0} (state : X → DeviceState) (plan : Plan) (infos : List Info) (first mid : List X) (after : List DeviceState)
    → drop (length plan.stations) mid ≡ drop (length plan.stations) first → AreSparesConfigured plan infos (length plan.events) (map state mid) after
    → AreBroughtAsConfigured plan infos (map state first) after
brought-configured state plan infos first mid after rest spares e event params old new planned brings was is =
    let unit = unit_of_swap plan e in
    spares.configured e event params old new (slice_get_within plan.events e event planned) planned brings
    (slice_get-map state mid unit ∙ (ap (option_map state) (same-past (length plan.stations) unit mid first (omega arith) rest) ∙ (sym (slice_get-map state first unit) ∙ was))) is

-- OVER THE BENCH

module _ (plan : Plan) (infos : List Info) (before : List DeviceState) (tables : List TableState) (opened : List SeatState) (spares : List DeviceState)
    (ready : AreTablesReady plan infos before tables opened spares) where
  -- the devices of the plan's units
  abbrev units : List DeviceState
  units = take (unit_count plan) ready.devices

  units-long : length units ≡ unit_count plan
  units-long = length-take-le (unit_count plan) ready.devices (let same = ready.configured.same_length in let many = ready.units in omega arith)

  of-bench : (unit : ℕ) (device : DeviceState) → slice_get units unit ≡ Some device → slice_get ready.devices unit ≡ Some device
  of-bench unit device there = sym (get-taken (unit_count plan) ready.devices unit (let within = slice_get_within units unit device there in let long = units-long in omega arith)) ∙ there

  as-configured : (unit : ℕ) (params : Params) (old new : DeviceState) → IsConfiguredWith plan unit params → slice_get before unit ≡ Some old → slice_get units unit ≡ Some new
      → (room : ℕ) × IsConfigured params room old new
  as-configured unit params old new (inl (s, planned, same)) was there = (
    station_count infos unit,
    subst (λ (p : Params). IsConfigured p (station_count infos unit) old new) same
        (ready.configured.configured unit s old new (slice_get_within plan.stations unit s planned) planned was (of-bench unit new there)),
  )
  as-configured unit params old new (inr (station, e, (event, planned, here, brings), same)) was there = (
    station_count infos event.station,
    ready.brought e event params old new planned brings (ap (slice_get before) (sym same) ∙ was) (ap (slice_get ready.devices) (sym same) ∙ of-bench unit new there),
  )

  may-come : AreUnits plan infos units
  may-come = record {
    long = units-long;
    may_come = λ e event device planned swap there.
        let params = swap-params event.kind swap in
        let old = event-there before (unit_of_swap plan e) (let many = ready.units in let within = unit-within plan e event planned swap in omega arith) in
        let known = ready.brought e event params.0 old.0 device planned params.1 old.1 (of-bench (unit_of_swap plan e) device there) in
        record { accepted = known.accepted; asked = known.asked; hung = known.hung; room = known.spare };
  }

  module _ (start : List SeatState) (same : SameDevices opened start) where
    -- the seat of a station as it was opened
    came : (j : ℕ) (c : SeatState) → slice_get start j ≡ Some c → (x : SeatState) × (slice_get opened j ≡ Some x)
        × ((slice_get units j ≡ Some x.origin) × (c.origin ≡ x.origin) × (x ≡ new_seat x.table (setup_of plan infos j) x.origin))
    came j c at = elim (slice_get_cases opened j).1 [
      | inl (x, inside, there, is) ↦ (elim (slice_get_cases tables j).1 [
        | inl (t, inside', at_t, is') ↦
            (let here = ready.opened.each j t x at_t there in let all = ready.all in
            (x, there, (get-taken (unit_count plan) ready.devices j (omega arith) ∙ here.device, (same.each j x c there at).0, here.view_is)))
        | inr (past, nothing) ↦ absurd (let long = ready.opened.long in omega arith)
      ])
      | inr (past, nothing) ↦ absurd (let inside = slice_get_within start j c at in let long = same.long in omega arith)
    ]

    stands : DevicesStand plan infos units 0 start spares
    stands = record {
      units_are = may-come;
      home = λ j c at. let here = came j c at in here.2.0 ∙ ap Some (sym here.2.1);
      taken = [];
      so_many = refl;
      spares_are =
          let first : unit_of_swap plan 0 ≡ length plan.stations = omega arith in
          ready.spares_are ∙ (sym (drop-take (length plan.stations) (count_by is_swap plan.events) ready.devices)
          ∙ (ap (λ k. drop k units) (sym first) ∙ sym (append-nil (drop (unit_of_swap plan 0) units))));
      each = λ e event below. absurd (omega arith);
    }

    -- the seats are over the devices of the bench
    pub are-over : (others : ℕ) → others + 1 ≡ plan.senders → (plan.senders ≡ 1 → start ≡ opened) → AreOver plan infos before others start spares
    are-over others all alone = record {
      bench = ready.units;
      units = units;
      configured = as-configured;
      stand = stands;
      alone = λ one. (
        omega arith,
        λ j c at. (let here = came j c at in let is : here.0 ≡ c = same_Some here.0 c (sym here.1 ∙ (sym (ap (λ cs. slice_get cs j) (alone one)) ∙ at)) in
            subst (λ (x : SeatState). x ≡ new_seat x.table (setup_of plan infos j) x.origin) is here.2.2),
      );
    }
