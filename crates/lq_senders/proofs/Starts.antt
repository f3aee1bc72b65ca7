-- Seats over devices that tell, of which nothing was split off: the stations that the run of one sender begins with.
use Rattle.std.proofs.Common.{◌≡◌, ℕ, zero, suc, ◌+◌, ◌<◌, ◌≤◌, true, List, [], ◌∷◌, inl, inr, length, Option, Some, None, refl, sym, ap, ◌∙◌, subst, slice_get, arith}
use Rattle.std.specs.Prelude.{IsSome, replicate, slice_index}
use Rattle.std.specs.Option.{option_map, option_map_or}
use Rattle.std.proofs.lemmas.List.{length-replicate}
use Rattle.std.proofs.lemmas.Option.{same_Some, slice_get_within}
use Rattle.atomic_table.specs.Seated.{TableId}
use Rattle.lq_account_laws.specs.Progress.{len_of, start_of}
use Rattle.lq_model.specs.Alone.{new_device, new_station, new_stations}
use Rattle.lq_model.specs.Account.{new_account}
use Rattle.lq_model.specs.Device.{DeviceState, IsConfigured, Telling}
use Rattle.lq_model.proofs.Reach.{at-own-swap}
use Rattle.lq_model.specs.Plan.{Plan, is_swap_kind, queue_in, queues_at, station_in, unit_count, unit_of_swap}
use Rattle.lq_model.specs.Settled.{IsConfiguredWith}
use Rattle.lq_model.specs.declared.device.Params.{Params}
use Rattle.lq_model.specs.declared.fate.Info.{Info}
use Rattle.lq_model.specs.declared.plan.StationPlan.{StationPlan}
use Rattle.lq_plan.specs.Limits.{IsWithinLimits}
use Rattle.lq_plan.specs.Packets.{IsInfoWithin}
use Rattle.lq_qdisc.specs.Alone.{IsAlone, running, telling_of}
use Rattle.lq_seat.specs.State.{SeatState, new_seat, setup_of, solo_of}
use Rattle.lq_senders.specs.Ends.{AreOver}
use Rattle.lq_senders.specs.Fates.{AllTell}
use Rattle.lq_senders.specs.Senders.{IsSendable, AreRunAlone}
use Rattle.lq_senders.specs.Units.{DoTell}
use Rattle.lq_senders.proofs.Seats.{all-at}
use Rattle.lq_senders.proofs.Turns.{event-there, some-there}
use Rattle.lq_senders.proofs.Sent.{station-is}
use Rattle.lq_senders.proofs.Units.{unit-within}

-- PACKETS

pub of-plan : (plan : Plan) (infos : List Info) → IsSendable plan infos → (n : ℕ) → n < length infos → station_in infos n < length plan.stations
of-plan plan infos sendable n inside = let i = event-there infos n inside in
    subst (λ k. k < length plan.stations) (sym (station-is infos n i.0 i.1)) (all-at (IsInfoWithin plan) infos n i.0 sendable.within i.1).station

pub own-queue : (plan : Plan) (infos : List Info) → IsSendable plan infos → (n : ℕ) → n < length infos → queue_in infos n < queues_at plan.stations (station_in infos n)
own-queue plan infos sendable n inside = (sendable.made (station_in infos n) (of-plan plan infos sendable n inside)).queues_are n inside refl

-- DEVICES

pub configured-tells : (params : Params) (room : ℕ) (old new : DeviceState) → IsConfigured params room old new → IsSome old.told → new.told ≡ Some (new_device params)
configured-tells params room old new configured tells = by-told old.told refl
  where
    by-told : (o : Option Telling) → old.told ≡ o → new.told ≡ Some (new_device params)
    by-told None is = absurd (let some = subst (λ (o : Option Telling). IsSome o) is tells in cc)
    by-told (Some t) is = configured.told ∙ ap (option_map (λ _. new_device params)) is

-- STATIONS

new-at : (k : ℕ) (ss : List StationPlan) (j : ℕ) (s : StationPlan) → slice_get ss j ≡ Some s → slice_get (new_stations k ss) j ≡ Some (new_station (k + j) s)
new-at k [] j s there = absurd cc
new-at k (x ∷ ss) zero s there = let same : x ≡ s = same_Some x s there in ap (λ z. Some (new_station k z)) same ∙ ap (λ i. Some (new_station i s)) (omega arith)
new-at k (x ∷ ss) (suc j) s there = new-at (k + 1) ss j s there ∙ ap (λ i. Some (new_station i s)) (omega arith)

queues-of : (plan : Plan) (j : ℕ) (s : StationPlan) → slice_get plan.stations j ≡ Some s → queues_at plan.stations j ≡ s.queues
queues-of plan j s there = ap (λ (o : Option StationPlan). option_map_or (λ x. x.queues) o 1) there

-- each queue of a new station is open
all-open : (queues queue : ℕ) → slice_index (replicate queues 0) queue ≤ 1
all-open zero queue = omega arith
all-open (suc queues) zero = omega arith
all-open (suc queues) (suc queue) = all-open queues queue

-- what is known of a seat that has just been made, where the device tells its rule
module _ (plan : Plan) (infos : List Info) (j : ℕ) (s : StationPlan) (there : slice_get plan.stations j ≡ Some s) (some : 0 < s.queues) (table : TableId) (device : DeviceState) (told : device.told ≡ Some (new_device s.params)) where
  starting-alone : IsAlone infos (start_of plan j) (solo_of (new_seat table (setup_of plan infos j) device))
  starting-alone = record {
    sender = record {
      sole = (refl, refl);
      tells = subst (λ (o : Option Telling). IsSome o) (sym told) refl;
      station = record {
        queues = subst (λ (count : ℕ). 0 < count) (sym (length-replicate (queues_at plan.stations j) 0 ∙ queues-of plan j s there)) some;
        known = inl (all-open (queues_at plan.stations j));
        hand = refl;
        busies = subst (λ (o : Option Telling). (telling_of o).busies ≤ (telling_of o).params.busy_limit) (sym told) (omega arith);
      };
    };
    rests = record {
      unlocked = refl;
      scheduled = refl;
      missed = λ is. absurd cc;
      empty = λ is. refl;
      waits = λ is set. absurd cc;
      shut = λ is clean. absurd cc;
      off = λ is. refl;
    };
  }

  starting-runs : slice_get (new_stations 0 plan.stations) j ≡ Some (running (start_of plan j) (solo_of (new_seat table (setup_of plan infos j) device)))
  starting-runs =
      let len : len_of plan j ≡ s.len = ap (λ (o : Option StationPlan). option_map_or (λ x. x.len) o 0) there in
      let number : 0 + j ≡ j = omega arith in
      new-at 0 plan.stations j s there
      ∙ (ap (λ (i : ℕ). Some (new_station i s)) number
      ∙ (ap (λ (l : ℕ). Some (record { account = new_account l j s.queues; clean = true; device = new_device s.params })) (sym len)
      ∙ (ap (λ (q : ℕ). Some (record { account = new_account (len_of plan j) j q; clean = true; device = new_device s.params })) (sym (queues-of plan j s there))
      ∙ ap (λ (o : Option Telling). Some (record { account = start_of plan j; clean = true; device = telling_of o })) (sym told))))

module _ (plan : Plan) (infos : List Info) (before : List DeviceState) (others : ℕ) (start : List SeatState) (brought : List DeviceState) (over : AreOver plan infos before others start brought) where
  -- the device of a unit as it came tells what the plan configures it with
  pub unit-tells : AllTell (unit_count plan) before → (unit : ℕ) (params : Params) (device : DeviceState) → unit < unit_count plan → IsConfiguredWith plan unit params → slice_get over.units unit ≡ Some device
      → device.told ≡ Some (new_device params)
  unit-tells tell unit params device below configured came =
      let old = event-there before unit (let bench = over.bench in omega arith) in
      let is = over.configured unit params old.0 device configured old.1 came in
      configured-tells params is.0 old.0 device is.1 (tell unit old.0 below old.1)

  pub units-tell : AllTell (unit_count plan) before → DoTell plan over.units
  units-tell tell e event params device there brings came =
      unit-tells tell (unit_of_swap plan e) params device (unit-within plan e event there (ap is_swap_kind brings)) (inr (event.station, e, (event, there, at-own-swap event (ap is_swap_kind brings), brings), refl)) came

  -- the device that came to a station is the one that stood there, configured
  origin-tells : AllTell (unit_count plan) before → (j : ℕ) (s : StationPlan) (c : SeatState) → slice_get plan.stations j ≡ Some s → slice_get start j ≡ Some c → c.origin.told ≡ Some (new_device s.params)
  origin-tells tell j s c there at = unit-tells tell j s.params c.origin (let below = slice_get_within plan.stations j s there in omega arith) (inl (s, there, refl)) (over.stand.home j c at)

  pub starts-run : length start ≡ length plan.stations → IsWithinLimits plan → AllTell (unit_count plan) before → plan.senders ≡ 1 → AreRunAlone plan infos start (new_stations 0 plan.stations)
  starts-run same limits tell one j c at =
      let s = some-there plan.stations start j c (sym same) at in
      let is = (over.alone one).1 j c at in let told = origin-tells tell j s.0 c s.1 at in let some = (limits.each_station j s.0 s.1).has_queue in
      subst (λ (v : SeatState). IsAlone infos (start_of plan j) (solo_of v) × (slice_get (new_stations 0 plan.stations) j ≡ Some (running (start_of plan j) (solo_of v)))) (sym is)
      (starting-alone plan infos j s.0 s.1 some c.table c.origin told, starting-runs plan infos j s.0 s.1 some c.table c.origin told)
