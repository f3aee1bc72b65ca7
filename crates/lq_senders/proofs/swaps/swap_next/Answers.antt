use Rattle.std.proofs.Common.{◌≡◌, ℕ, suc, ◌+◌, ◌≤◌, [], ◌∷◌, ◌++◌, map, refl, sym, ap, ◌∙◌, subst, arith}
use Rattle.std.specs.Prelude.{slice_set}
use Rattle.lq_model.proofs.Reach.{at-own-swap}
use Rattle.lq_model.specs.Alone.{changed, served}
use Rattle.lq_model.specs.declared.device.Params.{Params}
use Rattle.lq_model.specs.declared.plan.EventKind.{EventKind}
use Rattle.lq_seat.specs.Calls.{DoesAlone, DoesSwap, MayDoEvent}
use Rattle.lq_seat.specs.State.{HasServed, IsHere, SeatState, Setup, TableState, latest_unit, setup_of, station_count, units_of}
use Rattle.lq_senders.specs.Senders.{StandsAt}
use Rattle.lq_senders.specs.Units.{DevicesStand, MayBeBrought}
use Rattle.lq_senders.proofs.Calls.{called-set, swap-call}
use Rattle.lq_senders.proofs.Orders.{may-do-next}
use Rattle.lq_senders.proofs.Seats.{swap-changes, sender-event, made-of, runs-event, seat-at, stands-at, table-at}
use Rattle.lq_senders.proofs.Devices.{devices-swapped, first-comes, some-spare, spares-turned}
use Rattle.lq_senders.proofs.Units.{swap-params, unit-on-trail, unit-within, units-few}
use Rattle.lq_senders.proofs.swaps.swap_next.Goals as goal

pub remove-device-requires : goal.remove-device-requires
remove-device-requires g c =
    let event = c.event-station.result in let at = c.event-station.ensures.event in let ok = c.args.sender.now.spares.ok.0 in
    let some = some-spare c.args.run.now.job.plan.now c.args.run.now.job.infos.now c.requires.devices.0 g.D.TxDevice.state c.args.e event c.args.sender.now.seats.items c.args.sender.now.spares.items at (c.requires.swap event at) c.requires.devices.1 in
    omega arith

there : (g : _) (c : goal.After-index_mut g)
    → StandsAt c.args.run.now.job.plan.now c.args.run.now.job.infos.now 0 c.args.e c.requires.stands.0 c.event-station.result.station c.index-run-station.result c.index_mut.result.now
there g c = stands-at c.args.run.now.job.plan.now c.args.run.now.job.infos.now 0 c.args.e c.requires.stands.0 c.args.run.now.tables.now c.args.sender.now.seats.items c.requires.stands.1 c.event-station.result.station
    c.index-run-station.result c.index_mut.result.now c.event-station.ensures.within.station c.index-run-station.is c.index_mut.ensures.value

-- what its table was made of
made : (g : _) (c : goal.After-index_mut g) → c.index_mut.result.now.made ≡ setup_of c.args.run.now.job.plan.now c.args.run.now.job.infos.now c.event-station.result.station
made g c = made-of c.args.run.now.job.plan.now c.args.run.now.job.infos.now c.event-station.result.station c.index-run-station.result (there g c).table c.index_mut.result.now (there g c).seat

pub swap-old-requires-clause-here : goal.swap-old-requires-clause-here
swap-old-requires-clause-here g c κs within = subst (λ (t : TableState). IsHere t c.index_mut.result.now) c.index-run-station.is (there g c).seat

pub swap-old-requires-clause-may : goal.swap-old-requires-clause-may
swap-old-requires-clause-may g c κs within =
    let event = c.event-station.result in let at = c.event-station.ensures.event in let swap = swap-params event.kind (c.requires.swap event at) in
    let way = ((there g c).stands.way refl).1 in let unit = c.brought_unit-unit.ensures in let limits = c.stays_within_limits.ensures in
    let few = units-few c.args.run.now.job.plan.now in let below = unit-within c.args.run.now.job.plan.now c.args.e event at (c.requires.swap event at) in
    let stations = limits.stations in let events = limits.events in let own = c.event-station.ensures.within.station in
    let number = ap (λ (k : Setup). k.station) (made g c) in
    let units = c.requires.devices.0 in let stand = c.requires.devices.1 in let device = g.D.TxDevice.state c.remove-device.result in
    let fresh : MayBeBrought c.args.run.now.job.infos.now event.station device =
    stand.units_are.may_come c.args.e event device at (c.requires.swap event at)
    (first-comes c.args.run.now.job.plan.now c.args.run.now.job.infos.now units g.D.TxDevice.state c.args.e event c.args.sender.now.seats.items c.args.sender.now.spares.items c.remove-device.result at (c.requires.swap event at) c.remove-device.ensures.value stand) in
    record {
      first = ((there g c).stands.way refl).0;
      active = subst (λ (k : EventKind). MayDoEvent k c.index_mut.result.now.trail) swap.1
          (may-do-next c.args.run.now.job.plan.now event.station c.args.e event c.index_mut.result.now.trail limits.order at (omega arith) (at-own-swap event (c.requires.swap event at)) way.down);
      small = omega arith;
      later = record { first = (omega arith); later = λ u h. let lower = way.swaps_below u (unit-on-trail c.index_mut.result.now.trail u h) in omega arith };
      fresh = (fresh.accepted, fresh.asked, fresh.hung);
      room = subst (λ (k : Setup). station_count k.infos k.station ≤ device.spare) (sym (made g c)) fresh.room;
    }

-- what the swap did
did : (g : _) (c : goal.After-push_reserved g) (params : Params)
    → DoesSwap c.args.run.now.job.plan.now c.args.e params (g.D.TxDevice.state c.remove-device.result) (g.D.TxDevice.state c.swap-old.result) c.index_mut.result.now c.swap-old.new.self
did g c params = c.swap-old.ensures c.args.run.now.job.plan.now params (sym c.brought_unit-unit.ensures)

pub returns-clause-stands : goal.returns-clause-stands
returns-clause-stands g c n standing =
    let event = c.event-station.result in let station = event.station in let within = c.event-station.ensures.within.station in let at = c.event-station.ensures.event in
    let swap = swap-params event.kind (c.requires.swap event at) in
    sender-event c.args.run.now.job.plan.now c.args.run.now.job.infos.now c.args.e n c.args.run.now.tables.now c.args.sender.now.seats.items event c.index-run-station.result c.index_mut.result.now c.swap-old.new.self
    at (c.requires.swap event at) (let few = c.stays_within_limits.ensures.stations in omega arith) c.stays_within_limits.ensures.order
    (table-at c.args.run.now.job.plan.now c.args.run.now.job.infos.now 0 c.args.e n c.args.run.now.tables.now c.args.sender.now.seats.items standing station c.index-run-station.result within c.index-run-station.is)
    (seat-at c.args.run.now.job.plan.now c.args.run.now.job.infos.now 0 c.args.e n c.args.run.now.tables.now c.args.sender.now.seats.items standing station c.index_mut.result.now within c.index_mut.ensures.value)
    (swap-changes c.args.run.now.job.plan.now c.args.e event.kind swap.0 (g.D.TxDevice.state c.remove-device.result) (g.D.TxDevice.state c.swap-old.result) c.index_mut.result.now c.swap-old.new.self swap.1 (did g c swap.0))
    standing

pub returns-clause-calls : goal.returns-clause-calls
returns-clause-calls g c =
    let event = c.event-station.result in let station = event.station in let within = c.event-station.ensures.within.station in let at = c.event-station.ensures.event in
    let swap = swap-params event.kind (c.requires.swap event at) in
    called-set c.args.sender.now.seats.items station c.index_mut.result.now c.swap-old.new.self
    (seat-at c.args.run.now.job.plan.now c.args.run.now.job.infos.now 0 c.args.e c.requires.stands.0 c.args.run.now.tables.now c.args.sender.now.seats.items c.requires.stands.1 station c.index_mut.result.now within c.index_mut.ensures.value)
    (swap-call c.args.run.now.job.plan.now c.args.e swap.0 (g.D.TxDevice.state c.remove-device.result) (g.D.TxDevice.state c.swap-old.result) c.index_mut.result.now c.swap-old.new.self (did g c swap.0))

pub returns-clause-devices : goal.returns-clause-devices
returns-clause-devices g c units stand =
    let event = c.event-station.result in let station = event.station in let within = c.event-station.ensures.within.station in let at = c.event-station.ensures.event in
    let swap = swap-params event.kind (c.requires.swap event at) in let does = did g c swap.0 in let state = g.D.TxDevice.state in
    let old = c.index_mut.result.now in let went = state c.swap-old.result in
    let stands = stands-at c.args.run.now.job.plan.now c.args.run.now.job.infos.now 0 c.args.e c.requires.stands.0 c.args.run.now.tables.now c.args.sender.now.seats.items c.requires.stands.1 station
    c.index-run-station.result c.index_mut.result.now within c.index-run-station.is c.index_mut.ensures.value in
    let made = made-of c.args.run.now.job.plan.now c.args.run.now.job.infos.now station c.index-run-station.result stands.table old stands.seat in let number = ap (λ (k : Setup). k.station) made in
    let unit = ap (λ (s : ℕ). latest_unit s (units_of old.trail)) number ∙ (stands.stands.way refl).1.unit in
    let more : c.args.e + 1 ≡ suc c.args.e = omega arith in
    subst (λ (k : ℕ). DevicesStand c.args.run.now.job.plan.now c.args.run.now.job.infos.now units k (slice_set c.args.sender.now.seats.items station c.swap-old.new.self) (map state c.push_reserved.new.self.items)) (sym more)
    (subst (λ l. DevicesStand c.args.run.now.job.plan.now c.args.run.now.job.infos.now units (suc c.args.e) (slice_set c.args.sender.now.seats.items station c.swap-old.new.self) l)
    (sym (ap (map state) (c.push_reserved.ensures.items ∙ ap (λ l. l ++ c.swap-old.result ∷ []) c.remove-device.ensures.by_index.2) ∙ spares-turned state c.args.sender.now.spares.items c.swap-old.result))
    (devices-swapped c.args.run.now.job.plan.now c.args.run.now.job.infos.now units c.args.e event c.args.sender.now.seats.items (map state c.args.sender.now.spares.items) c.index_mut.result.now c.swap-old.new.self (state c.remove-device.result) went
    at (c.requires.swap event at)
    (seat-at c.args.run.now.job.plan.now c.args.run.now.job.infos.now 0 c.args.e c.requires.stands.0 c.args.run.now.tables.now c.args.sender.now.seats.items c.requires.stands.1 station c.index_mut.result.now within c.index_mut.ensures.value)
    (first-comes c.args.run.now.job.plan.now c.args.run.now.job.infos.now units g.D.TxDevice.state c.args.e event c.args.sender.now.seats.items c.args.sender.now.spares.items c.remove-device.result at (c.requires.swap event at) c.remove-device.ensures.value stand) (ap (λ (s : SeatState). s.origin) does.is)
    (subst (λ (k : Setup). HasServed k.infos k.station old.origin went) made does.has_served)
    (ap (λ (s : SeatState). s.gone) does.is ∙ ap (λ (u : ℕ). (u, went.accepted) ∷ old.gone) unit)
    stand))

pub returns-clause-runs : goal.returns-clause-runs
returns-clause-runs g c units stand tell stations runs =
    let event = c.event-station.result in let station = event.station in let within = c.event-station.ensures.within.station in let at = c.event-station.ensures.event in let standing = c.requires.stands.1 in
    let swap = swap-params event.kind (c.requires.swap event at) in let t = c.index-run-station.result in
    runs-event c.args.run.now.job.plan.now c.args.run.now.job.infos.now c.args.e c.requires.stands.0 c.args.run.now.tables.now c.args.sender.now.seats.items stations event t c.index_mut.result.now c.swap-old.new.self
    at (c.requires.swap event at)
    (table-at c.args.run.now.job.plan.now c.args.run.now.job.infos.now 0 c.args.e c.requires.stands.0 c.args.run.now.tables.now c.args.sender.now.seats.items standing station t within c.index-run-station.is)
    (seat-at c.args.run.now.job.plan.now c.args.run.now.job.infos.now 0 c.args.e c.requires.stands.0 c.args.run.now.tables.now c.args.sender.now.seats.items standing station c.index_mut.result.now within c.index_mut.ensures.value)
    (subst (λ (k : EventKind). DoesAlone (λ s. served c.index_mut.result.now.made.infos (changed c.args.run.now.job.plan.now c.args.e k s)) c.index_mut.result.now c.swap-old.new.self) (sym swap.1)
    ((did g c swap.0).alone (tell c.args.e event swap.0 (g.D.TxDevice.state c.remove-device.result) at swap.1 (first-comes c.args.run.now.job.plan.now c.args.run.now.job.infos.now units g.D.TxDevice.state c.args.e event c.args.sender.now.seats.items c.args.sender.now.spares.items c.remove-device.result at (c.requires.swap event at) c.remove-device.ensures.value stand))))
    standing runs
