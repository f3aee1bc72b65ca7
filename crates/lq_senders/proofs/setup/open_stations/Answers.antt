use Rattle.std.proofs.Common.{◌≡◌, ◌<◌, ◌≤◌, false, ◌+◌, ◌-◌, ◌++◌, ◌∷◌, [], length, refl, sym, ap, ◌∙◌, subst, arith, drop, drop-drop, map}
use Rattle.std.proofs.lemmas.Option.{none-some}
use Rattle.std.specs.Prelude.{slice_get}
use Rattle.lq_seat.specs.State.{station_count}
use Rattle.lq_senders.specs.Setup.{AreOpened, IsOpenedAt}
use Rattle.lq_senders.proofs.Benches.{first-left, so-where-ok}
use Rattle.lq_senders.proofs.Openings.{fresh-device, opened-here, opened-more, others-back, states-back, states-left}
use Rattle.lq_senders.proofs.Seats.{mapped-at}
use Rattle.lq_senders.proofs.setup.open_stations.Goals as goal

below : (g : _) (c : goal.After-remove-device g) → c.loop-station.station < length c.args.plan.now.stations
below g c = let test = c.loop-station-test.true in let e = c.stations-station-end.ensures.stations in omega arith

-- what the device of the bench was configured to be
fresh : (g : _) (c : goal.After-remove-device g) → (((g.D.TxDevice.state c.remove-device.result).accepted ≡ []) × ((g.D.TxDevice.state c.remove-device.result).asked ≡ []) × ((g.D.TxDevice.state c.remove-device.result).hung ≡ false))
    × (station_count c.args.infos.now c.loop-station.station ≤ (g.D.TxDevice.state c.remove-device.result).spare)
fresh g c =
    let own = c.loop-station.invariant in
    let some : 0 < length c.loop-station.bench.items = let test = c.loop-station-test.true in let e = c.stations-station-end.ensures.stations in let len = own.len in let ok = c.loop-station.bench.ok.0 in let units = c.requires.units in omega arith in
    fresh-device g.D.TxDevice.state c.args.plan.now c.args.infos.now c.requires.configured.0 c.loop-station.station c.args.bench.now.items c.loop-station.bench.items
    c.remove-device.result c.requires.configured.1 (below g c) own.rest some c.remove-device.ensures.value

pub open-requires-clause-made : goal.open-requires-clause-made
open-requires-clause-made g c κs within = record {
  few = c.requires.sendable.few;
  infos = c.requires.sendable.made c.loop-station.station (below g c);
  ranks = c.requires.sendable.ranks;
}

pub open-requires-clause-fresh : goal.open-requires-clause-fresh
open-requires-clause-fresh g c κs within = (fresh g c).0

pub open-requires-clause-room : goal.open-requires-clause-room
open-requires-clause-room g c κs within = (fresh g c).1

pub returns-in-Err-clause-states : goal.returns-in-Err-clause-states
returns-in-Err-clause-states g c =
    let own = c.loop-station.invariant in
    let state = g.D.TxDevice.state in
    let some : 0 < length c.loop-station.bench.items = let test = c.loop-station-test.true in let e = c.stations-station-end.ensures.stations in let len = own.len in let ok = c.loop-station.bench.ok.0 in let units = c.requires.units in omega arith in
    let room : c.remove-device.new.self.len < c.remove-device.new.self.cap = let less = c.remove-device.ensures.len in let ok = c.loop-station.bench.ok.1 in let cap = c.remove-device.ensures.capacity in let fill = c.loop-station.bench.ok.0 in omega arith in
    let back : c.insert-laid_back.new.self.items ≡ c.in-Err.device ∷ c.remove-device.new.self.items =
    so-where-ok c.insert-laid_back.result _ _ _ (c.insert-laid_back.ensures.succeeds room) c.insert-laid_back.ensures.items in
    ap (map state) back
    ∙ (states-back state c.args.bench.now.items c.loop-station.bench.items c.remove-device.new.self.items c.loop-station.station c.remove-device.result c.in-Err.device
    own.rest some c.remove-device.ensures.value c.remove-device.ensures.items c.in-Err.ensures.back
    ∙ ap (λ k. drop k (map state c.args.bench.now.items)) (sym own.so_many))

pub returns-in-Err-clause-others : goal.returns-in-Err-clause-others
returns-in-Err-clause-others g c =
    let own = c.loop-station.invariant in
    let n = length c.args.plan.now.stations in
    let below : c.loop-station.station < n = let test = c.loop-station-test.true in let e = c.stations-station-end.ensures.stations in omega arith in
    let room : c.remove-device.new.self.len < c.remove-device.new.self.cap = let less = c.remove-device.ensures.len in let ok = c.loop-station.bench.ok.1 in let cap = c.remove-device.ensures.capacity in let fill = c.loop-station.bench.ok.0 in omega arith in
    let back : c.insert-laid_back.new.self.items ≡ c.in-Err.device ∷ c.remove-device.new.self.items =
    so-where-ok c.insert-laid_back.result _ _ _ (c.insert-laid_back.ensures.succeeds room) c.insert-laid_back.ensures.items in
    ap (λ k. drop (n - k) c.insert-laid_back.new.self.items) own.so_many
    ∙ (ap (drop (n - c.loop-station.station)) back
    ∙ others-back c.args.bench.now.items c.loop-station.bench.items c.remove-device.new.self.items c.loop-station.station n c.in-Err.device own.rest c.remove-device.ensures.items below)

pub loop-station-preserved : goal.loop-station-preserved
loop-station-preserved g c =
    let state = g.D.TxDevice.state in
    let own = c.loop-station.invariant in
    let k = c.loop-station.station in
    let plan = c.args.plan.now in
    let infos = c.args.infos.now in
    let all = c.args.bench.now.items in
    let device = c.remove-device.result in
    let t = c.in-Ok.table in
    let cpu = c.in-Ok.cpu in
    let some : 0 < length c.loop-station.bench.items = let test = c.loop-station-test.true in let e = c.stations-station-end.ensures.stations in let len = own.len in let ok = c.loop-station.bench.ok.0 in let units = c.requires.units in omega arith in
    let there = mapped-at state all k device (first-left k all c.loop-station.bench.items device own.rest some c.remove-device.ensures.value) in
    let new : IsOpenedAt plan infos (map state all) k t cpu = opened-here plan infos (map state all) k (state device) t cpu there c.in-Ok.ensures.table c.in-Ok.ensures.seat in
    let so_many : length c.loop-station.stations.tables.items ≡ k = let ok = c.loop-station.stations.tables.ok.0 in let e = own.so_many in omega arith in
    record {
      rest = c.remove-device.ensures.items ∙ (ap (drop 1) own.rest ∙ drop-drop 1 k all);
      len = let len = own.len in let less = c.remove-device.ensures.len in omega arith;
      capacity = c.remove-device.ensures.capacity ∙ own.capacity;
      so_many = let e = own.so_many in let len = c.push_reserved.ensures.len in omega arith;
      seats = let e = own.seats in let len = c.push_reserved-in-Ok.ensures.len in omega arith;
      room = let room = own.room in let same = c.push_reserved.ensures.capacity in omega arith;
      seats_room = let room = own.seats_room in let same = c.push_reserved-in-Ok.ensures.capacity in omega arith;
      opened =
          subst (λ ts. AreOpened plan infos (map state all) ts c.push_reserved-in-Ok.new.self.items) (sym c.push_reserved.ensures.items)
          (subst (λ cs. AreOpened plan infos (map state all) (c.loop-station.stations.tables.items ++ t ∷ []) cs) (sym c.push_reserved-in-Ok.ensures.items)
          (opened-more plan infos (map state all) c.loop-station.stations.tables.items c.loop-station.stations.seats.items t cpu own.opened
          (subst (λ j. IsOpenedAt plan infos (map state all) j t cpu) (sym so_many) new)));
    }

pub returns-clause-states : goal.returns-clause-states
returns-clause-states g c =
    let own = c.loop-station.invariant in
    states-left g.D.TxDevice.state c.args.bench.now.items c.loop-station.bench.items c.loop-station.station own.rest
    ∙ ap (λ k. drop k (map g.D.TxDevice.state c.args.bench.now.items)) (sym own.so_many)

pub loop-station-init : goal.loop-station-init
loop-station-init g c =
    let none = ap length c.requires.none_yet.0 in let no_seat = ap length c.requires.none_yet.1 in
    let tables = c.args.stations.now.tables.ok.0 in let seats = c.args.stations.now.seats.ok.0 in
    record {
      rest = refl;
      len = omega arith;
      capacity = refl;
      so_many = omega arith;
      seats = omega arith;
      room = c.requires.room.0;
      seats_room = c.requires.room.1;
      opened = record {
        long = no_seat ∙ sym none;
        each = λ j t cpu at _. absurd (none-some t (sym (ap (λ ts. slice_get ts j) c.requires.none_yet.0) ∙ at));
      };
    }

pub push_reserved-requires : goal.push_reserved-requires
push_reserved-requires g c =
    let stations = c.stations-station-end.ensures.stations in let own = c.loop-station.invariant.so_many in
    let room = c.loop-station.invariant.room in let test = c.loop-station-test.true in omega arith

pub push_reserved-requires-in-Ok : goal.push_reserved-requires-in-Ok
push_reserved-requires-in-Ok g c =
    let stations = c.stations-station-end.ensures.stations in let own = c.loop-station.invariant.seats in
    let room = c.loop-station.invariant.seats_room in let test = c.loop-station-test.true in omega arith

pub returns-in-Err-clause-len : goal.returns-in-Err-clause-len
returns-in-Err-clause-len g c =
    let own = c.loop-station.invariant.len in let so_many = c.loop-station.invariant.so_many in
    let less = c.remove-device.ensures.len in let ok = c.loop-station.bench.ok.1 in let cap = c.remove-device.ensures.capacity in
    let room : c.remove-device.new.self.len < c.remove-device.new.self.cap = omega arith in
    let back : c.insert-laid_back.new.self.len ≡ c.remove-device.new.self.len + 1 =
    so-where-ok c.insert-laid_back.result _ _ _ (c.insert-laid_back.ensures.succeeds room) c.insert-laid_back.ensures.len in omega arith

pub returns-in-Err-clause-capacity : goal.returns-in-Err-clause-capacity
returns-in-Err-clause-capacity g c =
    let less = c.remove-device.ensures.len in let ok = c.loop-station.bench.ok.1 in let cap = c.remove-device.ensures.capacity in
    (c.insert-laid_back.ensures.in_place (omega arith)).1.0 ∙ (cap ∙ c.loop-station.invariant.capacity)

-- the loop ends with all stations
all : (g : _) (c : goal.After-loop-station g) → c.loop-station.stations.tables.len ≡ length c.args.plan.now.stations
all g c =
    let so_many = c.loop-station.invariant.so_many in let test = c.loop-station-test.false in
    let stop = c.loop-station.auto.station-end in let stations = c.stations-station-end.ensures.stations in omega arith

pub returns-clause-all : goal.returns-clause-all
returns-clause-all g c = all g c

pub returns-clause-few : goal.returns-clause-few
returns-clause-few g c = let same = all g c in omega arith

pub returns-clause-others : goal.returns-clause-others
returns-clause-others g c =
    let n = length c.args.plan.now.stations in
    let none : n - c.loop-station.stations.tables.len ≡ 0 = let same = all g c in omega arith in
    ap (λ k. drop k c.loop-station.bench.items) none ∙ (c.loop-station.invariant.rest ∙ ap (λ k. drop k c.args.bench.now.items) (sym c.loop-station.invariant.so_many ∙ all g c))
