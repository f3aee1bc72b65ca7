use Rattle.std.proofs.Common.{◌≡◌, ◌-◌, length, sym, ap, ◌∙◌, arith, drop, map}
use Rattle.lq_senders.proofs.Openings.{boxes-again, rest-again, whole-opened}
use Rattle.lq_senders.proofs.setup.open_all.Goals as goal

pub open_stations-requires-clause-sendable : goal.open_stations-requires-clause-sendable
open_stations-requires-clause-sendable g c κs within = c.requires.sendable

pub open_stations-requires-clause-units : goal.open_stations-requires-clause-units
open_stations-requires-clause-units g c κs within = c.requires.units

pub open_stations-requires-clause-configured : goal.open_stations-requires-clause-configured
open_stations-requires-clause-configured g c κs within = c.requires.configured

pub open_stations-requires-clause-none_yet : goal.open_stations-requires-clause-none_yet
open_stations-requires-clause-none_yet g c κs within = c.requires.none_yet

pub open_stations-requires-clause-room : goal.open_stations-requires-clause-room
open_stations-requires-clause-room g c κs within = c.requires.room

pub give_all_back-requires-clause-whole : goal.give_all_back-requires-clause-whole
give_all_back-requires-clause-whole g c κs within =
    whole-opened c.args.plan.now c.args.infos.now (map g.D.TxDevice.state c.args.bench.now.items) c.open_stations.new.stations.tables.items c.open_stations.new.stations.seats.items c.open_stations.ensures.opened

pub give_all_back-requires-clause-room : goal.give_all_back-requires-clause-room
give_all_back-requires-clause-room g c κs within =
    let len = c.open_stations.ensures.len in let same = c.open_stations.ensures.capacity in let ok = c.args.bench.now.ok.1 in omega arith

pub returns-in-Ok-clause-less : goal.returns-in-Ok-clause-less
returns-in-Ok-clause-less g c = let all = c.in-Ok.ensures.all in let len = c.open_stations.ensures.len in omega arith

pub returns-in-Err-clause-len : goal.returns-in-Err-clause-len
returns-in-Err-clause-len g c = let less = c.open_stations.ensures.len in let back = c.give_all_back.ensures.len in omega arith

pub returns-in-Ok-clause-rest : goal.returns-in-Ok-clause-rest
returns-in-Ok-clause-rest g c =
    let none : length c.args.plan.now.stations - c.open_stations.new.stations.tables.len ≡ 0 = let all = c.in-Ok.ensures.all in omega arith in
    sym (ap (λ k. drop k c.open_stations.new.bench.items) none) ∙ c.in-Ok.ensures.others

pub returns-in-Err-clause-others : goal.returns-in-Err-clause-others
returns-in-Err-clause-others g c =
    rest-again c.open_stations.new.stations.tables.len (length c.args.plan.now.stations) c.args.bench.now.items c.open_stations.new.bench.items c.give_all_back.new.bench.items
    c.open_stations.ensures.few c.give_all_back.ensures.rest c.open_stations.ensures.others

pub returns-in-Err-clause-boxes : goal.returns-in-Err-clause-boxes
returns-in-Err-clause-boxes g c =
    boxes-again g.D.TxDevice.state c.args.plan.now c.args.infos.now c.args.bench.now.items c.open_stations.new.bench.items c.give_all_back.new.bench.items
    c.open_stations.new.stations.tables.items c.open_stations.new.stations.seats.items c.open_stations.ensures.opened
    (c.open_stations.ensures.states ∙ ap (λ k. drop k (map g.D.TxDevice.state c.args.bench.now.items)) c.open_stations.new.stations.tables.ok.0) c.give_all_back.ensures.boxes
