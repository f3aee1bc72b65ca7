use Rattle.std.proofs.Common.{refl, ◌∙◌, map}
use Rattle.lq_model.specs.Plan.{unit_count}
use Rattle.lq_senders.specs.Told.{fates_told}
use Rattle.lq_senders.specs.Woken.{opens_by}
use Rattle.lq_table.specs.Ended.{ended_state}
use Rattle.lq_senders.proofs.Openings.{boxes-whole}
use Rattle.lq_senders.proofs.send.send_all.Goals as goal

pub make_ready-requires-clause-sendable : goal.make_ready-requires-clause-sendable
make_ready-requires-clause-sendable g c κs within = c.runs_may_be_sent.ensures c.args.plan.now c.args.infos.now c.requires.run

pub invariant_of-job : goal.invariant_of-job
invariant_of-job g c = record {
  sendable = c.runs_may_be_sent.ensures c.args.plan.now c.args.infos.now c.requires.run;
  known = c.requires.known;
}

pub returns-clause-fates : goal.returns-clause-fates
returns-clause-fates g c opens are =
    let plan = c.args.plan.now in let infos = c.args.infos.now in let before = map g.D.TxDevice.state c.args.bench.now.items in
    c.same_openings_make_same_fates.ensures plan infos (opens_by c.args.openings.now infos) opens (fates_told infos (map ended_state c.send_ready.result.items)) before
    (map g.D.TxDevice.state c.send_ready.new.bench.items) are (c.send_ready.ensures.fates before c.in_ok-units.ensures.ready)

pub returns-clause-others : goal.returns-clause-others
returns-clause-others g c = c.send_ready.ensures.rest ∙ c.in_ok-units.ensures.rest

pub returns-clause-boxes : goal.returns-clause-boxes
returns-clause-boxes g c =
    boxes-whole g.D.TxDevice.state (unit_count c.args.plan.now) c.args.bench.now.items c.args.bench.now.items c.make_ready.new.bench.items c.send_ready.new.bench.items
    c.in_ok-units.ensures.rest refl
    (c.send_ready.ensures.boxes (map g.D.TxDevice.state c.args.bench.now.items) c.in_ok-units.ensures.ready)

pub make_ready-requires-clause-devices : goal.make_ready-requires-clause-devices
make_ready-requires-clause-devices g c κs within = c.requires.units

pub make_ready-requires-clause-room : goal.make_ready-requires-clause-room
make_ready-requires-clause-room g c κs within = c.in_ok-empty.ensures

pub returns-in_err-units-clause-others : goal.returns-in_err-units-clause-others
returns-in_err-units-clause-others g c = c.in_err-units.ensures.others

pub returns-in_err-units-clause-len : goal.returns-in_err-units-clause-len
returns-in_err-units-clause-len g c = c.in_err-units.ensures.len

pub returns-in_err-units-clause-boxes : goal.returns-in_err-units-clause-boxes
returns-in_err-units-clause-boxes g c = c.in_err-units.ensures.boxes

pub send_ready-requires-clause-ready : goal.send_ready-requires-clause-ready
send_ready-requires-clause-ready g c κs within = (map g.D.TxDevice.state c.args.bench.now.items, c.in_ok-units.ensures.ready)

pub send_ready-requires-clause-room : goal.send_ready-requires-clause-room
send_ready-requires-clause-room g c κs within = c.in_ok-room.ensures

pub send_ready-requires-clause-bench_room : goal.send_ready-requires-clause-bench_room
send_ready-requires-clause-bench_room g c κs within = c.in_ok-units.ensures.back_room

pub returns-clause-ended : goal.returns-clause-ended
returns-clause-ended g c = c.send_ready.ensures.ended

pub returns-clause-len : goal.returns-clause-len
returns-clause-len g c = c.send_ready.ensures.len ∙ c.in_ok-units.ensures.less
