use Rattle.std.proofs.Common.{◌+◌, Some, subst, arith}
use Rattle.lq_model.specs.Wire.{OpenedSoFar, after_wired, all_interrupted, first_wired, opened_at, wired_with}
use Rattle.lq_model.specs.declared.plan.Card.{Card}
use Rattle.lq_wire.specs.Wire.{due_by}
use Rattle.lq_wire.specs.Wired.{HasOpened, none_told}
use Rattle.lq_wire.proofs.OnOk.{if-ok}
use Rattle.lq_wire.proofs.Turns.{moment-is, turned-last, turned-on}
use Rattle.lq_wire.proofs.pass.turn.Goals as goal

pub returns-then-n-infos-clause-turned : goal.returns-then-n-infos-clause-turned
returns-then-n-infos-clause-turned g c station fits wired =
    let count = c.requires.count in let last = c.if-n-infos.true in
    turned-last c.args.wired.now.wire.card c.args.plan.now (g.F.Frames.packets c.args.frames.now) c.args.infos.now station c.args.n c.come.new.wired (omega arith)

pub returns-clause-turned : goal.returns-clause-turned
returns-clause-turned g c = if-ok c.open_until.result c.open_until.ensures.opens (λ times opens station fits wired.
    let card = c.args.wired.now.wire.card in let plan = c.args.plan.now in let packets = g.F.Frames.packets c.args.frames.now in let infos = c.args.infos.now in let n = c.args.n in
    let now = c.moment-now.result in let until = c.moment.result in let count = c.requires.count in let more = c.if-n-infos.false in let there = c.requires.there in
    let w = none_told (after_wired card plan packets infos (first_wired station) n) in
    let now-is = moment-is card plan packets infos station n now c.args.time.now c.moment-now.ensures.moment c.requires.time in
    let came = c.in_ok-come.ensures.came station w fits now-is wired in
    let start : OpenedSoFar = record { times = 0; wired = wired_with card plan packets infos n w } in
    let has = opens infos start fits.first_queue came in
    turned-on card plan packets infos station fits.one.stations n now until times c.open_until.new.self (omega arith) now-is
    (moment-is card plan packets infos station (n + 1) until c.time.result c.moment.ensures.moment c.time.ensures)
    (subst (λ (k : Card). HasOpened (all_interrupted k packets infos (due_by (Some until)) (opened_at k packets infos now start)) start times c.open_until.new.self) c.in_ok-come.ensures.card has))
