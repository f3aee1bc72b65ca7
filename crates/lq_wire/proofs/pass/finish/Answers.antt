use Rattle.std.proofs.Common.{ℕ, None, length, subst, ◌∙◌}
use Rattle.lq_model.specs.Alone.{events_after}
use Rattle.lq_model.specs.Wire.{OpenedSoFar, all_interrupted, come, made_at, moment, opened_at, wired_with, with_changes}
use Rattle.lq_model.specs.declared.plan.Card.{Card}
use Rattle.lq_wire.specs.Wire.{due_by}
use Rattle.lq_wire.specs.Wired.{HasOpened, StepsTo}
use Rattle.lq_wire.proofs.Turns.{moment-is}
use Rattle.lq_wire.proofs.pass.finish.Goals as goal

pub returns-clause-finished : goal.returns-clause-finished
returns-clause-finished g c station w fits wired =
    let card = c.args.wired.now.wire.card in let plan = c.args.plan.now in let packets = g.F.Frames.packets c.args.frames.now in let infos = c.args.infos.now in let n = c.args.n in
    let now = c.moment-now.result in let at = moment card packets n in
    let now-is = moment-is card plan packets infos station n now c.args.time c.moment-now.ensures.moment c.requires.time in
    let came = c.in_ok-come.ensures.came station w fits now-is wired in
    let first : OpenedSoFar = record { times = 0; wired = wired_with card plan packets infos n w } in
    -- the queue is opened at its moment
    let opens = c.in_ok-open_while_room.ensures in
    let opened = subst (λ (t : ℕ). HasOpened (opened_at card packets infos t first) first c.in_ok-open_while_room.field-0 c.open_while_room.new.self) now-is
    (subst (λ (k : Card). HasOpened (opened_at k packets infos now first) first c.in_ok-open_while_room.field-0 c.open_while_room.new.self) c.in_ok-come.ensures.card (opens.opens infos first fits.first_queue came)) in
    -- the events that are left come
    let changes = with_changes plan infos (events_after plan packets.count) in let here = (come card plan packets infos n w).wired in
    let to-here = opens.card ∙ c.in_ok-come.ensures.card in
    let left = subst (λ (k : ℕ). StepsTo card packets at (with_changes plan infos (events_after plan k)) here c.change_after.new.self) c.requires.count
    (subst (λ (t : ℕ). StepsTo card packets t (with_changes plan infos (events_after plan (length infos))) here c.change_after.new.self) now-is
    (subst (λ (k : Card). StepsTo k packets now (with_changes plan infos (events_after plan (length infos))) here c.change_after.new.self) to-here
    (c.in_ok-change_after.ensures.changes infos here fits.first_queue opened.wired))) in
    -- and then all interrupts
    let start : OpenedSoFar = record { times = 0; wired = made_at card packets at changes here } in
    (subst (λ (k : Card). HasOpened (all_interrupted k packets infos (due_by None) start) start c.in_ok-on_until.field-0 c.on_until.new.self) (c.in_ok-change_after.ensures.card ∙ to-here)
    (c.in_ok-on_until.ensures.opens infos start fits.first_queue left.wired)).wired
