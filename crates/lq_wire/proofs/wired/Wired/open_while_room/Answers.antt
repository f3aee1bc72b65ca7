use Rattle.std.proofs.Common.{◌≡◌, ◌+◌, ◌&&◌, Bool, cond, length, sym, ap, subst, ◌∙◌, arith}
use Rattle.lq_model.specs.Account.{held}
use Rattle.lq_model.specs.Wire.{ring_has_room, is_shut, opened_at}
use Rattle.lq_model.specs.declared.plan.Card.{Card}
use Rattle.lq_lone.specs.Lone.{lone_state}
use Rattle.lq_wire.specs.Wired.{HasOpened, stop_count}
use Rattle.lq_wire.proofs.Openings.{opens-none, opens-once, opens-rest, opens-stop}
use Rattle.lq_wire.proofs.Waits.{held-waits}
use Rattle.lq_wire.proofs.wired.Wired.open_while_room.Goals as goal

-- not opened at all
pub returns-then-not-may_open-clause-opens : goal.returns-then-not-may_open-clause-opens
returns-then-not-may_open-clause-opens g c infos o queues wired =
    opens-none c.args.self.now.wire.card (g.F.Frames.packets c.args.frames.now) infos c.args.now o c.args.self.now wired (sym (c.may_open.ensures.opens o.wired wired) ∙ c.if-not-may_open.true)

-- opened once
pub returns-then-not-may_open-2-clause-opens : goal.returns-then-not-may_open-2-clause-opens
returns-then-not-may_open-2-clause-opens g c infos o queues wired =
    let card = c.args.self.now.wire.card in let packets = g.F.Frames.packets c.args.frames.now in let left = length (held o.wired.station.account) in
    let on = opens-once card packets infos c.args.now o c.args.self.now c.open.new.self wired (sym (c.may_open.ensures.opens o.wired wired) ∙ c.if-not-may_open.false) (c.in_ok-open.ensures.opens infos o.wired queues wired) in
    opens-stop card packets infos c.args.now left 1 (opened_at card packets infos c.args.now o) o c.open.new.self on
    (ap (λ (k : Card). is_shut on.here.wired.station && ring_has_room k on.here.wired.ring) (sym c.in_ok-open.ensures.card) ∙ (sym (c.may_open-2.ensures.opens on.here.wired on.opened.wired) ∙ c.if-not-may_open-2.true))

-- and more than once
pub returns-clause-opens : goal.returns-clause-opens
returns-clause-opens g c infos o queues wired =
    let card = c.args.self.now.wire.card in let packets = g.F.Frames.packets c.args.frames.now in let left = length (held o.wired.station.account) in
    let on = opens-once card packets infos c.args.now o c.args.self.now c.open.new.self wired (sym (c.may_open.ensures.opens o.wired wired) ∙ c.if-not-may_open.false) (c.in_ok-open.ensures.opens infos o.wired queues wired) in
    let stopped : stop_count c.open.new.self ≡ 1 = ap (λ (b : Bool). cond b 1 0) (c.may_open-2.ensures.stopped c.if-not-may_open-2.false) in
    let before = held-waits (lone_state c.args.self.now.station) o.wired.station wired.station in let after = held-waits (lone_state c.open.new.self.station) on.here.wired.station on.opened.wired.station in
    let count = c.in_ok-open.ensures.count in
    let same : left ≡ length (held on.here.wired.station.account) + 1 = omega arith in
    opens-rest card packets infos c.args.now left (length (held on.here.wired.station.account) + 1) 1 c.in_ok-more.more (opened_at card packets infos c.args.now o) o c.open.new.self c.open_more.new.self on same
    (subst (λ (k : Card). HasOpened (opened_at k packets infos c.args.now on.here) on.here c.in_ok-more.more c.open_more.new.self) c.in_ok-open.ensures.card (c.in_ok-more.ensures.opens infos on.here queues on.opened.wired))
