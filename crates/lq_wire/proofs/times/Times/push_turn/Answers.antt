use Rattle.std.proofs.Common.{refl, sym, subst, arith}
use Rattle.lq_model.specs.declared.plan.Card.{Card}
use Rattle.lq_model.specs.declared.plan.StationPlan.{StationPlan}
use Rattle.lq_card_laws.specs.Laws.{FitsCard}
use Rattle.lq_wire.specs.Page.{page_text}
use Rattle.lq_wire.specs.Times.{HasGone, IsBeforePacket}
use Rattle.lq_wire.proofs.Flights.{gone-on, turn-written}
use Rattle.lq_wire.proofs.times.Times.push_turn.Goals as goal
use Rattle.lq_wire.proofs.times.Times.push_turn.Given as given

-- the next packet's turn, before its packets are told
gone : (g : given.Over) (c : goal.After-tell_all g) (station : StationPlan) → FitsCard c.args.plan.now c.args.infos.now station
    → IsBeforePacket c.args.self.now c.args.card c.args.plan.now (g.F.Frames.packets c.args.frames.now) c.args.infos.now station c.args.n
    → HasGone c.go_on.new.self c.args.card c.args.plan.now (g.F.Frames.packets c.args.frames.now) c.args.infos.now station c.args.n
gone g c station fits at =
    let plan = c.args.plan.now in let packets = g.F.Frames.packets c.args.frames.now in let infos = c.args.infos.now in let n = c.args.n in
    subst (λ (k : Card). HasGone c.go_on.new.self k plan packets infos station n) at.of_card
    (c.in_ok-go_on.ensures station fits (subst (λ (k : Card). IsBeforePacket c.args.self.now k plan packets infos station n) (sym at.of_card) at))

pub returns-clause-at : goal.returns-clause-at
returns-clause-at g c station fits at =
    let told = c.tell_all.ensures in
    gone-on c.args.card c.args.plan.now (g.F.Frames.packets c.args.frames.now) c.args.infos.now station c.args.n c.go_on.new.self
    (record { wired = c.tell_all.new.self; time = c.go_on.new.self.time; stamps = c.push_lines.new.stamps }) (gone g c station fits at) (λ w h. told.told w (record { station = h.station; wire = record { ring = h.wire.ring; free = h.wire.free; flights = h.wire.flights } })) refl told.load told.bypass told.card

pub returns-clause-tells : goal.returns-clause-tells
returns-clause-tells g c station fits at =
    let count = c.requires.count in let there = c.requires.there in
    turn-written c.args.card c.args.plan.now (g.F.Frames.packets c.args.frames.now) c.args.infos.now station fits.one.stations c.args.n c.go_on.new.self c.deref.result.now (page_text c.args.text.now) (page_text c.push_lines.new.text)
    (omega arith) (gone g c station fits at) c.deref.ensures.value c.in_ok-push_lines.ensures
