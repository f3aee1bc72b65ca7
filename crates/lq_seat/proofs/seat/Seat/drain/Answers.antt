use Rattle.std.proofs.Common.{◌∙◌, ap, sym, subst}
use Rattle.lq_control.specs.Steps.{Drain}
use Rattle.lq_qdisc.proofs.ListLemmas.{leads}
use Rattle.lq_table.specs.Sees.{setup}
use Rattle.lq_table.specs.Views.{View}
use Rattle.lq_seat.proofs.Steps.{between-kept, drained-by, drained-none, made-is}
use Rattle.lq_seat.proofs.seat.Seat.drain.Goals as goal
use Rattle.lq_seat.specs.Calls.{Drains}
use Rattle.lq_seat.specs.State.{SeatState, seat_seen}

pub returns-then-raised : goal.returns-then-raised
returns-then-raised g c =
    let sh = c.table.inside.shared in let cpu = c.self.inside.cpu in let now = c.drain.new.cpu in let d = c.drain.ensures in
    let made = made-is sh cpu c.args.table.now c.args.self.now c.table.view_is c.self.view_is c.requires.here in
    subst (λ (s : SeatState). Drains s (seat_seen now)) c.self.view_is (drained-by sh cpu now made d.same d.served (ap (λ (v : View). v.place.raised) d.makes.2.knows ∙ d.makes.1.1) d.alone (leads (Drain (setup sh)) cpu now d.makes))

pub invariant_of-self : goal.invariant_of-self
invariant_of-self g c =
    let e = c.drain.ensures in let s = e.served in
    between-kept c.self.inside.cpu c.drain.new.cpu e.at.0 e.at.1 s.kept.share s.control s.trail c.self.invariant

pub returns-else-raised : goal.returns-else-raised
returns-else-raised g c =
    let sh = c.table.inside.shared in let cpu = c.self.inside.cpu in
    let made = made-is sh cpu c.args.table.now c.args.self.now c.table.view_is c.self.view_is c.requires.here in
    subst (λ (s : SeatState). Drains s s) c.self.view_is (drained-none sh cpu made (sym c.raised.ensures ∙ c.if-raised.false))
