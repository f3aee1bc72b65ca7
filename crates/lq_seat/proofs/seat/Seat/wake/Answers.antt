use Rattle.std.proofs.Common.{subst}
use Rattle.lq_qdisc.proofs.ListLemmas.{leads}
use Rattle.lq_qdisc.specs.StepLists.{WakeEach}
use Rattle.lq_seat.proofs.Steps.{between-kept, made-is, woken-by}
use Rattle.lq_table.specs.Sees.{setup}
use Rattle.lq_seat.proofs.seat.Seat.wake.Goals as goal
use Rattle.lq_seat.specs.Calls.{WakesQueues}
use Rattle.lq_seat.specs.State.{SeatState, seat_seen}

pub invariant_of-self : goal.invariant_of-self
invariant_of-self g c =
    let e = c.irq.ensures in
    between-kept c.self.inside.cpu c.irq.new.cpu e.at e.ready e.kept.share e.kept.control e.still.trail c.self.invariant

pub returns : goal.returns
returns g c =
    let sh = c.table.inside.shared in let cpu = c.self.inside.cpu in let now = c.irq.new.cpu in let e = c.irq.ensures in
    let made = made-is sh cpu c.args.table.now c.args.self.now c.table.view_is c.self.view_is c.requires.here in
    subst (λ (s : SeatState). WakesQueues c.irq.result s (seat_seen now)) c.self.view_is (woken-by sh cpu now made c.irq.result e.kept e.still (leads (λ _. WakeEach (setup sh).queues c.irq.result) cpu now e.makes) e.alone)
