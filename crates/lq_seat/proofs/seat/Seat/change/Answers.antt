use Rattle.std.proofs.Common.{ap, sym, subst}
use Rattle.lq_model.specs.declared.plan.EventKind.TheVariants as kind
use Rattle.lq_control.specs.Control.{IsKeptByControl, KeepsDevice}
use Rattle.lq_control.specs.Steps.{ChangeTxQueueLen, DevActivate, DevDeactivate, ResizeLive}
use Rattle.lq_qdisc.proofs.ListLemmas.{leads}
use Rattle.lq_table.specs.Sees.{setup, view}
use Rattle.lq_table.specs.Views.{View}
use Rattle.lq_seat.proofs.Steps.{changed-by, made-is}
use Rattle.lq_seat.proofs.seat.Seat.change.Goals as goal
use Rattle.lq_seat.specs.Calls.{Changes}
use Rattle.lq_seat.specs.State.{SeatState, seat_seen}

pub returns-in-Down-clause-changes : goal.returns-in-Down-clause-changes
returns-in-Down-clause-changes g c plan =
    let sh = c.table.inside.shared in let cpu = c.self.inside.cpu in let now = c.down-purged.new.cpu in let e = c.down-purged.ensures in
    let made = made-is sh cpu c.args.table.now c.args.self.now c.table.view_is c.self.view_is c.requires.here in
    subst (λ (s : SeatState). Changes plan c.args.event c.args.kind s (seat_seen now)) c.self.view_is (subst (λ k. Changes plan c.args.event k (seat_seen cpu) (seat_seen now)) (sym c.in-Down.is)
    (changed-by sh cpu now made plan c.args.event kind.Down e.same.0 e.same.1 e.same.2 e.trail (e.alone plan) (c.down-purged.result, leads (DevDeactivate (setup sh) c.args.event c.down-purged.result) cpu now e.makes)))

pub returns-in-Up-clause-changes : goal.returns-in-Up-clause-changes
returns-in-Up-clause-changes g c plan =
    let sh = c.table.inside.shared in let cpu = c.self.inside.cpu in let now = c.up.new.cpu in let e = c.up.ensures in
    let made = made-is sh cpu c.args.table.now c.args.self.now c.table.view_is c.self.view_is c.requires.here in
    let kept : IsKeptByControl (view cpu) (view now) = record {
      share = ap (λ (v : View). v.share) e.opened;
      turns = ap (λ (v : View). v.turns) e.opened;
      first = ap (λ (v : View). v.control.first) e.opened;
      told = ap (λ (v : View). v.whole.told) e.opened;
    } in
    let device : KeepsDevice (view cpu) (view now) = record { origin = ap (λ (v : View). v.control.origin) e.opened; gone = ap (λ (v : View). v.control.gone) e.opened } in
    subst (λ (s : SeatState). Changes plan c.args.event c.args.kind s (seat_seen now)) c.self.view_is (subst (λ k. Changes plan c.args.event k (seat_seen cpu) (seat_seen now)) (sym c.in-Up.is)
    (changed-by sh cpu now made plan c.args.event kind.Up e.same.0 kept device (ap (λ (v : View). v.trail) e.opened) (e.alone c.args.event plan) (leads DevActivate cpu now e.makes)))

pub returns-in-Resize-clause-changes : goal.returns-in-Resize-clause-changes
returns-in-Resize-clause-changes g c plan =
    let sh = c.table.inside.shared in let cpu = c.self.inside.cpu in let now = c.resize-shrunk.new.cpu in let e = c.resize-shrunk.ensures in
    let made = made-is sh cpu c.args.table.now c.args.self.now c.table.view_is c.self.view_is c.requires.here in
    subst (λ (s : SeatState). Changes plan c.args.event c.args.kind s (seat_seen now)) c.self.view_is (subst (λ k. Changes plan c.args.event k (seat_seen cpu) (seat_seen now)) (sym c.in-Resize.is)
    (changed-by sh cpu now made plan c.args.event (kind.Resize c.in-Resize.len) e.same.0 e.same.1 e.same.2 e.trail (e.alone.1 plan) (c.resize-shrunk.result, leads (ResizeLive c.args.event c.in-Resize.len c.resize-shrunk.result) cpu now e.makes)))

pub returns-in-TxQueueLen-clause-changes : goal.returns-in-TxQueueLen-clause-changes
returns-in-TxQueueLen-clause-changes g c plan =
    let sh = c.table.inside.shared in let cpu = c.self.inside.cpu in let now = c.tx_queue_len-purged.new.cpu in let e = c.tx_queue_len-purged.ensures in
    let made = made-is sh cpu c.args.table.now c.args.self.now c.table.view_is c.self.view_is c.requires.here in
    subst (λ (s : SeatState). Changes plan c.args.event c.args.kind s (seat_seen now)) c.self.view_is (subst (λ k. Changes plan c.args.event k (seat_seen cpu) (seat_seen now)) (sym c.in-TxQueueLen.is)
    (changed-by sh cpu now made plan c.args.event (kind.TxQueueLen c.in-TxQueueLen.len) e.same.0 e.same.1 e.same.2 e.trail (e.alone plan) (c.tx_queue_len-purged.result, leads (ChangeTxQueueLen (setup sh) c.args.event c.in-TxQueueLen.len c.tx_queue_len-purged.result) cpu now e.makes)))
