use Rattle.std.proofs.Common.{◌≡◌, ℕ, ◌+◌, get_or, map, sym, ap, ◌∙◌, subst, arith}
use Rattle.std.specs.Prelude.{slice_set}
use Rattle.std.proofs.lemmas.Option.{slice_get-get_or}
use Rattle.lq_model.specs.Plan.{owner_in}
use Rattle.lq_model.specs.declared.fate.Info.{Info}
use Rattle.lq_plan.specs.Openings.{opens_after}
use Rattle.lq_seat.specs.Calls.{SendsPacket}
use Rattle.lq_seat.specs.State.{IsHere, SeatState, TableState}
use Rattle.lq_senders.specs.Senders.{SenderStands}
use Rattle.lq_senders.specs.Runs.{opens_in}
use Rattle.lq_senders.specs.Woken.{count_sent}
use Rattle.lq_senders.proofs.Coming.{EventsDone, PacketSent, SeatOfPacket, all-before, none-done, seat-of-packet, sending-on, some-done}
use Rattle.lq_senders.proofs.OpenedTimes.{AreOpenedAfter, all-opened, not-opened}
use Rattle.lq_senders.proofs.Sending.{sending-past}
use Rattle.lq_senders.proofs.Sent.{owner-is}
use Rattle.lq_senders.proofs.course.come_to.Given as given
use Rattle.lq_senders.proofs.course.come_to.Goals as goal
use Rattle.lq_senders.proofs.course.come_to.Goals.{After-index_mut, then-has_events_before, else-has_events_before, then-times-gt0, else-times-gt0}

abbrev no_info : Info
no_info = record { owner = 0; station = 0; band = 0; queue = 0; rank = 0 }

pub returns-then-info-sender-clause-sending : goal.returns-then-info-sender-clause-sending
returns-then-info-sender-clause-sending g c start brought was =
    sending-past c.args.run.now.job.plan.now c.args.run.now.job.infos.now (opens_in c.args.run.now) c.args.run.now.tables.now c.args.sender.now.owner c.args.n c.args.at.sent c.args.at.next start brought c.args.sender.now.seats.items (map g.D.TxDevice.state c.args.sender.now.spares.items)
    (get_or c.args.run.now.job.infos.now c.args.n no_info) (slice_get-get_or c.args.run.now.job.infos.now c.args.n no_info c.requires.packet) c.if-info-sender.true was

pub pass_before-requires-clause-own : goal.pass_before-requires-clause-own
pass_before-requires-clause-own g c κs within =
    let kept : c.if-has_events_before.sender.owner ≡ c.args.sender.now.owner = elim c.if-has_events_before.branch [
      | then-has_events_before w ↦ ap (λ s. s.owner) w.sender-is ∙ w.events_before-next.ensures.owner
      | else-has_events_before w ↦ ap (λ s. s.owner) w.sender-is
    ] in
    owner-is c.args.run.now.job.infos.now c.args.n (get_or c.args.run.now.job.infos.now c.args.n no_info) (slice_get-get_or c.args.run.now.job.infos.now c.args.n no_info c.requires.packet) ∙ (c.if-info-sender.false ∙ sym kept)

pub pass_before-requires-clause-stands : goal.pass_before-requires-clause-stands
pass_before-requires-clause-stands g c κs within =
    let run = c.args.run.now in let at = c.args.at in let standing = c.requires.sending.2.stands in
    elim c.if-has_events_before.branch [
      | then-has_events_before w ↦
          (let zero_th = c.has_events_before.ensures.first w.if-has_events_before.true in let e = w.events_before-next.ensures in let seats = w.events_before-next.new.sender.seats.items in
          rw (w.sender-is, w.next-is) (subst (λ (s : ℕ). SenderStands run.job.plan.now run.job.infos.now s w.events_before-next.result c.args.n run.tables.now seats) (sym (e.owner ∙ zero_th))
          (e.stands c.args.n (subst (λ (s : ℕ). SenderStands run.job.plan.now run.job.infos.now s at.next c.args.n run.tables.now c.args.sender.now.seats.items) zero_th standing))))
      | else-has_events_before w ↦ rw (w.sender-is, w.next-is) standing
    ]

-- the events before the packet were done
events : (g : given.Over) (c : After-index_mut g)
    → EventsDone c.args.run.now.job.plan.now c.args.run.now.job.infos.now c.args.run.now.tables.now c.args.sender.now.owner c.args.at.next c.args.n c.if-has_events_before.next
    c.args.sender.now.seats.items (map g.D.TxDevice.state c.args.sender.now.spares.items) c.if-has_events_before.sender.seats.items (map g.D.TxDevice.state c.if-has_events_before.sender.spares.items)
events g c =
    let run = c.args.run.now in let was = c.requires.sending.2 in let states = map g.D.TxDevice.state in let old = c.args.sender.now in
    elim c.if-has_events_before.branch [
      | then-has_events_before w ↦
          (let e = w.events_before-next.ensures in let new = w.events_before-next.new.sender in
          rw (w.sender-is, w.next-is) (some-done run.job.plan.now run.job.infos.now run.tables.now old.owner c.args.at.next c.args.n w.events_before-next.result old.seats.items (states old.spares.items)
          new.seats.items (states new.spares.items) (c.has_events_before.ensures.first w.if-has_events_before.true) e.within.0 e.within.1 e.left
          (record { done = e.done; stands = e.stands; calls = e.calls; devices = e.devices; runs = e.runs }) was.stands))
      | else-has_events_before w ↦
          rw (w.sender-is, w.next-is) (none-done run.job.plan.now run.job.infos.now run.tables.now old.owner c.args.at.next c.args.n old.seats.items (states old.spares.items)
          was.within (c.has_events_before.ensures.left w.if-has_events_before.false) was.stands)
    ]

-- the sender's seat at the packet's station
seat : (g : given.Over) (c : After-index_mut g)
    → SeatOfPacket c.args.run.now.job.plan.now c.args.run.now.job.infos.now c.args.run.now.tables.now c.args.sender.now.owner c.if-has_events_before.next c.args.n c.if-has_events_before.sender.seats.items
    (get_or c.args.run.now.job.infos.now c.args.n no_info) c.index-run-station.result c.index_mut.result.now
seat g c =
    let run = c.args.run.now in
    seat-of-packet run.job.plan.now run.job.infos.now run.job.sendable run.tables.now c.args.sender.now.owner c.if-has_events_before.next c.args.n c.if-has_events_before.sender.seats.items (events g c).stands
    (get_or run.job.infos.now c.args.n no_info) (slice_get-get_or run.job.infos.now c.args.n no_info c.requires.packet) c.if-info-sender.false
    c.index-run-station.result c.index-run-station.is c.index_mut.result.now c.index_mut.ensures.value

pub send-requires-clause-here : goal.send-requires-clause-here
send-requires-clause-here g c κs within = subst (λ (t : TableState). IsHere t c.index_mut.result.now) c.index-run-station.is (seat g c).stands.seat

pub send-requires-clause-next : goal.send-requires-clause-next
send-requires-clause-next g c κs within = (seat g c).next

pub send-requires-clause-raised : goal.send-requires-clause-raised
send-requires-clause-raised g c κs within = (seat g c).stands.stands.raised

packet : (g : given.Over) (c : After-index_mut g) (c' : SeatState) → SendsPacket c.args.n c.index_mut.result.now c'
    → PacketSent c.args.run.now.job.plan.now c.args.run.now.job.infos.now c.args.run.now.tables.now c.args.sender.now.owner c.if-has_events_before.next c.args.n c.if-has_events_before.sender.seats.items
    (slice_set c.if-has_events_before.sender.seats.items (get_or c.args.run.now.job.infos.now c.args.n no_info).station c')
packet g c c' sends =
    let run = c.args.run.now in let states = map g.D.TxDevice.state in let old = c.args.sender.now in let new = c.if-has_events_before.sender in let done = events g c in
    (seat g c).sent c' (λ zero_th. (
      all-before run.job.plan.now run.job.infos.now run.tables.now old.owner c.args.at.next c.args.n c.if-has_events_before.next old.seats.items (states old.spares.items) new.seats.items (states new.spares.items) c.requires.sending.2.earlier done,
      done.left zero_th,
    )) sends

pub open_times-requires-clause-stands : goal.open_times-requires-clause-stands
open_times-requires-clause-stands g c κs within = (
  c.args.sender.now.owner,
  c.if-has_events_before.next,
  c.args.n + 1,
  (packet g (goal.at.open_times-requires-clause-stands g c).After-index_mut c.send.new.self c.send.ensures).stands,
)

pub returns-clause-owner : goal.returns-clause-owner
returns-clause-owner g c =
    let kept : c.if-has_events_before.sender.owner ≡ c.args.sender.now.owner = elim c.if-has_events_before.branch [
      | then-has_events_before w ↦ ap (λ s. s.owner) w.sender-is ∙ w.events_before-next.ensures.owner
      | else-has_events_before w ↦ ap (λ s. s.owner) w.sender-is
    ] in
    elim c.if-times-gt0.branch [
      | then-times-gt0 w ↦ ap (λ s. s.owner) w.sender-is ∙ kept
      | else-times-gt0 w ↦ ap (λ s. s.owner) w.sender-is ∙ kept
    ]

pub returns-clause-sending : goal.returns-clause-sending
returns-clause-sending g c start brought was =
    let run = c.args.run.now in let states = map g.D.TxDevice.state in let old = c.args.sender.now in let ready = c.if-has_events_before.sender in
    let at = (goal.at.returns-clause-sending g c).After-index_mut in
    let info : Info = get_or run.job.infos.now c.args.n no_info in let there = slice_get-get_or run.job.infos.now c.args.n no_info c.requires.packet in
    let sent = slice_set ready.seats.items info.station c.send.new.self in
    let own : owner_in run.job.infos.now c.args.n ≡ old.owner = owner-is run.job.infos.now c.args.n info there ∙ c.if-info-sender.false in
    let times : c.opened_after-times.result ≡ opens_in run c.args.n =
    c.opened_after-times.ensures ∙ ap (opens_after run.job.openings.now c.args.n) (c.requires.sending.2.sent ∙ ap (λ (s : ℕ). count_sent run.job.infos.now s c.args.n) (sym own)) in
    elim c.if-times-gt0.branch [
      | then-times-gt0 w ↦
          (let e = w.open_times.ensures in let new = w.open_times.new.seats.items in
          let opened : AreOpenedAfter run.job.plan.now run.job.infos.now run.tables.now c.opened_after-times.result sent new = record { leaves = record { stands = e.stands; keeps = e.keeps; runs = e.runs }; opened = e.opened } in
          rw w.sender-is (sending-on run.job.plan.now run.job.infos.now (opens_in run) run.tables.now old.owner c.args.n c.args.at.sent c.args.at.next c.if-has_events_before.next start brought old.seats.items (states old.spares.items)
          ready.seats.items (states ready.spares.items) sent new info there c.if-info-sender.false (events g at) (packet g at c.send.new.self c.send.ensures)
          (subst (λ (k : ℕ). AreOpenedAfter run.job.plan.now run.job.infos.now run.tables.now k sent new) times opened) was))
      | else-times-gt0 w ↦
          (let test = w.if-times-gt0.false in let none : 0 ≡ c.opened_after-times.result = omega arith in
          rw w.sender-is (sending-on run.job.plan.now run.job.infos.now (opens_in run) run.tables.now old.owner c.args.n c.args.at.sent c.args.at.next c.if-has_events_before.next start brought old.seats.items (states old.spares.items)
          ready.seats.items (states ready.spares.items) sent sent info there c.if-info-sender.false (events g at) (packet g at c.send.new.self c.send.ensures)
          (subst (λ (k : ℕ). AreOpenedAfter run.job.plan.now run.job.infos.now run.tables.now k sent sent) (none ∙ times)
          (all-opened run.job.plan.now run.job.infos.now run.tables.now 0 sent sent (not-opened run.job.plan.now run.job.infos.now run.tables.now sent))) was))
    ]
