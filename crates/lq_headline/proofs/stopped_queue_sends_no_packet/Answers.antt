use Rattle.std.proofs.Common.{ℕ, List, get_or, length, sym, ap, ◌∙◌}
use Rattle.std.specs.Prelude.{slice_index}
use Rattle.std.proofs.lemmas.Bool.{eqb-true}
use Rattle.lq_model.specs.Machine.{idle_seat}
use Rattle.lq_model.specs.declared.machine.Seat.{Seat}
use Rattle.lq_run_laws.proofs.Among.{among-at}
use Rattle.lq_table.proofs.Middle.{middle}
use Rattle.lq_headline.proofs.stopped_queue_sends_no_packet.Goals as goal

pub returns : goal.returns
returns c = λ k s rule id v at live p direct xmit.
    let x = c.words_stand_for_machine.ensures k s rule in
    let m = middle s.views id v at live in
    let is-open = x.invariant.device_open (length m.before) p direct
    (ap (λ (seats : List Seat). (get_or seats (length m.before) idle_seat).position) m.was
    ∙ (ap (λ (t : Seat). t.position) (among-at m.before m.after v.place) ∙ xmit)) in
    ap (λ (xoff : List ℕ). slice_index xoff p.queue) (sym x.words.xoff) ∙ eqb-true (slice_index x.qdisc.xoff p.queue) 0 is-open
