use Rattle.std.proofs.Common.{◌≡◌, ◌<◌, true, false, sym, ap, ◌∙◌, subst}
use Rattle.std.specs.Prelude.{◌*◌, slice_index}
use Rattle.lq_account_laws.specs.Trail.{down_of}
use Rattle.lq_control.specs.Control.{IsIn}
use Rattle.lq_model.specs.Plan.{owner_in, rank_in}
use Rattle.lq_seat.proofs.Steps.{down-came, drained-none, made-is, sent-drained, units-came}
use Rattle.lq_seat.proofs.seat.Seat.send.Goals as goal
use Rattle.lq_seat.proofs.seat.Seat.send.Goals.{After-transmit-sending}
use Rattle.lq_seat.specs.Calls.{Drains, MaySendNext, SendsPacket}
use Rattle.lq_seat.specs.Rests.{AreUnitsSmall, IsSeatBetween, phase_by}
use Rattle.lq_seat.specs.State.{IsWellMade, SeatState, seat_seen, units_of}
use Rattle.lq_table.specs.Sees.{view}
use Rattle.lq_table.specs.Views.{Setup}

-- after the transmit the seat is between two calls
between : (g : _) (c : After-transmit-sending g) → IsSeatBetween c.transmit-sending.new.cpu
between g c =
    let sh = c.table.inside.shared in let cpu = c.self.inside.cpu in let old = view cpu in let mid = view c.transmit-sending.new.cpu in let kept = c.transmit-sending.ensures.kept in let was = c.self.invariant in
    let made = made-is sh cpu c.args.table.now c.args.self.now c.table.view_is c.self.view_is c.requires.here in
    let next = subst (MaySendNext c.args.n) (sym c.self.view_is) c.requires.next in
    let sent = c.transmit-sending.ensures.in_turn (subst (λ (k : Setup). slice_index old.turns (owner_in k.infos c.args.n) ≡ 2 * rank_in k.infos c.args.n) made next.turn) in
    let first : mid.control.first ≡ true → old.control.first ≡ true = λ first. sym (ap (λ x. x.first) kept.control) ∙ first in record {
      live = subst (λ s. 0 < s.shares) (sym kept.share) was.live;
      at = c.transmit-sending.ensures.at;
      ready = c.transmit-sending.ensures.ready;
      phase = λ now. let before = was.phase (first now) in let down = ap down_of sent.trail ∙ down-came sh.infos.now c.args.n c.transmit-sending.result old in
          subst (λ d. IsIn d mid) (sym (ap phase_by down)) (ap (λ x. x.phase) kept.control ∙ before.0, ap (λ x. x.purge) kept.control ∙ before.1);
      units = λ now. subst (λ (k : Setup). AreUnitsSmall k.station (units_of mid.trail)) (sym (ap (λ s. s.about) kept.share))
          (subst (AreUnitsSmall old.share.about.station) (sym (ap units_of sent.trail ∙ units-came sh.infos.now c.args.n c.transmit-sending.result old)) (was.units (first now)));
      made = subst IsWellMade (sym (ap (λ s. s.about) kept.share)) was.made;
    }

-- the packet was sent, once soft interrupts were done
sends : (g : _) (c : After-transmit-sending g) (s : SeatState) → Drains (seat_seen c.transmit-sending.new.cpu) s → SendsPacket c.args.n c.args.self.now s
sends g c s drains =
    let sh = c.table.inside.shared in let cpu = c.self.inside.cpu in let old = view cpu in
    let made = made-is sh cpu c.args.table.now c.args.self.now c.table.view_is c.self.view_is c.requires.here in
    let next = subst (MaySendNext c.args.n) (sym c.self.view_is) c.requires.next in
    let turn = subst (λ (k : Setup). slice_index old.turns (owner_in k.infos c.args.n) ≡ 2 * rank_in k.infos c.args.n) made next.turn in
    let sent = c.transmit-sending.ensures.in_turn turn in
    subst (λ (s' : SeatState). SendsPacket c.args.n s' s) c.self.view_is
    (sent-drained sh cpu c.transmit-sending.new.cpu made c.args.n c.transmit-sending.result s c.transmit-sending.ensures.kept sent sent.turns sent.trail sent.came
    (c.transmit-sending.ensures.first turn) (c.transmit-sending.ensures.alone turn (ap (λ (s : SeatState). s.raised) c.self.view_is ∙ c.requires.raised)) drains)

pub invariant_of-self : goal.invariant_of-self
invariant_of-self g c = between g (goal.at.invariant_of-self g c).After-transmit-sending

pub returns-then-raised : goal.returns-then-raised
returns-then-raised g c = sends g (goal.at.returns-then-raised g c).After-transmit-sending c.drain.new.self c.drain.ensures

pub invariant_of-self-else-raised : goal.invariant_of-self-else-raised
invariant_of-self-else-raised g c = between g (goal.at.invariant_of-self-else-raised g c).After-transmit-sending

pub returns-else-raised : goal.returns-else-raised
returns-else-raised g c =
    let sh = c.table.inside.shared in let mid = c.transmit-sending.new.cpu in
    let made = ap (λ s. s.about) c.transmit-sending.ensures.kept.share
    ∙ made-is sh c.self.inside.cpu c.args.table.now c.args.self.now c.table.view_is c.self.view_is c.requires.here in
    sends g (goal.at.returns-else-raised g c).After-transmit-sending (seat_seen mid) (drained-none sh mid made (sym c.raised.ensures ∙ c.if-raised.false))
