use Rattle.std.proofs.Common.{◌≡◌, refl, sym, ap, ◌∙◌, subst, slice_index, length}
use Rattle.std.proofs.lemmas.Option.{same_Some}
use Rattle.lq_model.specs.Account.{Account}
use Rattle.lq_model.specs.Device.{DeviceState}
use Rattle.lq_model.specs.Words.{IsWordOf}
use Rattle.lq_seat.proofs.Closing.{fate-word, hung-on-trail}
use Rattle.lq_seat.proofs.Steps.{made-is}
use Rattle.lq_seat.proofs.table.Table.close.Goals as goal
use Rattle.lq_seat.specs.Ends.{IsClosedAs, IsSoundAtClose}
use Rattle.lq_seat.specs.Rests.{AreUnitsSmall}
use Rattle.lq_seat.specs.State.{HasServed, SeatState, seat_account, first_account, seat_seen, units_of}
use Rattle.lq_table.specs.Closes.{HaveSent}
use Rattle.lq_table.specs.Rule.{account, holders, shown, words_of}
use Rattle.lq_table.specs.Sees.{view, setup, closed_fates, closed_home, closed_words}
use Rattle.lq_table.specs.Views.{Setup}

pub returns-clause-closed : goal.returns-clause-closed
returns-clause-closed g c =
    let sh = c.self.inside.shared in let cpu = c.seat.inside.cpu in let v = view cpu in let closes = c.close.ensures in
    let made = made-is sh cpu c.args.self c.args.seat c.self.view_is c.seat.view_is c.requires.here in
    let first = ap (λ (s : SeatState). s.first) c.seat.view_is ∙ c.requires.may.first in
    let shares = ap (λ (s : SeatState). s.shares) c.seat.view_is ∙ c.requires.may.sole.0 in let told = ap (λ (s : SeatState). s.told) c.seat.view_is ∙ c.requires.may.sole.1 in
    let e = closes.sole shares told in let words = words_of (setup sh) (closed_words c.close.result) in
    let known : seat_account (seat_seen cpu) ≡ account (setup sh) v.whole.state = ap (λ (k : Setup). account k v.whole.state) made in
    let units = subst (λ (k : Setup). AreUnitsSmall k.station (units_of v.trail)) made (c.seat.invariant.units first) in
    subst (λ (s : SeatState). IsClosedAs s c.close.result.ended.number c.close.result.ended.packets (closed_fates c.close.result) (closed_home c.close.result)) c.seat.view_is (record {
      number_is = closes.kept.0 ∙ sym (ap (λ (k : Setup). k.station) made);
      packets_are = closes.kept.2 ∙ sym (ap (λ (k : Setup). length k.infos) made);
      fates = λ n f below station is. subst (λ ws. IsWordOf f (slice_index ws n)) (sym closes.kept.3)
          (fate-word (setup sh) words.fates v.whole.state.left v.whole.state.past v.trail e.fates closes.settled.1 (e.none_left first (c.seat.invariant.phase first).1) (e.trail_is first) units n f (sym (ap (λ a. a.fates n) known) ∙ is));
      at_home = (shown (holders v.whole.state (account (setup sh) v.whole.state) words.size), same_Some _ _ e.home, refl, sym e.sends.unit ∙ sym (ap (λ a. a.unit) known));
    })

pub returns-clause-sound : goal.returns-clause-sound
returns-clause-sound g c =
    let sh = c.self.inside.shared in let cpu = c.seat.inside.cpu in let v = view cpu in let closes = c.close.ensures in
    let made = made-is sh cpu c.args.self c.args.seat c.self.view_is c.seat.view_is c.requires.here in
    let first = ap (λ (s : SeatState). s.first) c.seat.view_is ∙ c.requires.may.first in
    let shares = ap (λ (s : SeatState). s.shares) c.seat.view_is ∙ c.requires.may.sole.0 in let told = ap (λ (s : SeatState). s.told) c.seat.view_is ∙ c.requires.may.sole.1 in
    let e = closes.sole shares told in let device = v.whole.state.station.device in
    let known : seat_account (seat_seen cpu) ≡ account (setup sh) v.whole.state = ap (λ (k : Setup). account k v.whole.state) made in
    subst (λ (s : SeatState). IsSoundAtClose s.made.infos s.made.station (first_account s.made) s) c.seat.view_is
    (subst (λ (k : Setup). IsSoundAtClose k.infos k.station (first_account k) (seat_seen cpu)) (sym made) (record {
      orderly = e.orderly;
      trail = sym (e.trail_is first);
      sent = subst (λ (a : Account). a.sent a.unit ≡ device.accepted) (sym known) e.sends.sent;
      device = subst (λ (origin : DeviceState). HasServed sh.infos.now sh.station origin device) (sym (e.origin_is first)) e.device.served;
      gone = subst (λ (a : Account). HaveSent a v.control.gone) (sym known) (closes.gone shares told);
      hung = λ only n unit is. only unit (hung-on-trail (setup sh) v.whole.state.past v.trail (e.trail_is first) n unit (sym (ap (λ a. a.fates n) known) ∙ is));
    }))
