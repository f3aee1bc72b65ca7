use Rattle.std.proofs.Common.{◌≡◌, ◌<◌, refl, ⊎_elim, sym, ap, ◌∙◌, subst, arith}
use Rattle.lq_account_laws.specs.Trail.{down_of}
use Rattle.lq_control.proofs.EndLaws.{finish_comes}
use Rattle.lq_control.specs.EndSteps.{EndStation}
use Rattle.lq_qdisc.proofs.ListLemmas.{leads}
use Rattle.lq_control.specs.Finish.{AreAllDone, AreTurnsFrom, IsFinished, count_all, count_below}
use Rattle.lq_model.specs.Alone.{finished}
use Rattle.lq_qdisc.specs.Alone.{IsAlone, running}
use Rattle.lq_seat.proofs.Steps.{call-made, ends-keeps, ends-trail, made-is}
use Rattle.lq_seat.proofs.seat.Seat.finish.Goals as goal
use Rattle.lq_seat.specs.Ends.{Finishes, MayFinish}
use Rattle.lq_seat.specs.Rests.{AreUnitsSmall, phase_by}
use Rattle.lq_seat.specs.State.{IsWellMade, SeatState, seat_seen, units_of}
use Rattle.lq_seat.specs.Steps.{EndsStation}
use Rattle.lq_table.specs.Sees.{known, view, setup, solo}
use Rattle.lq_table.specs.Views.{Setup, first_account}

pub finish-purged-requires-clause-turns : goal.finish-purged-requires-clause-turns
finish-purged-requires-clause-turns g c κs within =
    let sh = c.table.inside.shared in let cpu = c.self.inside.cpu in
    let made = made-is sh cpu c.args.table.now c.args.self.now c.table.view_is c.self.view_is c.requires.here in
    let may = subst MayFinish (sym c.self.view_is) c.requires.may in
    subst (λ (k : Setup). AreTurnsFrom k 0 (view cpu).turns) made (record {
      long = may.wide;
      words = λ o below. let k = (view cpu).share.about in let none : count_below k.infos o k.station 0 ≡ 0 = refl in
          (count_all k.infos o k.station, may.done o below, omega arith, omega arith);
    })

pub invariant_of-self : goal.invariant_of-self
invariant_of-self g c =
    let sh = c.table.inside.shared in let cpu = c.self.inside.cpu in let now = c.finish-purged.new.cpu in let e = c.finish-purged.ensures in let control = e.kept.control in
    let made = made-is sh cpu c.args.table.now c.args.self.now c.table.view_is c.self.view_is c.requires.here in
    let may = subst MayFinish (sym c.self.view_is) c.requires.may in
    let done = subst (λ (k : Setup). AreAllDone k (view cpu).turns) made may.done in
    let comes = finish_comes (setup sh) c.finish-purged.result (known cpu) (known now) (leads (EndStation (setup sh) c.finish-purged.result) cpu now e.makes) in let trail = ends-trail (setup sh) c.finish-purged.result cpu now done comes in
    let down : down_of (view now).trail ≡ down_of (view cpu).trail = ends-keeps down_of (λ unit trail. refl) (seat_seen cpu) (seat_seen now) trail in
    let units : units_of (view now).trail ≡ units_of (view cpu).trail = ends-keeps units_of (λ unit trail. refl) (seat_seen cpu) (seat_seen now) trail in
    record {
      live = subst (λ s. 0 < s.shares) (sym e.kept.share) c.self.invariant.live;
      at = e.at.0;
      ready = e.at.2;
      phase = λ first. let was = c.self.invariant.phase (sym (ap (λ s. s.first) control) ∙ first) in
          (ap (λ s. s.phase) control ∙ (was.0 ∙ ap phase_by (sym down)), ap (λ s. s.purge) control ∙ was.1);
      units = λ first. let was = c.self.invariant.units (sym (ap (λ s. s.first) control) ∙ first) in
          subst (λ us. AreUnitsSmall (view now).share.about.station us) (sym units) (subst (λ s. AreUnitsSmall s.about.station (units_of (view cpu).trail)) (sym e.kept.share) was);
      made = subst (λ s. IsWellMade s.about) (sym e.kept.share) c.self.invariant.made;
    }

pub returns : goal.returns
returns g c =
    let sh = c.table.inside.shared in let cpu = c.self.inside.cpu in let now = c.finish-purged.new.cpu in let e = c.finish-purged.ensures in let control = e.kept.control in
    let made = made-is sh cpu c.args.table.now c.args.self.now c.table.view_is c.self.view_is c.requires.here in
    let may = subst MayFinish (sym c.self.view_is) c.requires.may in
    let done = subst (λ (k : Setup). AreAllDone k (view cpu).turns) made may.done in
    let made' : (view now).share.about ≡ setup sh = ap (λ s. s.about) e.kept.share ∙ made in
    let raised : (view now).place.raised ≡ (view cpu).place.raised = e.at.1 ∙ sym (ap (λ (s : SeatState). s.raised) c.self.view_is ∙ c.requires.raised) in
    let comes = finish_comes (setup sh) c.finish-purged.result (known cpu) (known now) (leads (EndStation (setup sh) c.finish-purged.result) cpu now e.makes) in
    let turns : (view now).turns ≡ (view cpu).turns = comes.turns done in
    let ended = subst (λ (k : Setup). IsFinished k (view now)) (sym made') e.finished in
    subst (λ (s : SeatState). Finishes s (seat_seen now)) c.self.view_is (record {
      is = λ i. record (seat_seen now) {
        table = e.kept.seat.0 i;
        made = (e.kept.share i).about;
        shares = (e.kept.share i).shares;
        owners = (e.kept.share i).owners;
        first = (control i).first;
        raised = raised i;
        turns = turns i;
        origin = (control i).origin;
        gone = (control i).gone;
        told = e.kept.told i;
      };
      by = call-made sh cpu now made EndsStation e.kept.seat.0 (c.finish-purged.result, (leads (EndStation (setup sh) c.finish-purged.result) cpu now e.makes));
      trail = ends-trail (setup sh) c.finish-purged.result cpu now done comes;
      ended = record { nothing_held = ended.nothing_held; hand_empty = ended.hand_empty; decided = ended.decided };
      hung = λ none unit there. ⊎_elim (λ old. absurd (none unit old)) (λ was. (sym was.0, was.1)) (comes.hung unit there);
      alone = λ alone.
          let had = subst (λ (k : Setup). IsAlone k.infos (first_account k) (solo (view cpu))) made alone in
          subst (λ (k : Setup). (running (first_account k) (solo (view now))).account.fates ≡ (finished (view cpu).share.about.infos (running (first_account (view cpu).share.about) (solo (view cpu)))).account.fates) (sym made')
          (subst (λ (k : Setup). (running (first_account (setup sh)) (solo (view now))).account.fates ≡ (finished k.infos (running (first_account k) (solo (view cpu)))).account.fates) (sym made)
          (e.alone done had).fates);
    })
