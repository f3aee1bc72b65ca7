-- `unlock` keeps the rule of the table.
use Rattle.std.proofs.Common.{◌≡◌, ℕ, ◌<◌, Bool, true, false, true≢false, List, [], ◌∷◌, ◌++◌, refl, sym, ap, ap₂, ◌∙◌, subst, arith, Option, Some, None}
use Rattle.std.specs.Prelude.{◌&&◌, is_none, if◌then◌else◌}
use Rattle.std.proofs.lemmas.Bool.{lt-ltb, false≢true}
use Rattle.lq_model.specs.declared.machine.ControlStep.TheVariants.{RunEnd, Release}
use Rattle.lq_model.specs.declared.machine.Position.TheVariants.{Control, Unlock}
use Rattle.lq_model.specs.declared.machine.Phase.{Phase}
use Rattle.lq_model.specs.declared.machine.Packet.{Packet}
use Rattle.lq_model.specs.Machine.{Qdisc, is_closed, Purge}
use Rattle.lq_model.specs.Control.{is_control}
use Rattle.lq_model.specs.Positions.{holds_lock, own_packet, may_be_inside}
use Rattle.lq_model.specs.Kept.{IsInductive}
use Rattle.lq_band_laws.proofs.Seats.{each_same}
use Rattle.lq_table.specs.Places.{lock_place}
use Rattle.lq_table.specs.Moves.{Sat, seen_by}
use Rattle.lq_table.specs.Locks.{after_release, unlock_view_in_control, unlock_at, unlock_view_in_call, seen_lock, unlock_view}
use Rattle.lq_table.proofs.Middle.{middle, controls_in}
use Rattle.lq_table.proofs.StopsKept.{agree, none_agree, call_none}
use Rattle.lq_table.proofs.Frames.{none_some, firsts_same, rule_after, opened, closed, moves, Fits, plays}
use mathlib.Core.Option.{some, none}
use Rattle.atomic_table.specs.Table.{Allows, gives, put_back, rest, step}
use Rattle.lq_device.specs.Station.{StationState}
use Rattle.lq_model.specs.declared.machine.Position.{Position}
use Rattle.lq_model.specs.declared.machine.Seat.{Seat}
use Rattle.lq_table.specs.Views.{View, Setup, HolderPart, machine_packet}
use Rattle.lq_table.specs.Rule.{words_of, account, holders, shown, IsResting, Holder, KnowsHolder, Rule}
use Rattle.lq_table.proofs.shared.Shared.unlock.Invariants.{unlock_told}
use Rattle.lq_table.proofs.ByName.{set_lock}
use Rattle.lq_table.proofs.Facts.{map_none}
use Rattle.lq_table.proofs.SeatFrames.{seats_same}
use Rattle.lq_table.proofs.StationFrames.{station_kept, ties_same}
use Rattle.lq_model.specs.declared.machine.Answer.TheVariants.{Plain}
use Rattle.lq_model.specs.Steps.{step_at}

-- after the release control holds nothing
released_free : (b : Bool) → (holds_lock (after_release b) ≡ false) × ((y : Packet) → own_packet (after_release b) ≡ Some y → ⊥)
released_free true = (refl, λ y own. absurd cc)
released_free false = (refl, λ y own. absurd cc)

released_leads : (q : Qdisc) (seat : Seat) (before after : List Seat) (phase : Phase) → is_none q.purge ≡ true → q.deactivated ≡ is_closed phase
    → IsInductive (record { qdisc = q; seats = before ++ (record seat { position = Control true }) ∷ after })
    → (b : Bool) → is_closed phase ≡ b → IsInductive (record { qdisc = record q { locked = false }; seats = before ++ (record seat { position = after_release b }) ∷ after })
released_leads q seat before after phase calm off old true shut = controls_in q before after (record seat { position = Control true }) Release true refl refl (ap₂ (λ (b c : Bool). b && c) calm (off ∙ shut)) old
released_leads q seat before after phase calm off old false open_ = controls_in q before after (record seat { position = Control true }) RunEnd true refl refl calm old

module _ (k : Setup) where
  -- control gives it back, with no purge half done
  pub control_releases : (slots id : ℕ) (m : Sat) → m.0.place.position ≡ Control true → m.0.control.purge ≡ None → m.0.holder.shut ≡ None → m.1 ≡ (0, Some (shown m.0.holder)) ∷ [] → IsResting m.0.holder.size m.0.holder.ends → m.0.holder.resizing ≡ None → 0 < m.0.share.shares
      → Allows (Rule k) slots id m lock_place (λ _. 0) (λ _ m'. m' ≡ (unlock_view_in_control m.0, []))
  control_releases slots id m position no_purge no_shut carries rests no_resizing some_share s r deep here small =
      let v : View = m.0 in let q = r.qdisc in let p = r.parts in let g = r.state in let a = account k g in let W = words_of k s.words in let live = lt-ltb 0 v.share.shares some_share in
      let D : HolderPart = holders g a W.size in let w : View = unlock_view_in_control v in let mid = middle s.views id v here live in let q' : Qdisc = record q { locked = false } in
      let at : Holder k.infos W.xoff g.past D (Control true) v.holder = subst (λ (z : Position). Holder k.infos W.xoff g.past D z v.holder) position (p.station.lends.knows id v here live (ap holds_lock position)) in
      let back : m.1 ≡ (0, Some (shown D)) ∷ [] = carries ∙ ap (λ (x : HolderPart). (0, Some (shown x)) ∷ []) at.is in
      let shut_none : g.shut ≡ None = sym (ap (λ (x : HolderPart). x.shut) at.is) ∙ no_shut in
      let calm : g.resizing ≡ None = sym (ap (λ (x : HolderPart). x.resizing) at.is) ∙ no_resizing in
      let first : v.control.first ≡ true = p.machine.firsts.control id v here live (ap is_control position) in let knows = p.machine.firsts.knows id v here first in
      let purge : q.purge ≡ None = sym knows.1 ∙ no_purge in let at_control : Seat = record v.place { position = Control true } in
      let old = subst (λ (u : Seat). IsInductive (record { qdisc = q; seats = mid.before ++ u ∷ mid.after })) (λ j. record v.place { position = position j }) (opened s.views id v here live q p.machine.invariant) in
      let leads : (b : Bool) → is_closed v.control.phase ≡ b → IsInductive (record { qdisc = q'; seats = mid.before ++ (record v.place { position = after_release b }) ∷ mid.after }) = released_leads q v.place mid.before mid.after v.control.phase (ap is_none purge) (p.machine.invariant.deactivation ∙ ap is_closed (sym knows.0)) old in
      let done = leads (is_closed v.control.phase) refl in let free = released_free (is_closed v.control.phase) in (
        w,
        gives,
        tt,
        rule_after k s r lock_place 0 id _ (some (Some (shown D))) w (record W { lock = 0 }) q' g a (λ j. put_back (r.deep j) (back j)) (set_lock k s.words 0 (let wide = r.wide in omega arith)) refl record {
          seats = seats_same k s r id v w here live q' g refl refl refl (λ e1 e2. (ap (λ (z : Qdisc). record z { locked = false }) e1, e2));
          machine = moves k s r id v w here live q' refl refl (closed s.views id v here live w q' w.place live refl done) (λ y own. absurd (free.1 y own))
              (firsts_same k s.views id v w here q.phase q.phase q.purge q.purge p.machine.firsts live refl refl refl refl (λ _. ap is_control position));
          station = station_kept k s r id v w here (record W { lock = 0 }) (some (Some (shown D))) q' g a refl (λ _. refl) refl (λ t now. absurd (none_some (sym calm ∙ now)))
              (record { state = p.station.stands.state; lock = refl; xoff = p.station.stands.xoff; inside = p.station.stands.inside; bypass = p.station.stands.bypass })
              (ties_same p.station.ties refl refl)
              (record {
                home = λ _. record {
                  there = refl;
                  alive = at.alive refl;
                  resting = subst (λ (z : HolderPart). IsResting z.size z.ends) at.is rests;
                  hand_empty = map_none (machine_packet k.infos) a.hand (sym at.in_hand);
                  calm = calm;
                };
                away = λ e. absurd (true≢false (sym e));
                knows = each_same (KnowsHolder k.infos W.xoff g.past D) s.views id w p.station.lends.knows (λ _ holds. absurd (true≢false (sym holds ∙ free.0)));
              })
              (none_agree q.phase false q.xoff a.stops g.shut shut_none (agree q.phase q.locked q.xoff a.stops g.shut shut_none p.station.stops));
          account = p.account;
        },
        ap (λ (c : List (ℕ × Option StationState)). (w, rest c)) carries,
      )

module _ (k : Setup) where
  unlocks_call : (slots id : ℕ) (m : Sat) → m.0.place.position ≡ Unlock → m.1 ≡ (0, Some (shown m.0.holder)) ∷ [] → IsResting m.0.holder.size m.0.holder.ends → m.0.holder.resizing ≡ None → 0 < m.0.share.shares
      → Allows (Rule k) slots id m lock_place (λ _. 0) (λ _ m'. m' ≡ (unlock_view_in_call m.0, []))
  unlocks_call slots id m position carries rests no_resizing some_share s r deep here small =
      let v : View = m.0 in let q = r.qdisc in let p = r.parts in let g = r.state in let a = account k g in let W = words_of k s.words in let live = lt-ltb 0 v.share.shares some_share in
      let D : HolderPart = holders g a W.size in let w : View = unlock_view_in_call v in let q' : Qdisc = record q { locked = false } in
      let at : Holder k.infos W.xoff g.past D Unlock v.holder = subst (λ (z : Position). Holder k.infos W.xoff g.past D z v.holder) position (p.station.lends.knows id v here live (ap holds_lock position)) in
      let back : m.1 ≡ (0, Some (shown D)) ∷ [] = carries ∙ ap (λ (x : HolderPart). (0, Some (shown x)) ∷ []) at.is in
      let calm : g.resizing ≡ None = sym (ap (λ (x : HolderPart). x.resizing) at.is) ∙ no_resizing in
      let fits : Fits q (seen_lock (seen_by v) false) Plain v.place.position v.place q' = subst (λ (x : Position). Fits q (seen_lock (seen_by v) false) Plain x v.place q') (sym position) record { may = refl; seat = refl; words = refl } in
      let mach = plays k s r id v w here live Plain (seen_lock (seen_by v) false) q' fits refl refl refl refl in
      let no_shut : g.shut ≡ None = call_none s.views id v here live q p.machine.invariant (ap may_be_inside position) g.shut a.stops p.station.stops in
      let gone : holds_lock w.place.position ≡ false = ap (λ (x : Position). holds_lock (step_at x Plain (seen_lock (seen_by v) false) v.place).seat.position) position in (
        w,
        gives,
        tt,
        rule_after k s r lock_place 0 id _ (some (Some (shown D))) w (record W { lock = 0 }) q' g a (λ j. put_back (r.deep j) (back j)) (set_lock k s.words 0 (let wide = r.wide in omega arith)) refl record {
          seats = seats_same k s r id v w here live q' g refl refl refl (λ e1 e2. (ap (λ (z : Qdisc). (step_at v.place.position Plain z v.place).qdisc) e1 ∙ fits.words, e2));
          machine = mach;
          station = station_kept k s r id v w here (record W { lock = 0 }) (some (Some (shown D))) q' g a refl (λ _. refl) refl (λ t now. absurd (Rattle.lq_table.proofs.Frames.none_some (sym calm ∙ now)))
              (record { state = p.station.stands.state; lock = refl; xoff = p.station.stands.xoff; inside = p.station.stands.inside; bypass = p.station.stands.bypass })
              (ties_same p.station.ties refl refl)
              (record {
                home = λ _. record {
                  there = refl;
                  alive = at.alive refl;
                  resting = subst (λ (z : HolderPart). IsResting z.size z.ends) at.is rests;
                  hand_empty = map_none (machine_packet k.infos) a.hand (sym at.in_hand);
                  calm = calm;
                };
                away = λ e. absurd (true≢false (sym e));
                knows = each_same (KnowsHolder k.infos W.xoff g.past D) s.views id w p.station.lends.knows (λ _ holds. absurd (true≢false (sym holds ∙ gone)));
              })
              (none_agree q.phase false q.xoff a.stops g.shut no_shut (agree q.phase q.locked q.xoff a.stops g.shut no_shut p.station.stops));
          account = p.account;
        },
        ap (λ (c : List (ℕ × Option StationState)). (w, rest c)) carries,
      )

  -- the lock is released after a run, or by control
  pub unlocks : (slots id : ℕ) (m : Sat) → unlock_at m.0.place.position m.0.control.purge m.0.holder.shut ≡ true → m.1 ≡ (0, Some (shown m.0.holder)) ∷ [] → IsResting m.0.holder.size m.0.holder.ends → m.0.holder.resizing ≡ None → 0 < m.0.share.shares
      → Allows (Rule k) slots id m lock_place (λ _. 0) (λ _. unlock_told (step slots lock_place 0 0 none) m 0)
  unlocks slots id m at carries rests no_resizing some_share = by m.0.place.position m.0.control.purge m.0.holder.shut refl refl refl at
    where
      Goal : View → Type 0
      Goal w = Allows (Rule k) slots id m lock_place (λ _. 0) (λ _ m'. m' ≡ (w, []))

      by : (y : Position) (purge : Option Purge) (shut : Option ℕ) → m.0.place.position ≡ y → m.0.control.purge ≡ purge → m.0.holder.shut ≡ shut → unlock_at y purge shut ≡ true → Goal (unlock_view m.0)
      by Unlock purge shut is purge_is shut_is h = subst Goal (λ j. if sym (ap is_control is) j then unlock_view_in_control m.0 else unlock_view_in_call m.0) (unlocks_call slots id m is carries rests no_resizing some_share)
      by (Control true) None None is purge_is shut_is h = subst Goal (λ j. if sym (ap is_control is) j then unlock_view_in_control m.0 else unlock_view_in_call m.0) (control_releases k slots id m is purge_is shut_is carries rests no_resizing some_share)
      by (Control true) None (Some n) is purge_is shut_is h = absurd (true≢false (sym h))
      by (Control true) (Some u) shut is purge_is shut_is h = absurd (true≢false (sym h))
      by (Control false) purge shut is purge_is shut_is h = absurd (true≢false (sym h))
      by _ purge shut is purge_is shut_is h = absurd (false≢true h)
