-- `recheck` keeps the rule of the table.
use Rattle.std.proofs.Common.{◌≡◌, ℕ, ◌<◌, Bool, true, false, true≢false, ◌∷◌, set, refl, sym, ap, ◌∙◌, subst, arith, Some, get_or, ⊎_elim}
use Rattle.std.specs.Prelude.{if◌then◌else◌}
use Rattle.std.proofs.lemmas.Bool.{lt-ltb}
use mathlib.Core.Option.{none}
use Rattle.atomic_table.specs.Table.{step, Allows, keeps}
use Rattle.lq_model.specs.Account.{Event, Direct, after}
use Rattle.lq_model.specs.Legal.{MayGoDirect}
use Rattle.lq_model.specs.declared.machine.Answer.TheVariants.{Plain}
use Rattle.lq_model.specs.declared.machine.Packet.{Packet}
use Rattle.lq_model.specs.declared.machine.Position.{Position}
use Rattle.lq_model.specs.declared.machine.Position.TheVariants.{Recheck, Put, Gate}
use Rattle.lq_model.specs.declared.machine.Seat.{Seat}
use Rattle.lq_model.specs.Machine.{Qdisc}
use Rattle.lq_model.specs.Steps.{step_at}
use Rattle.lq_model.specs.Positions.{holds_lock, needs_slot, direct_packet, may_be_inside}
use Rattle.lq_model.specs.Control.{is_control}
use Rattle.lq_table.specs.Places.{state_place}
use Rattle.lq_table.specs.Views.{View, Setup, State, HolderPart, machine_packet}
use Rattle.lq_table.specs.Rule.{words_of, account, holders, Holder, Rule}
use Rattle.lq_table.specs.Moves.{Sat, seen_by}
use Rattle.lq_table.specs.States.{seen_state, some_bit, load_state_view, recheck_view_direct}
use Rattle.lq_table.proofs.shared.Shared.recheck.Invariants.{recheck_told, recheck_told_all}
use Rattle.lq_table.proofs.ByName.{set_back}
use Rattle.lq_table.proofs.Facts.{calm_rule, map_none, at_within, slot_free, none_beside}
use Rattle.lq_table.proofs.Accounts.{fresh_is_new}
use Rattle.lq_table.proofs.Quiet.{Still, quiet}
use Rattle.lq_table.proofs.Frames.{none_left, rule_after, Fits, plays, held_after, lends_held}
use Rattle.atomic_table.proofs.Lists.{set_here}
use Rattle.lq_table.proofs.SeatFrames.{seats_brought}
use Rattle.lq_table.proofs.StationFrames.{station_kept, ties_same, account_heard}
use Rattle.lq_table.proofs.RecheckKept.{bits_only, seen, two_ways}
use Rattle.lq_band_laws.specs.Three.{at}
use Rattle.lq_table.proofs.Loads.{also}
use Rattle.lq_table.proofs.SoleFacts.{sees_state}
use Rattle.lq_table.proofs.SoleKept.{sees}

recheck_fits : (base q : Qdisc) (p : Packet) (s : Seat) → Fits q (bits_only base q) Plain (Recheck p) s q
recheck_fits base q p s = record { may = refl; seat = refl; words = refl }

module _ (k : Setup) where
  pub rechecks : (slots id n : ℕ) (m : Sat) → m.0.place.position ≡ Recheck (machine_packet k.infos n) → m.0.packets.fresh ≡ Some n → 0 < m.0.share.shares
      → Allows (Rule k) slots id m state_place (λ x. x) (recheck_told n (step slots state_place 0 0 none) m)
  rechecks slots id n m position is_fresh some_share s r0 deep here small =
      let v : View = m.0 in let r = calm_rule k s r0 id v here (lt-ltb 0 v.share.shares some_share) (ap may_be_inside position) (ap is_control position) in let p = r.parts in let g = r.state in let a = account k g in let q = r.qdisc in let W = words_of k s.words in let live = lt-ltb 0 v.share.shares some_share in
      let D : HolderPart = holders g a W.size in let holds : holds_lock v.place.position ≡ true = ap holds_lock position in let x : Packet = machine_packet k.infos n in
      let f : ℕ = get_or s.words state_place 0 in let sees : Qdisc = seen_state (seen_by v) v.share.about.bypass f in
      let same : sees ≡ bits_only (seen_by v) q = seen k s r (seen_by v) v.share.about.bypass (ap (λ (z : Setup). z.bypass) (p.seats.shares.about id v here live)) in
      let fits : Fits q sees Plain v.place.position v.place q = subst (λ (z : Qdisc × Position). Fits q z.0 Plain z.1 v.place q) (λ j. (sym same j, sym position j)) (recheck_fits (seen_by v) q x v.place) in
      let to : (step_at v.place.position Plain sees v.place).seat.position ≡ (if some_bit f then Put x true else Gate x true) = ap (λ (z : Position). (step_at z Plain sees v.place).seat.position) position in
      ⊎_elim
      (λ (bits : some_bit f ≡ true). let to_put : (step_at v.place.position Plain sees v.place).seat.position ≡ Put x true = to ∙ ap (λ (b : Bool). if b then Put x true else Gate x true) bits in (
        load_state_view f v,
        keeps,
        tt,
        quiet k s r state_place f id f W.inside v Plain sees q here live fits (record { bands = refl; slot = refl; xoff = refl; len = refl; deactivated = refl; locked = refl; purge = refl; phase = refl }) (set_back k s.words state_place) p.station.stands
            (λ _. subst (λ (z : Position × Position). Still z.0 z.1) (λ j. (sym position j, sym to_put j)) record { hand = refl; looked = refl; goes_on = refl; calm = refl }),
        ((λ _. refl), (λ none_. absurd (true≢false (sym bits ∙ none_)))),
      ))
      (λ (none_ : some_bit f ≡ false). let w : View = recheck_view_direct n f v in let e : Event = Direct n in let g' : State = record g { past = e ∷ g.past } in let D' : HolderPart = holders g' (after e a) W.size in
      let seat : w.place.position ≡ Gate x true = to ∙ ap (λ (b : Bool). if b then Put x true else Gate x true) none_ in
      let mach = plays k s r id v w here live Plain sees q fits refl refl refl refl in
      let at : Holder k.infos W.xoff g.past D (Recheck x) v.holder = subst (λ (z : Position). Holder k.infos W.xoff g.past D z v.holder) position (p.station.lends.knows id v here live holds) in
      let know = p.seats.packets id v here in let mine = know.fresh n is_fresh in
      let here' = set_here s.views id w (at_within s.views id v here) in
      let may : MayGoDirect k.infos k.station a n = record {
        new = fresh_is_new k g.past a n p.account.accounted.brought mine.1;
        hand_empty = map_none (machine_packet k.infos) a.hand (sym at.in_hand);
        slot_empty = slot_free k.infos (set s.views id w) id w here' live q a a.bands mach.invariant p.station.ties (ap needs_slot seat);
        none_held = none_beside k.infos (set s.views id w) id w here' live q a a.bands mach.invariant p.station.ties refl n (ap direct_packet seat);
      } in (
        w,
        keeps,
        tt,
        rule_after k s r state_place f id s.homes r.home w W q g' (after e a) r.deep (set_back k s.words state_place) refl record {
          seats = seats_brought k s r id v w here live e n q g' refl refl refl is_fresh refl refl refl tt
              (know.owed) (λ _ _. refl) (λ e1 e2. (ap (λ (z : Qdisc). (step_at v.place.position Plain z v.place).qdisc) e1 ∙ fits.words, ap (λ (z : State). record z { past = e ∷ z.past }) e2));
          machine = mach;
          station = station_kept k s r id v w here W r.home q g' (after e a) refl (λ _. refl) refl (λ _ _ l h. (l, held_after k s r id v w here live Plain sees q fits refl h))
              p.station.stands
              (ties_same p.station.ties refl refl)
              (lends_held k s r id v here live holds w q.locked W.xoff (e ∷ g.past) D' refl
              (subst (λ (z : Position). Holder k.infos W.xoff (e ∷ g.past) D' z w.holder) (sym seat) record {
                is = λ j. record (at.is j) { hand = Some n };
                in_hand = refl;
                looked = λ _ l. absurd (omega arith);
                stopping = tt;
                alive = λ _. at.alive refl;
              }))
              p.station.stops;
          account = account_heard k s r e refl may mine.1.in_turn tt tt (none_left _ _);
        },
        ((λ bits. absurd (true≢false (sym bits ∙ none_))), (λ _. refl)),
      ))
      (two_ways (some_bit f))

module _ (k : Setup) (slots id : ℕ) (m : Sat) where
  pub rechecks_sole : (n : ℕ) → m.0.place.position ≡ Recheck (machine_packet k.infos n) → m.0.packets.fresh ≡ Some n → 0 < m.0.share.shares → Allows (Rule k) slots id m state_place (λ x. x) (recheck_told_all n (step slots state_place 0 0 none) m)
  rechecks_sole n at fresh some_share = also k slots id m state_place (λ x. x) (recheck_told n (step slots state_place 0 0 none) m) (sees k slots id m) (λ s r here sole. sees_state k s r id m.0 here some_share sole) (rechecks k slots id n m at fresh some_share)
