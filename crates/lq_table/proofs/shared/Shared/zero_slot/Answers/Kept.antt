-- A slot is emptied after a take: the machine and the account stay.
use Rattle.std.proofs.Common.{◌≡◌, ℕ, ◌+◌, ◌-◌, ◌<◌, true, List, set, refl, sym, ap, ◌∙◌, subst, arith, None}
use Rattle.std.proofs.lemmas.Bool.{lt-ltb}
use mathlib.Core.Option.{none}
use Rattle.atomic_table.specs.Table.{step, Allows, keeps}
use Rattle.atomic_table.proofs.Lists.{set_again}
use Rattle.lq_model.specs.Positions.{holds_lock}
use Rattle.lq_band_laws.specs.Three.{Three, at, put}
use Rattle.lq_band_laws.specs.Ring.{Ends, Lock, is_emptying, emptied_on, IsRing}
use Rattle.lq_band_laws.proofs.Three.{at_put_same, at_put_other}
use Rattle.lq_band_laws.proofs.Kept.{empties}
use Rattle.lq_table.specs.Views.{View, Setup, State, HolderPart}
use Rattle.lq_table.specs.Rule.{words_of, slot_word, account, holders, bands_now, locks_at, Rule}
use Rattle.lq_table.specs.Moves.{Sat}
use Rattle.lq_table.specs.Consumers.{zero_slot_view}
use Rattle.lq_table.proofs.ByName.{set_slot}
use Rattle.lq_table.proofs.Frames.{fates_same, locks_here, rings_step, rule_after, stays, lends_held, holder_now}
use Rattle.lq_table.proofs.SeatFrames.{seats_same}
use Rattle.lq_table.proofs.StationFrames.{stands_same}
use Rattle.lq_log.specs.Made.{becomes}

module _ (k : Setup) where
  pub empties_slot : (slots id : ℕ) (m : Sat) (b i : ℕ) → b < 3 → i < k.max_len → holds_lock m.0.place.position ≡ true → m.0.holder.resizing ≡ None → is_emptying m.0.holder.size (at b m.0.holder.ends) ≡ true → i + 1 ≡ (at b m.0.holder.ends).edge → 0 < m.0.share.shares
      → Allows (Rule k) slots id m (slot_word k b i) (λ _. 0) (λ _. becomes (λ _. zero_slot_view b) (step slots (slot_word k b i) 0 0 none) m 0)
  empties_slot slots id m b i below inside holds no_resizing busy is_edge some_share s r deep here small =
      let v : View = m.0 in let p = r.parts in let g = r.state in let a = account k g in let q = r.qdisc in let W = words_of k s.words in let live = lt-ltb 0 v.share.shares some_share in let D : HolderPart = holders g a W.size in
      let at_ = p.station.lends.knows id v here live holds in let calm : g.resizing ≡ None = sym (ap (λ (x : HolderPart). x.resizing) at_.is) ∙ no_resizing in let old = (p.station.rings.running calm).ring b below in
      let c : Ends = at b g.ends in let c_is : at b v.holder.ends ≡ c = ap (λ (x : HolderPart). at b x.ends) at_.is in let size_is : v.holder.size ≡ W.size = ap (λ (x : HolderPart). x.size) at_.is in
      let going : is_emptying W.size c ≡ true = subst (λ (z : ℕ × Ends). is_emptying z.0 z.1 ≡ true) (λ j. (size_is j, c_is j)) busy in
      let edge : c.edge - 1 ≡ i = (let x : (at b v.holder.ends).edge ≡ c.edge = ap (λ (x : Ends). x.edge) c_is in omega arith) in
      let w : View = zero_slot_view b v in let ss : Three (List ℕ) = put b (set (at b W.slots) i 0) W.slots in let ends' : Three Ends = put b (emptied_on W.size c) g.ends in let g' : State = record g { ends = ends' } in
      let ring = empties _ _ _ _ _ _ old going in let mach = stays k s r id v w here live refl refl refl refl in let D' : HolderPart = holders g' a W.size in (
        w,
        keeps,
        tt,
        rule_after k s r (slot_word k b i) 0 id s.homes r.home w (record W { slots = ss }) q g' a r.deep (set_slot k s.words 0 b i below inside) refl record {
          seats = seats_same k s r id v w here live q g' refl refl refl (λ e1 e2. (e1, λ j. record (e2 j) { ends = put b (emptied_on (size_is j) (at b (e2 j).ends)) (e2 j).ends }));
          machine = mach;
          station = record {
            stands = stands_same p.station.stands refl;
            ties = p.station.ties;
            lends = lends_held k s r id v here live holds w q.locked W.xoff g.past D' refl (holder_now at_ refl (λ j. record (at_.is j) { ends = put b (emptied_on (at_.is j).size (at b (at_.is j).ends)) (at_.is j).ends }));
            fates = fates_same k s.views id v w here W.fates a a g.resizing g.left p.station.fates refl (λ _. refl);
            rings = rings_step k s.views id v w here k.max_len W.size W.producers W.producers W.slots ss a.len (bands_now g.left a.bands) (bands_now g.left a.bands) g.ends ends' g.resizing b p.station.rings calm
                (subst (λ (z : List ℕ × List Lock × Ends). IsRing W.size z.0 (at b W.producers) z.1 (bands_now g.left a.bands b) z.2)
                (λ j. ((ap (λ (x : ℕ). set (at b W.slots) x 0) edge ∙ sym (at_put_same b (set (at b W.slots) i 0) W.slots)) j, sym (set_again (locks_at b s.views) id (at b v.locks) (locks_here k s.views id v w here b)) j, sym (at_put_same b (emptied_on W.size c) g.ends) j)) ring)
                (λ x h no_. (at_put_other b x (set (at b W.slots) i 0) W.slots below h no_, refl, refl, refl, at_put_other b x (emptied_on W.size c) g.ends below h no_));
            stops = p.station.stops;
          };
          account = p.account;
        },
        refl,
      )
