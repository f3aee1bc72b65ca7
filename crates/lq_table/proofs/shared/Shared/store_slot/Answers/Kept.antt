-- The store of a packet into the slot at the index: it joins its band in the machine, in the account and in the ring.
use Rattle.std.proofs.Common.{◌≡◌, ℕ, ◌+◌, ◌<◌, Bool, true, false, List, [], ◌∷◌, ◌++◌, length, set, refl, sym, ap, ap₂, ◌∙◌, subst, arith, Some, None}
use Rattle.std.specs.Prelude.{nat_lt}
use Rattle.std.proofs.lemmas.Bool.{lt-ltb}
use Rattle.std.proofs.lemmas.List.{length-map}
use mathlib.Core.Option.{none}
use Rattle.atomic_table.specs.Table.{step, Allows, keeps}
use Rattle.lq_model.specs.Account.{Event, Join, after, held_in}
use Rattle.lq_model.specs.Band.{Band, joined as band_joined_by}
use Rattle.lq_model.specs.Legal.{MayJoin}
use Rattle.lq_model.specs.Plan.{band_in}
use Rattle.lq_model.specs.declared.machine.Answer.TheVariants.{Plain}
use Rattle.lq_model.specs.declared.machine.Packet.{Packet}
use Rattle.lq_model.specs.declared.machine.Position.{Position}
use Rattle.lq_model.specs.declared.machine.Position.TheVariants.{Put}
use Rattle.lq_model.specs.declared.machine.Seat.{Seat}
use Rattle.lq_model.specs.Machine.{Qdisc, band_at}
use Rattle.lq_model.specs.Steps.{step_at, joined_band}
use Rattle.lq_model.specs.Positions.{may_be_inside, holds_lock}
use Rattle.lq_model.specs.Control.{is_control}
use Rattle.lq_band_laws.specs.Three.{Three, at, put}
use Rattle.lq_band_laws.specs.Ring.{Lock, having_stored, IsRing}
use Rattle.lq_band_laws.proofs.Three.{at_put_same, at_put_other}
use Rattle.lq_band_laws.proofs.Kept.{stores}
use Rattle.lq_table.specs.Views.{View, Setup, State, HolderPart, machine_packet, machine_packets}
use Rattle.lq_table.specs.Rule.{words_of, slot_word, account, holders, Holder, locks_at, Rule}
use Rattle.lq_table.specs.Moves.{Sat, seen_by}
use Rattle.lq_table.specs.Producers.{store_slot_view}
use Rattle.lq_table.proofs.ByName.{set_slot}
use Rattle.lq_table.proofs.Shows.{Shows, begins_alike, begins_plain, holder_shows}
use Rattle.lq_table.proofs.Ties.{band_tied, band_set, band_joined}
use Rattle.lq_table.proofs.Facts.{calm_rule}
use Rattle.lq_table.proofs.Accounts.{fresh_is_new, with_at_same, with_at_other}
use Rattle.lq_table.proofs.Frames.{same_xoff, fates_same, locks_here, calm_here, rings_step, none_left, rule_after, Fits, plays, held_before, Later, holder_later, lends_step}
use Rattle.lq_table.proofs.SeatFrames.{seats_brought}
use Rattle.lq_table.proofs.StationFrames.{stands_same, account_heard}
use Rattle.lq_log.specs.Made.{becomes}

pub put_fits : (q seen : Qdisc) (p : Packet) (holds : Bool) (s : Seat) → (holds ≡ true → Shows q seen) → nat_lt (length (band_at q p.band)) q.len ≡ true → Fits q seen Plain (Put p holds) s (joined_band p q)
put_fits q seen p true s e room = record { may = room; seat = λ j. record { position = begins_alike q seen (e refl) j; raised = s.raised; run = 0 }; words = refl }
put_fits q seen p false s e room = record { may = room; seat = refl; words = refl }

-- what a holder that put a packet knows after it
pub put_holder : (seen : Qdisc) (infos : List _) (xoff : List ℕ) (past : List Event) (d h : HolderPart) (p : Packet) (holds : Bool) (s : Seat) → Holder infos xoff past d (Put p holds) h
    → Holder infos xoff past d (step_at (Put p holds) Plain seen s).seat.position h
put_holder seen infos xoff past d h p true s x = let b = begins_plain seen in record { is = x.is; in_hand = b.hand ∙ x.in_hand; looked = λ c l. absurd (let z = b.looked in omega arith); stopping = b.stopping infos xoff past d.last; alive = λ _. x.alive refl }
put_holder seen infos xoff past d h p false s x = record { is = x.is; in_hand = x.in_hand; looked = λ b l. absurd (omega arith); stopping = tt; alive = λ _. x.alive refl }

module _ (k : Setup) where
  pub stores_slot : (slots id : ℕ) (m : Sat) (b i n : ℕ) (holds : Bool) → b < 3 → i < k.max_len → m.0.place.position ≡ Put (machine_packet k.infos n) holds
      → (at b m.0.locks).holds ≡ true → (at b m.0.locks).stored ≡ false → (at b m.0.locks).room ≡ true → i ≡ (at b m.0.locks).index
      → m.0.packets.fresh ≡ Some n → band_in k.infos n ≡ b → 0 < m.0.share.shares → m.0.holder.resizing ≡ None
      → Allows (Rule k) slots id m (slot_word k b i) (λ _. n + 1) (λ _. becomes (λ _. store_slot_view b n) (step slots (slot_word k b i) (n + 1) 0 none) m (n + 1))
  stores_slot slots id m b i n holds below inside position has new room is_index is_fresh of_band some_share no_resizing s r0 deep here small =
      let v : View = m.0 in let r = calm_rule k s r0 id v here (lt-ltb 0 v.share.shares some_share) (ap may_be_inside position) (ap is_control position) in let p = r.parts in let g = r.state in let a = account k g in let q = r.qdisc in let W = words_of k s.words in let l : Lock = at b v.locks in let live = lt-ltb 0 v.share.shares some_share in
      let calm : g.resizing ≡ None = calm_here k.infos k.max_len W.size W.producers W.slots _ _ _ q.locked W.xoff r.home g.past (holders g a W.size) g.resizing s.views id v b p.station.rings p.station.lends refl here below has no_resizing in
      let run = p.station.rings.running calm in let old = run.ring b below in
      let know = p.seats.packets id v here in let mine = know.fresh n is_fresh in let w : View = store_slot_view b n v in let e : Event = Join n b in let g' : State = record g { past = e ∷ g.past } in
      let both = stores _ _ _ _ _ _ id l old (locks_here k s.views id v w here b) n has new room in
      let fits_in : length (held_in a b) < a.len = subst (λ (z : ℕ). length (held_in a b) < z) run.size_is both.1 in
      let may : MayJoin k.infos k.station a n b = record { new = fresh_is_new k g.past a n p.account.accounted.brought mine.1; band_is = of_band; has_room = fits_in } in
      let x : Packet = machine_packet k.infos n in let q' : Qdisc = joined_band x q in
      let tied = band_tied k.infos q a a.bands p.station.ties (band_in k.infos n) (let h = of_band in omega arith) in
      let room' : length (band_at q x.band) < q.len = (let c = ap length tied ∙ (length-map (held_in a (band_in k.infos n)) (machine_packet k.infos) ∙ ap (λ (z : ℕ). length (held_in a z)) of_band) in let c' = p.station.ties.len in omega arith) in
      let fits : Fits q (seen_by v) Plain v.place.position v.place q' = subst (λ (z : Position). Fits q (seen_by v) Plain z v.place q') (sym position) (put_fits q (seen_by v) x holds v.place (λ h. holder_shows k s r id v here live (ap holds_lock position ∙ h)) (lt-ltb _ _ room')) in
      let mach = plays k s r id v w here live Plain (seen_by v) q' fits refl refl refl refl in
      let later : Later g.past (e ∷ g.past) = record { looked = λ _ h. h; sends = λ h. h; hangs = λ h. h } in
      let ss : Three (List ℕ) = put b (set (at b W.slots) i (n + 1)) W.slots in (
        w,
        keeps,
        tt,
        rule_after k s r (slot_word k b i) (n + 1) id s.homes r.home w (record W { slots = ss }) q' g' (after e a) r.deep (set_slot k s.words (n + 1) b i below inside) refl record {
          seats = seats_brought k s r id v w here live e n q' g' refl refl refl is_fresh refl refl refl tt
              (know.owed) (λ _ _. refl) (λ e1 e2. (ap (λ (z : Qdisc). (step_at v.place.position Plain z v.place).qdisc) e1 ∙ fits.words, ap (λ (z : State). record z { past = e ∷ z.past }) e2));
          machine = mach;
          station = record {
            stands = stands_same p.station.stands refl;
            ties = record {
              bands_are = ap₂ (λ (bs : List (List Packet)) (ps : List Packet). set bs x.band (ps ++ x ∷ [])) p.station.ties.bands_are tied
                  ∙ (ap (λ (z : ℕ). set (Rattle.lq_table.specs.Rule.bands_of k.infos a.bands) z (machine_packets k.infos (held_in a z) ++ x ∷ [])) of_band
                  ∙ band_set k.infos a.bands b (band_joined_by (a.bands b) n) _ below (band_joined k.infos (a.bands b) n (let t = old.taken_is in let t' = old.line_is in let t'' = old.taken_within in omega arith)));
              slot = p.station.ties.slot;
              len = p.station.ties.len;
              down = p.station.ties.down;
            };
            lends = lends_step k.infos W.xoff W.xoff g.past (e ∷ g.past) later same_xoff q.locked r.home s.views (holders g a W.size) id v w here p.station.lends
                (λ _ now. holder_later k.infos W.xoff W.xoff g.past (e ∷ g.past) later same_xoff _ _ _
                (subst (λ (z : Position). Holder k.infos W.xoff g.past (holders g a W.size) (step_at z Plain (seen_by v) v.place).seat.position v.holder) (sym position)
                (put_holder (seen_by v) k.infos W.xoff g.past (holders g a W.size) v.holder x holds v.place
                (subst (λ (z : Position). Holder k.infos W.xoff g.past (holders g a W.size) z v.holder) position (p.station.lends.knows id v here live (held_before k s r id v w here live Plain (seen_by v) q' fits refl now))))));
            fates = fates_same k s.views id v w here W.fates a (after e a) g.resizing None p.station.fates refl (λ _. refl);
            rings = rings_step k s.views id v w here k.max_len W.size W.producers W.producers W.slots ss a.len a.bands (after e a).bands g.ends g.ends g.resizing b p.station.rings calm
                (subst (λ (z : List ℕ × Lock × Band). IsRing W.size z.0 (at b W.producers) (set (locks_at b s.views) id z.1) z.2 (at b g.ends))
                (λ j. (sym (at_put_same b (set (at b W.slots) i (n + 1)) W.slots ∙ ap (λ (x : ℕ). set (at b W.slots) x (n + 1)) is_index) j, sym (at_put_same b (having_stored l) v.locks) j, sym (with_at_same b (band_joined_by (a.bands b) n) a.bands) j)) both.0)
                (λ c h no_. (at_put_other b c (set (at b W.slots) i (n + 1)) W.slots below h no_, refl, at_put_other b c (having_stored l) v.locks below h no_, with_at_other b c (band_joined_by (a.bands b) n) a.bands no_, refl));
            stops = p.station.stops;
          };
          account = account_heard k s r e refl may mine.1.in_turn tt tt (none_left _ _);
        },
        refl,
      )
