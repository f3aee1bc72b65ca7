-- `head_slot` keeps the rule of the table.
use Rattle.std.proofs.Common.{◌≡◌, ◌≢◌, ℕ, zero, suc, ◌+◌, ◌-◌, ◌<◌, ◌≤◌, Bool, true, false, eqb, List, [], ◌∷◌, length, drop, set, refl, sym, ap, ◌∙◌, subst, arith, ⊎_elim, Some, None, eq-eqb, get_or, ne_eqb, Option}
use Rattle.std.specs.Option.{option_map}
use Rattle.std.specs.List.{slice_get}
use Rattle.std.proofs.lemmas.Option.{slice_get_within}
use Rattle.std.proofs.lemmas.Bool.{cases_eq, lt-ltb, or_left, or_right}
use Rattle.atomic_table.proofs.Lists.{set_again}
use mathlib.Core.Logic.{dite}
use mathlib.Core.Option.{none, some}
use native.Mathlib.Decide.{ℕ_discrete}
use Rattle.atomic_table.specs.Table.{step, Allows, keeps}
use Rattle.lq_model.specs.Account.{Event, Empty, Take, after, held_in, Account}
use Rattle.lq_model.specs.Band.{Band, taken_by}
use Rattle.lq_model.specs.Legal.{MayTake, was_empty}
use Rattle.lq_model.specs.declared.fate.Info.{Info}
use Rattle.lq_model.specs.declared.machine.Answer.TheVariants.{Plain}
use Rattle.lq_model.specs.declared.machine.Packet.{Packet}
use Rattle.lq_model.specs.declared.machine.Position.{Position}
use Rattle.lq_model.specs.declared.machine.Position.TheVariants.{Scan, Gate}
use Rattle.lq_model.specs.declared.machine.Seat.{Seat}
use Rattle.lq_model.specs.Machine.{Qdisc, band_at}
use Rattle.lq_model.specs.Steps.{step_at, scan, after_band}
use Rattle.lq_model.specs.Positions.{holds_lock, needs_slot, may_be_inside}
use Rattle.lq_model.specs.Control.{is_control}
use Rattle.lq_account_laws.proofs.Lists.{drop-in}
use Rattle.lq_band_laws.specs.Three.{Three, at, put}
use Rattle.lq_band_laws.specs.Ring.{Ends, Lock, is_emptying, taken_on, IsRing}
use Rattle.lq_band_laws.proofs.Three.{at_put_same, at_put_other}
use Rattle.lq_band_laws.proofs.Kept.{finds_none, takes}
use Rattle.lq_table.specs.Views.{View, Setup, State, HolderPart, machine_packet, machine_packets}
use Rattle.lq_table.specs.Rule.{words_of, slot_word, account, holders, Holder, locks_at, Rule}
use Rattle.lq_table.specs.Moves.{Sat}
use Rattle.lq_table.specs.Consumers.{seen_band, head_slot_view_empty, head_slot_view}
use Rattle.lq_table.proofs.shared.Shared.head_slot.Invariants.{head_slot_told, TellsHead, head_slot_told_all}
use Rattle.lq_table.proofs.ByName.{set_back, slot_of}
use Rattle.lq_table.proofs.Ties.{band_tied, band_set, held_taken}
use Rattle.lq_table.proofs.Facts.{calm_rule, map_none, slot_free}
use Rattle.lq_table.proofs.Accounts.{contains_get, with_at_same, with_at_other}
use Rattle.lq_table.proofs.Frames.{fates_same, locks_here, rings_step, none_left, rule_after, Fits, plays, held_after, lends_held}
use Rattle.lq_table.proofs.SeatFrames.{seats_heard}
use Rattle.lq_table.proofs.StationFrames.{station_kept, stands_same, account_heard}
use Rattle.lq_table.proofs.HeadSlotKept.{first_of}
use Rattle.std.specs.Prelude.{if◌then◌else◌, ◌==◌}
use lib.ListN.{get_elem?}
use Rattle.atomic_table.specs.Table as table
use Rattle.lq_device.specs.Station.{StationState}
use Rattle.lq_table.proofs.KnownPackets.{knows_held}
use Rattle.lq_table.proofs.Loads.{also}
use Rattle.lq_table.proofs.SoleFacts.{knows_account}
use Rattle.lq_table.proofs.Ends.{rests}

seen_there : (b : ℕ) (ps : List Packet) → b < 3 → band_at (seen_band b ps) b ≡ ps
seen_there zero ps h = refl
seen_there (suc zero) ps h = refl
seen_there (suc (suc zero)) ps h = refl
seen_there (suc (suc (suc b))) ps h = absurd (omega arith)

none_fits : (q : Qdisc) (b : ℕ) (second : Bool) (s : Seat) → b < 3 → band_at q b ≡ [] → Fits q (seen_band b []) Plain (Scan b second) s q
none_fits q b second s below e = record {
  may = refl;
  seat = ap (λ (ps : List Packet). (scan ps b second (seen_band b []) s).seat) (seen_there b [] below) ∙ sym (ap (λ (ps : List Packet). (scan ps b second q s).seat) e);
  words = ap (λ (ps : List Packet). (scan ps b second q s).qdisc) e;
}

one_fits : (q : Qdisc) (b : ℕ) (second : Bool) (s : Seat) (p : Packet) (rest : List Packet) → b < 3 → band_at q b ≡ p ∷ rest → Fits q (seen_band b (p ∷ [])) Plain (Scan b second) s (record q { bands = set q.bands b rest })
one_fits q b second s p rest below e = record {
  may = refl;
  seat = ap (λ (ps : List Packet). (scan ps b second (seen_band b (p ∷ [])) s).seat) (seen_there b (p ∷ []) below) ∙ sym (ap (λ (ps : List Packet). (scan ps b second q s).seat) e);
  words = ap (λ (ps : List Packet). (scan ps b second q s).qdisc) e;
}

module _ (infos : List Info) (xoff : List ℕ) (past : List Event) (d h : HolderPart) where
  after-scan : (b : ℕ) (second : Bool) → b < 3 → Holder infos xoff past d (Scan b second) h → Holder infos xoff (Empty b ∷ past) d (after_band b second) h
  after-scan zero second below x = record { is = x.is; in_hand = x.in_hand; looked = λ c l. looked zero x.looked c l; stopping = tt; alive = λ _. x.alive refl }
    where
      looked : (b : ℕ) → ((c : ℕ) → c < b → was_empty c past ≡ true) → (c : ℕ) → c < b + 1 → was_empty c (Empty b ∷ past) ≡ true
      looked b old c l = ⊎_elim (λ (e : b ≡ c). or_left (eqb b c) (was_empty c past) (eq-eqb b c e)) (λ (n : b ≢ c). or_right (eqb b c) (was_empty c past) (old c (omega arith))) (cases_eq b c)
  after-scan (suc zero) second below x = record { is = x.is; in_hand = x.in_hand; looked = λ c l. looked 1 x.looked c l; stopping = tt; alive = λ _. x.alive refl }
    where
      looked : (b : ℕ) → ((c : ℕ) → c < b → was_empty c past ≡ true) → (c : ℕ) → c < b + 1 → was_empty c (Empty b ∷ past) ≡ true
      looked b old c l = ⊎_elim (λ (e : b ≡ c). or_left (eqb b c) (was_empty c past) (eq-eqb b c e)) (λ (n : b ≢ c). or_right (eqb b c) (was_empty c past) (old c (omega arith))) (cases_eq b c)
  after-scan (suc (suc zero)) true below x = record { is = x.is; in_hand = x.in_hand; looked = λ c l. absurd (omega arith); stopping = tt; alive = λ _. x.alive refl }
  after-scan (suc (suc zero)) false below x = record { is = x.is; in_hand = x.in_hand; looked = λ c l. absurd (omega arith); stopping = tt; alive = λ _. x.alive refl }
  after-scan (suc (suc (suc b))) second below x = absurd (omega arith)

module _ (k : Setup) where
  pub sees_head : (slots id : ℕ) (m : Sat) (b i : ℕ) (second : Bool) → b < 3 → i < k.max_len → m.0.place.position ≡ Scan b second → m.0.holder.resizing ≡ None
      → is_emptying m.0.holder.size (at b m.0.holder.ends) ≡ false → i ≡ (at b m.0.holder.ends).head → 0 < m.0.share.shares → length k.infos ≤ 1000000
      → Allows (Rule k) slots id m (slot_word k b i) (λ x. x) (head_slot_told b (step slots (slot_word k b i) 0 0 none) m)
  sees_head slots id m b i second below inside position no_resizing rests is_head some_share few s r0 deep here small =
      let v : View = m.0 in let r = calm_rule k s r0 id v here (lt-ltb 0 v.share.shares some_share) (ap may_be_inside position) (ap is_control position) in let p = r.parts in let g = r.state in let a = account k g in let q = r.qdisc in let W = words_of k s.words in let live = lt-ltb 0 v.share.shares some_share in
      let D : HolderPart = holders g a W.size in let holds : holds_lock v.place.position ≡ true = ap holds_lock position in
      let at_scan : Holder k.infos W.xoff g.past D (Scan b second) v.holder = subst (λ (z : Position). Holder k.infos W.xoff g.past D z v.holder) position (p.station.lends.knows id v here live holds) in
      let calm : g.resizing ≡ None = sym (ap (λ (x : HolderPart). x.resizing) at_scan.is) ∙ no_resizing in let old = (p.station.rings.running calm).ring b below in
      let c : Ends = at b g.ends in let c_is : at b v.holder.ends ≡ c = ap (λ (x : HolderPart). at b x.ends) at_scan.is in
      let f : ℕ = get_or s.words (slot_word k b i) 0 in
      let word : f ≡ get_or (at b W.slots) c.head 0 = slot_of k s.words b i below inside ∙ ap (λ (x : ℕ). get_or (at b W.slots) x 0) (is_head ∙ ap (λ (x : Ends). x.head) c_is) in
      let rest : is_emptying W.size c ≡ false = subst (λ (z : ℕ × Ends). is_emptying z.0 z.1 ≡ false) (λ j. ((at_scan.is j).size, c_is j)) rests in
      let no_hand : a.hand ≡ None = map_none (machine_packet k.infos) a.hand (sym at_scan.in_hand) in
      let no_slot : a.slot ≡ None = slot_free k.infos s.views id v here live q a a.bands p.machine.invariant p.station.ties (ap needs_slot position) in
      let about : v.share.about ≡ k = p.seats.shares.about id v here live in
      dite (ℕ_discrete f 0)
      (λ empty_. let w : View = head_slot_view_empty b v in let e : Event = Empty b in let g' : State = record g { past = e ∷ g.past } in
      let may = finds_none _ _ _ _ _ _ old rest (sym word ∙ empty_) in
      let fits : Fits q (seen_band b []) Plain v.place.position v.place q = subst (λ (z : Position). Fits q (seen_band b []) Plain z v.place q) (sym position) (none_fits q b second v.place below (band_tied k.infos q a a.bands p.station.ties b below ∙ ap (machine_packets k.infos) may)) in
      let mach = plays k s r id v w here live Plain (seen_band b []) q fits refl refl refl refl in
      let seat : w.place.position ≡ after_band b second = ap (λ (z : Position). (step_at z Plain (seen_band b []) v.place).seat.position) position ∙ ap (λ (ps : List Packet). (scan ps b second (seen_band b []) v.place).seat.position) (seen_there b [] below) in (
        w,
        keeps,
        tt,
        rule_after k s r (slot_word k b i) f id s.homes r.home w W q g' a r.deep (set_back k s.words (slot_word k b i)) refl record {
          seats = seats_heard k s r id v w here live e q g' a refl refl refl refl refl tt (λ _. refl) (λ e1 e2. (ap (λ (z : Qdisc). (step_at v.place.position Plain z v.place).qdisc) e1 ∙ fits.words, ap (λ (z : State). record z { past = e ∷ z.past }) e2));
          machine = mach;
          station = station_kept k s r id v w here W r.home q g' a refl (λ _. refl) refl (λ _ _ l h. (l, held_after k s r id v w here live Plain (seen_band b []) q fits refl h))
              p.station.stands
              p.station.ties
              (lends_held k s r id v here live holds w q.locked W.xoff (e ∷ g.past) D refl
              (subst (λ (z : Position). Holder k.infos W.xoff (e ∷ g.past) D z v.holder) (sym seat) (after-scan k.infos W.xoff g.past D v.holder b second below at_scan)))
              p.station.stops;
          account = account_heard k s r e refl may tt tt tt (none_left _ _);
        },
        ((λ _. refl), (λ no_. absurd (no_ empty_)), omega arith),
      ))
      (λ full. let n : ℕ = f - 1 in let w : View = head_slot_view b n v in let e : Event = Take b in let ends' : Three Ends = put b (taken_on c) g.ends in let g' : State = record g { past = e ∷ g.past; ends = ends' } in
      let both = takes _ _ _ _ _ _ old rest (omega arith) in
      let first_is : slice_get (held_in a b) 0 ≡ Some n = both.1 ∙ ap (λ (x : ℕ). Some (x - 1)) (sym word) in
      let may : MayTake g.past a b = record { one_of_three = below; hand_empty = no_hand; slot_empty = no_slot; something = slice_get_within (held_in a b) 0 n first_is; lower_empty = at_scan.looked } in
      let packet = p.account.accounted.brought.packets n (p.account.accounted.brought.lines b n (drop-in (a.bands b).taken (a.bands b).line n (contains_get (held_in a b) 0 n first_is))) in let known : n < length k.infos = packet.0 in
      let x : Packet = machine_packet v.share.about.infos n in let x_is : x ≡ machine_packet k.infos n = ap (λ (z : Setup). machine_packet z.infos n) about in
      let left : List Packet = machine_packets k.infos (drop 1 (held_in a b)) in let q' : Qdisc = record q { bands = set q.bands b left } in
      let line : band_at q b ≡ x ∷ left = band_tied k.infos q a a.bands p.station.ties b below ∙ (ap (machine_packets k.infos) (first_of (held_in a b) n first_is) ∙ ap (λ (y : Packet). y ∷ left) (sym x_is)) in
      let seen : Qdisc = seen_band b (x ∷ []) in
      let fits : Fits q seen Plain v.place.position v.place q' = subst (λ (z : Position). Fits q seen Plain z v.place q') (sym position) (one_fits q b second v.place x left below line) in
      let mach = plays k s r id v w here live Plain seen q' fits refl refl refl refl in
      let seat : w.place.position ≡ Gate (machine_packet k.infos n) false = ap (λ (z : Position). (step_at z Plain seen v.place).seat.position) position ∙ (ap (λ (ps : List Packet). (scan ps b second seen v.place).seat.position) (seen_there b (x ∷ []) below) ∙ ap (λ (y : Packet). Gate y false) x_is) in
      let D' : HolderPart = holders g' (after e a) W.size in (
        w,
        keeps,
        tt,
        rule_after k s r (slot_word k b i) f id s.homes r.home w W q' g' (after e a) r.deep (set_back k s.words (slot_word k b i)) refl record {
          seats = seats_heard k s r id v w here live e q' g' (after e a) refl refl refl refl refl tt (λ _. refl) (λ e1 e2. (ap (λ (z : Qdisc). (step_at v.place.position Plain z v.place).qdisc) e1 ∙ fits.words, ap (λ (z : State). record z { past = e ∷ z.past; ends = put b (taken_on (at b z.ends)) z.ends }) e2));
          machine = mach;
          station = record {
            stands = stands_same p.station.stands refl;
            ties = record {
              bands_are = ap (λ (bs : List (List Packet)). set bs b left) p.station.ties.bands_are ∙ band_set k.infos a.bands b (taken_by (a.bands b) 1) left below (ap (machine_packets k.infos) (sym (held_taken (a.bands b))));
              slot = p.station.ties.slot;
              len = p.station.ties.len;
              down = p.station.ties.down;
            };
            lends = lends_held k s r id v here live holds w q.locked W.xoff (e ∷ g.past) D' refl
                (subst (λ (z : Position). Holder k.infos W.xoff (e ∷ g.past) D' z w.holder) (sym seat) record {
                  is = λ j. record (at_scan.is j) { ends = put b (taken_on (at b (at_scan.is j).ends)) (at_scan.is j).ends; hand = sym first_is j };
                  in_hand = ap (option_map (machine_packet k.infos)) (sym first_is);
                  looked = λ _ l. absurd (omega arith);
                  stopping = tt;
                  alive = λ _. at_scan.alive refl;
                });
            fates = fates_same k s.views id v w here W.fates a (after e a) g.resizing None p.station.fates refl (λ _. refl);
            rings = rings_step k s.views id v w here k.max_len W.size W.producers W.producers W.slots W.slots a.len a.bands (after e a).bands g.ends ends' g.resizing b p.station.rings calm
                (subst (λ (z : List Lock × Band × Ends). IsRing W.size (at b W.slots) (at b W.producers) z.0 z.1 z.2)
                (λ j. (sym (set_again (locks_at b s.views) id (at b v.locks) (locks_here k s.views id v w here b)) j, sym (with_at_same b (taken_by (a.bands b) 1) a.bands) j, sym (at_put_same b (taken_on c) g.ends) j)) both.0)
                (λ y h no_. (refl, refl, refl, with_at_other b y (taken_by (a.bands b) 1) a.bands no_, at_put_other b y (taken_on c) g.ends below h no_));
            stops = p.station.stops;
          };
          account = account_heard k s r e refl may tt tt tt (none_left _ _);
        },
        ((λ empty_. absurd (full empty_)), (λ _. refl), omega arith),
      ))

module _ (k : Setup) (slots id : ℕ) (m : Sat) where
  -- what stands in the slot at the head of a band whose consumer rests
  sees_first : (b i : ℕ) (second : Bool) → b < 3 → i < k.max_len → m.0.place.position ≡ Scan b second → m.0.holder.resizing ≡ None → is_emptying m.0.holder.size (at b m.0.holder.ends) ≡ false → i ≡ (at b m.0.holder.ends).head → 0 < m.0.share.shares
      → (s : table.State (Option StationState) View) → Rule k s → get_elem? s.views id ≡ some m.0 → TellsHead b m.0 (get_or s.words (slot_word k b i) 0)
  sees_first b i second below inside position no_resizing rests is_head some_share s r0 here =
      let v : View = m.0 in let live = lt-ltb 0 v.share.shares some_share in let r = calm_rule k s r0 id v here live (ap may_be_inside position) (ap is_control position) in let p = r.parts in let g = r.state in let a = account k g in let W = words_of k s.words in
      let at_scan = p.station.lends.knows id v here live (ap holds_lock position) in
      let calm : g.resizing ≡ None = sym (ap (λ (x : HolderPart). x.resizing) at_scan.is) ∙ no_resizing in let old = (p.station.rings.running calm).ring b below in
      let c : Ends = at b g.ends in let c_is : at b v.holder.ends ≡ c = ap (λ (x : HolderPart). at b x.ends) at_scan.is in
      let f : ℕ = get_or s.words (slot_word k b i) 0 in
      let word : f ≡ get_or (at b W.slots) c.head 0 = slot_of k s.words b i below inside ∙ ap (λ (x : ℕ). get_or (at b W.slots) x 0) (is_head ∙ ap (λ (x : Ends). x.head) c_is) in
      let rest : is_emptying W.size c ≡ false = subst (λ (z : ℕ × Ends). is_emptying z.0 z.1 ≡ false) (λ j. ((at_scan.is j).size, c_is j)) rests in
      let first : f ≢ 0 → slice_get (held_in a b) 0 ≡ Some (f - 1) = λ other. (takes _ _ _ _ _ _ old rest (let w = word in omega (arith, other, word))).1 ∙ ap (λ (z : ℕ). Some (z - 1)) (sym word) in (
        (λ sole. ap (λ (y : Account). slice_get (held_in y b) 0) (knows_account k s r id v here some_share sole) ∙ dite (ℕ_discrete f 0)
            (λ zero_. ap (λ (xs : List ℕ). slice_get xs 0) (finds_none _ _ _ _ _ _ old rest (sym word ∙ zero_)) ∙ sym (ap (λ (z : ℕ). if z == 0 then None else Some (z - 1)) zero_))
            (λ other. first other ∙ sym (ap (λ (z : Bool). if z then None else Some (f - 1)) (ne_eqb f 0 other)))),
        (λ other. knows_held k s r id v here live b (f - 1) (first other)),
      )

  pub sees_head_sole : (b i : ℕ) (second : Bool) → b < 3 → i < k.max_len → m.0.place.position ≡ Scan b second → m.0.holder.resizing ≡ None → is_emptying m.0.holder.size (at b m.0.holder.ends) ≡ false → i ≡ (at b m.0.holder.ends).head → 0 < m.0.share.shares → length k.infos ≤ 1000000
      → Allows (Rule k) slots id m (slot_word k b i) (λ x. x) (head_slot_told_all b (step slots (slot_word k b i) 0 0 none) m)
  sees_head_sole b i second below inside position no_resizing rests is_head some_share few = also k slots id m (slot_word k b i) (λ x. x) (head_slot_told b (step slots (slot_word k b i) 0 0 none) m) (TellsHead b m.0)
      (sees_first b i second below inside position no_resizing rests is_head some_share) (sees_head k slots id m b i second below inside position no_resizing rests is_head some_share few)
