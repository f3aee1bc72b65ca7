-- `check` keeps the rule of the table.
use Rattle.std.proofs.Common.{◌≡◌, ◌≢◌, ℕ, ◌+◌, ◌*◌, ◌<◌, true, false, true≢false, ◌∷◌, refl, sym, ap, ◌∙◌, subst, ⊎_elim, Option, Some, None, get_or}
use Rattle.std.proofs.lemmas.Bool.{lt-ltb}
use Rattle.std.proofs.lemmas.Option.{same_Some}
use mathlib.Core.Option.{none}
use Rattle.atomic_table.specs.Table.{step, Allows, keeps}
use Rattle.lq_model.specs.Account.{Event, Refuse, after}
use Rattle.lq_model.specs.Legal.{MayCome, IsNew}
use Rattle.lq_model.specs.declared.fate.Fate.{Fate}
use Rattle.lq_model.specs.declared.fate.Fate.TheVariants as fate
use Rattle.lq_model.specs.declared.machine.Answer.TheVariants.{Plain}
use Rattle.lq_model.specs.declared.machine.Packet.{Packet}
use Rattle.lq_model.specs.declared.machine.Position.{Position}
use Rattle.lq_model.specs.declared.machine.Position.TheVariants.{Check}
use Rattle.lq_model.specs.declared.machine.Seat.{Seat}
use Rattle.lq_model.specs.Machine.{Qdisc, state_word}
use Rattle.lq_model.specs.Steps.{step_at}
use Rattle.lq_model.specs.Positions.{holds_lock}
use Rattle.lq_table.specs.Places.{state_place}
use Rattle.lq_table.specs.Views.{View, Setup, State, HolderPart, machine_packet}
use Rattle.lq_table.specs.Rule.{words_of, account, holders, event_word, bands_now, Rule}
use Rattle.lq_table.specs.Moves.{Sat, seen_by, is_set}
use Rattle.lq_table.specs.States.{seen_state, load_state_view, check_view_refused}
use Rattle.lq_table.proofs.shared.Shared.check.Invariants.{check_told, SeesChecked, check_told_all}
use Rattle.lq_table.proofs.ByName.{set_back}
use Rattle.lq_table.proofs.RecheckKept.{bits_only, two_ways, seen}
use Rattle.lq_table.proofs.BeginPurgeKept.{some_of, bits_small}
use Rattle.lq_table.proofs.Quiet.{quiet}
use Rattle.lq_table.proofs.FatesKept.{fates_owed}
use Rattle.lq_table.proofs.Accounts.{fresh_is_new, with_at_same, with_at_other}
use Rattle.lq_table.proofs.Frames.{same_xoff, rings_same, rule_after, Fits, plays, held_before, Later, lends_step, leaves_same}
use Rattle.lq_table.proofs.SeatFrames.{seats_brought}
use Rattle.lq_table.proofs.StationFrames.{stands_same, ties_same, account_heard}
use Rattle.lq_band_laws.specs.Three.{at}
use Rattle.lq_table.proofs.Loads.{also}
use Rattle.lq_table.proofs.SoleFacts.{sees_down, sees_state}

check_fits : (base q : Qdisc) (p : Packet) (s : Seat) → Fits q (bits_only base q) Plain (Check p) s q
check_fits base q p s = record { may = refl; seat = refl; words = refl }

module _ (k : Setup) where
  -- the first look at the state; it asks for no purge to be none
  pub checks : (slots id n : ℕ) (m : Sat) → m.0.place.position ≡ Check (machine_packet k.infos n) → m.0.packets.fresh ≡ Some n → m.0.packets.owed ≡ None → 0 < m.0.share.shares
      → Allows (Rule k) slots id m state_place (λ x. x) (check_told n (step slots state_place 0 0 none) m)
  checks slots id n m position is_fresh no_debts some_share s r deep here small =
      let v : View = m.0 in let p = r.parts in let g = r.state in let a = account k g in let q = r.qdisc in let W = words_of k s.words in let live = lt-ltb 0 v.share.shares some_share in
      let D : HolderPart = holders g a W.size in let x : Packet = machine_packet k.infos n in let f : ℕ = get_or s.words state_place 0 in let sees : Qdisc = seen_state (seen_by v) v.share.about.bypass f in
      let same : sees ≡ bits_only (seen_by v) q = seen k s r (seen_by v) v.share.about.bypass (ap (λ (z : Setup). z.bypass) (p.seats.shares.about id v here live)) in
      let fits : Fits q sees Plain v.place.position v.place q = subst (λ (z : Qdisc × Position). Fits q z.0 Plain z.1 v.place q) (λ j. (sym same j, sym position j)) (check_fits (seen_by v) q x v.place) in
      let free : holds_lock v.place.position ≡ false = ap holds_lock position in
      ⊎_elim
      (λ (closed_ : is_set 2 f ≡ true). let down = some_of a.down (sym p.station.ties.down ∙ (ap (λ (z : Qdisc). z.deactivated) (sym same) ∙ closed_)) in let e : Event = Refuse n down.0 in
      let w : View = check_view_refused n down.0 f v in let g' : State = record g { past = e ∷ g.past } in let y : Fate = fate.Refused down.0 in
      let mach = plays k s r id v w here live Plain sees q fits refl refl refl refl in
      let know = p.seats.packets id v here in let mine = know.fresh n is_fresh in let new : IsNew k.infos k.station a n = fresh_is_new k g.past a n p.account.accounted.brought mine.1 in
      let may : MayCome k.infos k.station g.past a e = (new, down.1) in
      let later : Later g.past (e ∷ g.past) = record { looked = λ _ h. h; sends = λ h. h; hangs = λ h. h } in
      let rest : (l : ℕ) → l ≢ n → (after e a).fates l ≡ a.fates l = λ l apart. with_at_other n l (Some y) a.fates apart in
      let now : (after e a).fates n ≡ Some y = with_at_same n (Some y) a.fates in (
        w,
        keeps,
        tt,
        rule_after k s r state_place f id s.homes r.home w W q g' (after e a) r.deep (set_back k s.words state_place) refl record {
          seats = seats_brought k s r id v w here live e n q g' refl refl refl is_fresh refl refl refl tt
              (λ l z h. (let is : Some (n, y) ≡ Some (l, z) = h in let both = same_Some _ _ is in subst (λ (t : ℕ × Fate). (after e a).fates t.0 ≡ Some t.1) both now)) rest (λ e1 e2. (ap (λ (z : Qdisc). (step_at v.place.position Plain z v.place).qdisc) e1 ∙ fits.words, ap (λ (z : State). record z { past = e ∷ z.past }) e2));
          machine = mach;
          station = record {
            stands = stands_same p.station.stands refl;
            ties = ties_same p.station.ties refl refl;
            lends = lends_step k.infos W.xoff W.xoff g.past (e ∷ g.past) later same_xoff q.locked r.home s.views D id v w here p.station.lends (λ _ h. absurd (true≢false (sym (held_before k s r id v w here live Plain sees q fits refl h) ∙ free)));
            fates = fates_owed k s.views id v w here W.fates a (after e a) g.resizing g.left p.station.fates n y rest now new.no_fate no_debts refl;
            rings = rings_same k s.views id v w here k.max_len W.size W.producers W.slots a.len (bands_now g.left a.bands) g.ends g.resizing p.station.rings refl (λ _ _ _ h. absurd (true≢false (sym h ∙ free)));
            stops = p.station.stops;
          };
          account = account_heard k s r e refl may mine.1.in_turn tt tt (leaves_same g.left q.purge q.purge a (after e a) p.account.leaves refl refl);
        },
        ((λ open_. absurd (true≢false (sym closed_ ∙ open_))), (λ _. (down.0, state_word q, bits_small q, p.account.accounted.down down.0 down.1, p.station.stands.state ∙ ap (λ (o : Option ℕ). state_word q + 256 * event_word o) down.1, refl))),
      ))
      (λ (open_ : is_set 2 f ≡ false). (
        load_state_view f v,
        keeps,
        tt,
        quiet k s r state_place f id f W.inside v Plain sees q here live fits (record { bands = refl; slot = refl; xoff = refl; len = refl; deactivated = refl; locked = refl; purge = refl; phase = refl }) (set_back k s.words state_place) p.station.stands
            (λ h. absurd (true≢false (sym h ∙ free))),
        ((λ _. refl), (λ closed_. absurd (true≢false (sym closed_ ∙ open_)))),
      ))
      (two_ways (is_set 2 f))

module _ (k : Setup) (slots id : ℕ) (m : Sat) where
  pub checks_sole : (n : ℕ) → m.0.place.position ≡ Check (machine_packet k.infos n) → m.0.packets.fresh ≡ Some n → m.0.packets.owed ≡ None → 0 < m.0.share.shares → Allows (Rule k) slots id m state_place (λ x. x) (check_told_all n (step slots state_place 0 0 none) m)
  checks_sole n at fresh owed some_share = also k slots id m state_place (λ x. x) (check_told n (step slots state_place 0 0 none) m) (SeesChecked m.0) (λ s r here. (λ sole. sees_state k s r id m.0 here some_share sole, λ first. sees_down k s r id m.0 here first)) (checks k slots id n m at fresh owed some_share)
