-- `try_lock` keeps the rule of the table.
use Rattle.std.proofs.Common.{◌≡◌, ◌≢◌, ℕ, ◌<◌, Bool, true, false, true≢false, [], ◌∷◌, set, get_or, refl, sym, ap, ◌∙◌, subst, arith, Some, eqb, eq-eqb, ne_eqb}
use Rattle.std.specs.Prelude.{if◌then◌else◌}
use Rattle.std.specs.Option.{option_map}
use Rattle.std.proofs.lemmas.Bool.{false≢true, lt-ltb}
use mathlib.Core.Logic.{dite}
use mathlib.Core.Option.{none}
use native.Mathlib.Decide.{ℕ_discrete}
use lib.ListN.{get_elem?}
use prog.Atomic.{either}
use Rattle.atomic_table.specs.Table.{step, Allows, keeps, takes, stepped as table_stepped}
use Rattle.lq_model.specs.declared.machine.Answer.TheVariants.{Plain}
use Rattle.lq_model.specs.declared.machine.Position.{Position}
use Rattle.lq_model.specs.declared.machine.Position.TheVariants.{Control, Try1, Try2}
use Rattle.lq_model.specs.Machine.{Qdisc, bit}
use Rattle.lq_model.specs.Control.{is_control}
use Rattle.lq_table.proofs.Loads.{told_as, also}
use Rattle.lq_model.specs.Steps.{step_at}
use Rattle.lq_band_laws.proofs.Seats.{each_same}
use Rattle.lq_table.specs.Places.{lock_place}
use Rattle.lq_table.specs.Views.{View, Setup, HolderPart, machine_packet}
use Rattle.lq_table.specs.Rule.{words_of, account, holders, shown, KnowsHolder, Rule, units_of}
use Rattle.lq_table.proofs.UnitsKept.{units_trail}
use Rattle.lq_table.specs.Locks.{try_lock_view_in_call, try_lock_view_in_control, try_lock_at, seen_lock, try_lock_view, look_lock_view}
use Rattle.lq_table.specs.Moves.{Sat, seen_by}
use Rattle.lq_table.proofs.ByName.{set_lock}
use Rattle.lq_table.proofs.Shows.{Shows, shows_queues, shows_slot}
use Rattle.lq_table.proofs.SoleFacts.{knows_holders, sees_lock}
use Rattle.lq_table.proofs.KnownPackets.{knows_slot}
use Rattle.lq_table.proofs.StopsKept.{free_none, stops_moved}
use Rattle.lq_table.proofs.Frames.{rule_after, plays}
use Rattle.lq_table.proofs.SeatFrames.{seats_same}
use Rattle.lq_table.proofs.StationFrames.{station_kept, ties_same}
use Rattle.lq_band_laws.specs.Three.{at}
use Rattle.lq_table.specs.Sees.{IsSole}
use Rattle.lq_table.proofs.shared.Shared.try_lock.Invariants.{try_lock_told_all, try_lock_told_as, try_lock_told}
use Rattle.lq_table.proofs.LocksKept.{got_fits, tries_in_call, try_plain, fails_in_call}
use Rattle.lq_table.proofs.shared.Shared.try_lock.Answers.Control.{bit_zero, taken, control_takes}

module _ (k : Setup) where
  tries : (slots id : ℕ) (m : Sat) → tries_in_call m.0.place.position ≡ true → 0 < m.0.share.shares
      → Allows (Rule k) slots id m lock_place (λ n. either (eqb n 0) 1 n) (try_lock_told_as try_lock_view_in_call (step slots lock_place 0 1 none) m)
  tries slots id m here some_share s r deep at_id small =
      let v : View = m.0 in let q = r.qdisc in let p = r.parts in let g = r.state in let a = account k g in let W = words_of k s.words in let n : ℕ = get_or s.words lock_place 0 in let live = lt-ltb 0 v.share.shares some_share in
      let D : HolderPart = holders g a W.size in let word : n ≡ bit q.locked = p.station.stands.lock in let base : Qdisc = seen_by (record v { holder = D }) in let shows : Shows q base = record { queues = shows_queues k s r id v at_id live 0; slot = shows_slot k s r id v at_id live D refl } in let plain = try_plain base v.place.position v.place here in dite (ℕ_discrete n 0)
      (λ zero. let free : q.locked ≡ false = bit_zero q.locked (sym word ∙ zero) in let w : View = try_lock_view_in_call D v in let q' : Qdisc = record q { locked = true } in let position = v.place.position in
      let fits = got_fits q base shows v.place free position here in let home = p.station.lends.home free in let mach = plays k s r id v w at_id live Plain (seen_lock base false) q' fits refl refl refl refl in (
        w,
        takes 0 (Some (shown D)),
        ap (λ hs. get_elem? hs 0) (r.deep ∙ ap (λ h. h ∷ []) home.there),
        subst (λ b. Rule k (table_stepped s lock_place (either b 1 n) id m.1 w (takes 0 (Some (shown D))))) (sym (eq-eqb n 0 zero))
            (rule_after k s r lock_place 1 id _ none w (record W { lock = 1 }) q' g a (ap (λ hs. Rattle.std.proofs.Common.set hs 0 none) r.deep) (set_lock k s.words 1 (let wide = r.wide in omega arith)) refl record {
              seats = seats_same k s r id v w at_id live q' g refl refl refl (λ e1 e2. (ap (λ (z : Qdisc). (step_at v.place.position Plain z v.place).qdisc) e1 ∙ fits.words, e2));
              machine = mach;
              station = station_kept k s r id v w at_id (record W { lock = 1 }) none q' g a refl (λ _. refl) refl (λ _ _ _ h. absurd (true≢false (sym h ∙ plain.0)))
                  (record { state = p.station.stands.state; lock = refl; xoff = p.station.stands.xoff; inside = p.station.stands.inside; bypass = p.station.stands.bypass })
                  (ties_same p.station.ties refl refl)
                  (record {
                    home = λ e. absurd (true≢false e);
                    away = λ _. refl;
                    knows = each_same (KnowsHolder k.infos W.xoff g.past D) s.views id w p.station.lends.knows (λ _ _. record {
                      is = refl;
                      in_hand = plain.1.hand ∙ sym (ap (option_map (machine_packet k.infos)) home.hand_empty);
                      looked = λ b l. absurd (let z = plain.1.looked in omega arith);
                      stopping = plain.1.stopping k.infos W.xoff g.past D.last;
                      alive = λ _. home.alive;
                    });
                  })
                  (stops_moved q.phase q.locked q.xoff a.stops g.shut q.phase true q.xoff (λ e. e) (λ _. refl) refl p.station.stops);
              account = p.account;
            }),
        ((λ _. (D, refl, home.resting, p.station.rings.positive, home.hand_empty, home.calm, free_none q.phase q.locked q.xoff a.stops g.shut free p.station.stops, λ all told. knows_holders k s r id v at_id some_share (all, told) W.size, knows_slot k s r id v at_id live, λ first. sym (ap units_of (p.seats.trails.knows id v at_id first) ∙ units_trail k.infos g.past))), λ busy. absurd (busy zero)),
      ))
      (λ busy. (
        look_lock_view v,
        keeps,
        tt,
        subst (λ b. Rule k (table_stepped s lock_place (either b 1 n) id m.1 (look_lock_view v) keeps)) (sym (ne_eqb n 0 busy)) (fails_in_call k id m some_share s r at_id busy here),
        ((λ zero. absurd (busy zero)), λ _. refl),
      ))

  -- the lock is tried by a call, or by control
  tries_all : (slots id : ℕ) (m : Sat) → try_lock_at m.0.place.position ≡ true → 0 < m.0.share.shares
      → Allows (Rule k) slots id m lock_place (λ n. either (eqb n 0) 1 n) (try_lock_told (step slots lock_place 0 1 none) m)
  tries_all slots id m at some_share = by m.0.place.position refl at
    where
      Goal : (HolderPart → View → View) → Type 0
      Goal g = Allows (Rule k) slots id m lock_place (λ n. either (eqb n 0) 1 n) (try_lock_told_as g (step slots lock_place 0 1 none) m)

      called : (y : Position) → m.0.place.position ≡ y → is_control y ≡ false → tries_in_call y ≡ true → Goal try_lock_view
      called y is free h = told_as k slots id m lock_place (λ n. either (eqb n 0) 1 n) (try_lock_told_as try_lock_view_in_call (step slots lock_place 0 1 none) m) (try_lock_told (step slots lock_place 0 1 none) m)
          (λ x m' z. ((λ zero_. let t = z.0 zero_ in (t.0, t.1 ∙ (λ j. (if sym (ap is_control is ∙ free) j then try_lock_view_in_control t.0 m.0 else try_lock_view_in_call t.0 m.0, (0, Some (shown t.0)) ∷ m.1)), t.2, t.3, t.4, t.5, t.6, t.7, t.8, t.9)), z.1))
          (tries slots id m (ap tries_in_call is ∙ h) some_share)

      by : (y : Position) → m.0.place.position ≡ y → try_lock_at y ≡ true → Goal try_lock_view
      by (Try1 attempt) is h = called (Try1 attempt) is refl refl
      by (Try2 attempt) is h = called (Try2 attempt) is refl refl
      by (Control true) is h = absurd (true≢false (sym h))
      by (Control false) is h = told_as k slots id m lock_place (λ n. either (eqb n 0) 1 n) (taken (step slots lock_place 0 1 none) m) (try_lock_told (step slots lock_place 0 1 none) m)
          (λ x m' z. (
            (λ zero_. let t = z.0 zero_ in (t.0, t.1 ∙ (λ j. (if sym (ap is_control is) j then try_lock_view_in_control t.0 m.0 else try_lock_view_in_call t.0 m.0, (0, Some (shown t.0)) ∷ m.1)), t.2, t.3, t.4, t.5, t.6, t.7, t.8, t.9)),
            (λ busy. z.1 busy ∙ (ap (λ (y : Position). (record m.0 { place = record m.0.place { position = y } }, m.1)) is ∙ ap (λ (y : Position). (
              record m.0 {
                place = (step_at y Plain (seen_lock (seen_by m.0) true) m.0.place).seat;
                whole = record m.0.whole { qdisc = (step_at y Plain m.0.whole.qdisc m.0.place).qdisc };
              },
              m.1,
            )) (sym is))),
          ))
          (control_takes k slots id m is some_share)
      by _ is h = absurd (false≢true h)

module _ (k : Setup) (slots id : ℕ) (m : Sat) where
  pub tries_sole : try_lock_at m.0.place.position ≡ true → 0 < m.0.share.shares → Allows (Rule k) slots id m lock_place (λ n. either (eqb n 0) 1 n) (try_lock_told_all (step slots lock_place 0 1 none) m)
  tries_sole at some_share = also k slots id m lock_place (λ n. either (eqb n 0) 1 n) (try_lock_told (step slots lock_place 0 1 none) m) (λ x. IsSole m.0 → x ≡ bit m.0.whole.qdisc.locked) (λ s r here sole. sees_lock k s r id m.0 here some_share sole) (tries_all k slots id m at some_share)
