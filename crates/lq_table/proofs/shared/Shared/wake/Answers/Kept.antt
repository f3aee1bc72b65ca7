-- `wake` keeps the rule of the table.
use Rattle.std.proofs.Common.{true, Option, Some, None, get_or-set_same, ◌≡◌, ℕ, Bool, set, get_or-set_other, ◌<◌, false, true≢false, eqb, List, ◌∷◌, ◌++◌, get_or, refl, sym, ap, ◌∙◌, subst, arith, eq-eqb, ne_eqb}
use Rattle.std.specs.Prelude.{if◌then◌else◌, ◌==◌, slice_set, slice_index}
use Rattle.std.proofs.lemmas.Bool.{lt-ltb, ltb-true}
use Rattle.std.proofs.lemmas.List.{length-set}
use mathlib.Core.Logic.{dite}
use mathlib.Core.Option.{some, none, some-injective}
use lib.ListN.{get_elem?}
use Rattle.atomic_table.specs.Table as table
use Rattle.lq_device.specs.Station.{StationState}
use Rattle.lq_band_laws.proofs.Seats.{total_two, each_step}
use Rattle.lq_table.proofs.ClearDeactivatedKept.{one_of, both_true}
use Rattle.lq_table.proofs.StopsKept.{agree, none_agree, map_set}
use native.Mathlib.Decide.{ℕ_discrete}
use prog.Atomic.{either}
use Rattle.atomic_table.specs.Table.{step, Allows, keeps, stepped as table_stepped}
use Rattle.lq_model.specs.declared.machine.Answer.TheVariants.{Plain}
use Rattle.lq_model.specs.declared.machine.Beginning.TheVariants.{Wakes}
use Rattle.lq_model.specs.declared.machine.Position.TheVariants.{Idle, Sched, Wake as AtWake}
use Rattle.lq_model.specs.declared.machine.Seat.{Seat}
use Rattle.lq_model.specs.Account.{Event, Wake, after}
use Rattle.lq_model.specs.Machine.{Qdisc, bit}
use Rattle.lq_model.specs.Steps.{goes_to}
use Rattle.lq_model.specs.Positions.{holds_lock}
use Rattle.lq_model.specs.Kept.{IsInductive}
use Rattle.lq_table.specs.Views.{View, Setup, State, HolderPart}
use Rattle.lq_table.specs.Rule.{is_live, holding, Opening, AreStops, words_of, account, holders, xoff_word, Rule}
use Rattle.lq_table.specs.Moves.{Sat}
use Rattle.lq_table.specs.Stops.{wake_view}
use Rattle.lq_table.proofs.ByName.{set_xoff, xoff_of, xoff_within, xoff_long}
use Rattle.lq_table.proofs.Middle.{middle, begins_in, steps_in}
use Rattle.lq_table.proofs.DeviceKept.{xoff_stored}
use Rattle.lq_table.proofs.SettledKept.{settled_same}
use Rattle.lq_table.proofs.Frames.{total_holding, packets_same, same_past, StayHung, firsts_same, leaves_same, rule_after, rule_same, opened, closed, Later, lends_step, moves}
use Rattle.lq_table.proofs.SeatFrames.{seats_heard, seats_settled}
use Rattle.lq_table.proofs.StationFrames.{station_kept, ties_same, account_after}
use Rattle.lq_band_laws.specs.Three.{at}
use Rattle.lq_table.specs.Sees.{IsSole, account_of}
use Rattle.lq_table.proofs.shared.Shared.wake.Invariants.{wake_told, wake_told_all}
use Rattle.lq_table.proofs.Loads.{also}
use Rattle.lq_table.proofs.SoleFacts.{sees_stop}
use Rattle.lq_table.proofs.SoleKept.{none_shut}

by_shut : {X : Type 0} (o : Option ℕ) → (o ≡ None → X) → ((n : ℕ) → o ≡ Some n → X) → X
by_shut None h h' = h refl
by_shut (Some n) h h' = h' n refl

-- beside a seat without the lock, which is held, another has a share
other_holder : (k : Setup) (s : table.State (Option StationState) View) (r : Rule k s) (id : ℕ) (v : View) → get_elem? s.views id ≡ some v → holds_lock v.place.position ≡ false → r.qdisc.locked ≡ true → v.share.shares ≡ 1024 → ⊥
other_holder k s r id v here free locked all =
    let p = r.parts in let q = r.qdisc in let held = total_holding s.views in let one = p.machine.invariant.kept.one_holder in let b = ap bit locked in
    let o = one_of holding s.views (omega arith) in let both = both_true (is_live o.one) (holds_lock o.one.place.position) o.has in
    dite (ℕ_discrete o.id id)
    (λ same. let is : o.one ≡ v = some-injective o.one v (sym o.at_id ∙ (ap (get_elem? s.views) same ∙ here)) in true≢false (sym both.1 ∙ (ap (λ (z : View). holds_lock z.place.position) is ∙ free)))
    (λ apart. let two = total_two (λ (x : View). x.share.shares) s.views id o.id v o.one here o.at_id apart in let sum = p.seats.shares.sum in let has : 0 < o.one.share.shares = ltb-true 0 o.one.share.shares both.0 in absurd (omega arith))

module _ (k : Setup) where
  pub wakes : (slots id queue : ℕ) (m : Sat) → queue < k.queues → m.0.place.position ≡ Idle → 0 < m.0.share.shares
      → Allows (Rule k) slots id m (xoff_word k queue) (λ n. either (eqb n 1) 0 n) (wake_told queue (step slots (xoff_word k queue) 1 0 none) m)
  wakes slots id queue m below position some_share s r deep here small =
      let v : View = m.0 in let q = r.qdisc in let p = r.parts in let g = r.state in let a = account k g in let W = words_of k s.words in let live = lt-ltb 0 v.share.shares some_share in let mid = middle s.views id v here live in let n : ℕ = get_or s.words (xoff_word k queue) 0 in
      let D : HolderPart = holders g a W.size in
      dite (ℕ_discrete n 1)
      (λ one. let q' : Qdisc = record q { xoff = slice_set q.xoff queue 0 } in let w : View = wake_view queue v in let at_wake : Seat = record v.place { position = AtWake queue } in let e : Event = Wake queue in let g' : State = record g { past = e ∷ g.past } in
      let begun = begins_in q mid.before mid.after (record v.place { position = Idle }) (Wakes queue) refl tt
      (subst (λ (t : Seat). IsInductive (record { qdisc = q; seats = mid.before ++ t ∷ mid.after })) (λ j. record v.place { position = position j }) (opened s.views id v here live q p.machine.invariant)) in
      let stopped : slice_index q.xoff queue ≡ 1 = ap (λ (ls : List ℕ). slice_index ls queue) p.station.stands.xoff ∙ (sym (xoff_of k s.words queue) ∙ one) in
      let step_is = steps_in q mid.before mid.after at_wake Plain refl begun in
      let done : IsInductive (record { qdisc = q'; seats = mid.before ++ w.place ∷ mid.after }) = subst (λ (b : Bool). IsInductive (record {
        qdisc = (if b then goes_to (record q { xoff = slice_set q.xoff queue 0 }) at_wake (Sched false) else goes_to q at_wake Idle).qdisc;
        seats = mid.before ++ (if b then goes_to (record q { xoff = slice_set q.xoff queue 0 }) at_wake (Sched false) else goes_to q at_wake Idle).seat ∷ mid.after;
      })) (ap (λ (z : ℕ). z == 1) stopped) step_is in
      let xs : List ℕ = set W.xoff queue 0 in
      let none_hung : StayHung W.xoff xs = record { long = length-set W.xoff queue 0; hung = λ c two. get_or-set_other W.xoff queue c 0 0 (λ same. let x = sym (ap (λ (z : ℕ). get_or W.xoff z 0) same) ∙ two in let y = sym (xoff_of k s.words queue) ∙ one in omega arith) ∙ two } in
      let later : Later g.past (e ∷ g.past) = record { looked = λ _ h. h; sends = λ h. h; hangs = λ h. h } in (
        w,
        keeps,
        tt,
        subst (λ b. Rule k (table_stepped s (xoff_word k queue) (either b 0 n) id m.1 w keeps)) (sym (eq-eqb n 1 one))
            (by_shut g.shut (λ no_shut. rule_after k s r (xoff_word k queue) 0 id s.homes r.home w (record W { xoff = xs }) q' g' (after e a) r.deep (set_xoff k s.words 0 queue (xoff_within k s.words queue r.wide below)) refl record {
              seats = seats_heard k s r id v w here live e q' g' (after e a) refl refl refl refl refl tt (λ _. refl) (λ e1 e2. (ap (λ (z : Qdisc). record z { xoff = slice_set z.xoff queue 0 }) e1, ap (λ (z : State). record z { past = e ∷ z.past }) e2));
              machine = moves k s r id v w here live q' refl refl (closed s.views id v here live w q' w.place live refl done) (λ y own. absurd cc)
                  (firsts_same k s.views id v w here q.phase q.phase q.purge q.purge p.machine.firsts live refl refl refl refl (λ c. absurd cc));
              station = station_kept k s r id v w here (record W { xoff = xs }) r.home q' g' (after e a) refl (λ _. refl) refl (λ _ _ _ h. absurd (true≢false (sym h ∙ ap holds_lock position)))
                  (record { state = p.station.stands.state; lock = p.station.stands.lock; xoff = ap (λ (ls : List ℕ). slice_set ls queue 0) p.station.stands.xoff; inside = p.station.stands.inside; bypass = p.station.stands.bypass })
                  (ties_same p.station.ties refl refl)
                  (lends_step k.infos W.xoff xs g.past (e ∷ g.past) later none_hung q.locked r.home s.views D id v w here p.station.lends (λ _ h. absurd (true≢false (sym h))))
                  (none_agree q.phase q.locked (slice_set q.xoff queue 0) (slice_set a.stops queue 0) g.shut no_shut (ap (λ (ls : List ℕ). slice_set ls queue 0) (agree q.phase q.locked q.xoff a.stops g.shut no_shut p.station.stops)));
              account = account_after k s r e (after e a) refl
                  (ap (λ (ls : List ℕ). slice_index ls queue) (sym (agree q.phase q.locked q.xoff a.stops g.shut no_shut p.station.stops)) ∙ stopped) tt tt tt
                  (record { unit = p.account.sends.unit; sent = p.account.sends.sent; small = p.account.sends.small })
                  (xoff_stored k.infos k.station a.stops g.origin g.station.device queue 0 p.account.device (λ e. absurd (omega arith)))
                  (leaves_same g.left q.purge q.purge a (after e a) p.account.leaves refl refl);
            })
            -- while a swap is half done the account has the queue open already
            (λ stored shut. let o : Opening stored q.phase q.locked q.xoff a.stops = subst (λ (z : Option ℕ). AreStops z q.phase q.locked q.xoff a.stops) shut p.station.stops in
            let not_sole : v.share.shares ≡ 1024 → ⊥ = other_holder k s r id v here (ap holds_lock position) o.held in
            rule_after k s r (xoff_word k queue) 0 id s.homes r.home w (record W { xoff = xs }) q' g a r.deep (set_xoff k s.words 0 queue (xoff_within k s.words queue r.wide below)) refl record {
              seats = seats_settled k s r id v w here live W.fates q' g refl refl refl (packets_same k s.views id v w here g.past a p.seats.packets refl refl) (settled_same s.views id v w here W.fates p.seats.settled refl)
                  (each_step (λ u. u.share.shares ≡ 1024 → u.whole.told ≡ true → (u.whole.qdisc ≡ q) × (u.whole.state ≡ g)) (λ u. u.share.shares ≡ 1024 → u.whole.told ≡ true → (u.whole.qdisc ≡ q') × (u.whole.state ≡ g)) s.views id w p.seats.sole
                  (λ all _. absurd (not_sole all))
                  (λ j u apart at_j _ all _. let two = total_two (λ x. x.share.shares) s.views id j v u here at_j apart in let sum = p.seats.shares.sum in absurd (omega arith)));
              machine = moves k s r id v w here live q' refl refl (closed s.views id v here live w q' w.place live refl done) (λ y own. absurd cc)
                  (firsts_same k s.views id v w here q.phase q.phase q.purge q.purge p.machine.firsts live refl refl refl refl (λ c. absurd cc));
              station = station_kept k s r id v w here (record W { xoff = xs }) r.home q' g a refl (λ _. refl) refl (λ _ _ _ h. absurd (true≢false (sym h ∙ ap holds_lock position)))
                  (record { state = p.station.stands.state; lock = p.station.stands.lock; xoff = ap (λ (ls : List ℕ). slice_set ls queue 0) p.station.stands.xoff; inside = p.station.stands.inside; bypass = p.station.stands.bypass })
                  (ties_same p.station.ties refl refl)
                  (lends_step k.infos W.xoff xs g.past g.past same_past none_hung q.locked r.home s.views D id v w here p.station.lends (λ _ h. absurd (true≢false (sym h))))
                  (subst (λ (z : Option ℕ). AreStops z q.phase q.locked (slice_set q.xoff queue 0) a.stops) (sym shut) record {
                    purged = o.purged;
                    held = o.held;
                    some_stored = o.some_stored;
                    within = (let l = length-set q.xoff queue 0 in let h = o.within in omega arith);
                    opened = λ c l. dite (ℕ_discrete c queue)
                        (λ same. ap (λ (z : ℕ). get_or (set q.xoff queue 0) z 0) same ∙ get_or-set_same q.xoff queue 0 0 (let long = xoff_long k s.words r.wide in let x = ap Rattle.std.proofs.Common.length p.station.stands.xoff in omega arith))
                        (λ apart. get_or-set_other q.xoff queue c 0 0 apart ∙ o.opened c l);
                    all_open = o.all_open ∙ sym (map_set q.xoff queue);
                  });
              account = p.account;
            })),
        ((λ _. refl), λ other. absurd (other one)),
      ))
      (λ other. (
        v,
        keeps,
        tt,
        subst (λ b. Rule k (table_stepped s (xoff_word k queue) (either b 0 n) id m.1 v keeps)) (sym (ne_eqb n 1 other)) (rule_same k s r (xoff_word k queue) id v here),
        ((λ one. absurd (other one)), λ _. refl),
      ))

module _ (k : Setup) (slots id : ℕ) (m : Sat) where
  pub wakes_sole : (queue : ℕ) → queue < k.queues → m.0.place.position ≡ Idle → 0 < m.0.share.shares → Allows (Rule k) slots id m (xoff_word k queue) (λ n. either (eqb n 1) 0 n) (wake_told_all queue (step slots (xoff_word k queue) 1 0 none) m)
  wakes_sole queue below at some_share = also k slots id m (xoff_word k queue) (λ n. either (eqb n 1) 0 n) (wake_told queue (step slots (xoff_word k queue) 1 0 none) m) (λ x. IsSole m.0 → x ≡ slice_index (account_of m.0).stops queue)
      (λ s r here sole. sees_stop k s r id m.0 here some_share sole (none_shut k slots id m at some_share s r here sole) queue) (wakes k slots id queue m below at some_share)
