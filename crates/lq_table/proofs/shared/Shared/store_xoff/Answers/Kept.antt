-- `store_xoff` keeps the rule of the table.
use Rattle.std.proofs.Common.{◌≡◌, ℕ, ◌<◌, Bool, true, false, true≢false, List, ◌∷◌, set, get_or, ◌+◌, ◌≤◌, get_or-set_same, get_or-set_other, refl, sym, ap, ◌∙◌, subst, arith, None, inl, inr}
use Rattle.std.specs.Prelude.{if◌then◌else◌, ◌==◌, ◌&&◌, nat_lt, slice_set, length}
use Rattle.std.specs.Option.{option_map}
use Rattle.std.proofs.lemmas.Bool.{lt-ltb}
use mathlib.Core.Logic.{dite}
use mathlib.Core.Option.{none}
use native.Mathlib.Decide.{ℕ_discrete, dec_le}
use Rattle.std.proofs.lemmas.List.{length-set}
use Rattle.lq_model.specs.declared.fate.Info.{Info}
use Rattle.atomic_table.specs.Table.{step, Allows, keeps}
use Rattle.lq_model.specs.declared.machine.Answer.TheVariants.{Plain}
use Rattle.lq_model.specs.declared.machine.Position.{Position}
use Rattle.lq_model.specs.declared.machine.Position.TheVariants.{StoreXoff, Post, Quota}
use Rattle.lq_model.specs.declared.machine.Seat.{Seat}
use Rattle.lq_model.specs.declared.state.TheConstants.{QUOTA}
use Rattle.lq_model.specs.Account.{Account, Event, Stop, after}
use Rattle.lq_model.specs.Legal.{MayCome}
use Rattle.lq_model.specs.Machine.{Qdisc}
use Rattle.lq_model.specs.Steps.{step_at, dequeue_begins}
use Rattle.lq_model.specs.Positions.{may_be_inside, holds_lock}
use Rattle.lq_table.specs.Views.{View, Setup, HolderPart, machine_packet}
use Rattle.lq_table.specs.Rule.{words_of, account, holders, AreHungTo, xoff_word, Holder, IsStopping, Rule}
use Rattle.lq_table.specs.Moves.{Sat, seen_by}
use Rattle.lq_table.specs.Stops.{stop_value, store_xoff_view_from, store_xoff_view}
use Rattle.lq_table.proofs.ByName.{set_xoff, xoff_long, xoff_within}
use Rattle.lq_table.proofs.Shows.{Shows, begins_alike, after_plain, after_holding, holder_shows}
use Rattle.lq_table.proofs.Serves.{serves}
use Rattle.lq_table.proofs.StopsKept.{agree, none_agree, call_none}
use Rattle.lq_table.proofs.DeviceKept.{stop_stored}
use Rattle.lq_table.proofs.Frames.{Fits, plays}
use Rattle.lq_table.proofs.StationFrames.{ties_same}
use Rattle.lq_log.specs.Made.{becomes}

store_fits : (q seen : Qdisc) → Shows q seen → (queue : ℕ) (hung direct : Bool) (s : Seat) → Fits q seen Plain (StoreXoff queue hung direct) s (record q { xoff = slice_set q.xoff queue (stop_value hung) })
store_fits q seen e queue hung direct s = record {
  may = refl;
  seat = λ j. record s { position = if hung && nat_lt (queue + 1) (e.queues j) then StoreXoff (queue + 1) hung direct else if direct then Post else if s.run == QUOTA then Quota else begins_alike q seen e j };
  words = refl;
}

-- after the store of a stop word, so many queues being there
abbrev store_leads : ℕ → Bool → Bool → ℕ → Bool → Qdisc → Position
store_leads queue hung direct n full seen = if hung && nat_lt (queue + 1) n then StoreXoff (queue + 1) hung direct else if direct then Post else if full then Quota else dequeue_begins seen

store_holding : (queue : ℕ) (hung direct : Bool) (n : ℕ) (full : Bool) (seen : Qdisc) → holds_lock (store_leads queue hung direct n full seen) ≡ true
store_holding queue hung direct n full seen = by (hung && nat_lt (queue + 1) n)
  where
    by : (c : Bool) → holds_lock (if c then StoreXoff (queue + 1) hung direct else if direct then Post else if full then Quota else dequeue_begins seen) ≡ true
    by true = refl
    by false = after_holding direct full seen

module _ (infos : List Info) (xoff : List ℕ) (past : List Event) (d h : HolderPart) (queue n : ℕ) (direct full : Bool) (seen : Qdisc) (is : h ≡ d) (empty : None ≡ option_map (machine_packet infos) d.hand) (long : n ≡ length xoff) (below : queue < length xoff) where
  hung_to : AreHungTo xoff queue → AreHungTo (set xoff queue 2) (queue + 1)
  hung_to all c l = dite (ℕ_discrete c queue) (λ same. ap (λ (z : ℕ). get_or (set xoff queue 2) z 0) same ∙ get_or-set_same xoff queue 2 0 below) (λ other. get_or-set_other xoff queue c 2 0 other ∙ all c (omega arith))

  past_all : nat_lt (queue + 1) n ≡ false → n ≤ queue + 1
  past_all e = dite (dec_le (queue + 2) n) (λ more. absurd (true≢false (sym (lt-ltb (queue + 1) n (omega arith)) ∙ e))) (λ no_. omega arith)

  store_holder : (hung : Bool) → IsStopping infos xoff past d.last (StoreXoff queue hung direct) → (hung ≡ false → d.station.device.hung ≡ false)
      → Holder infos (set xoff queue (stop_value hung)) (Stop queue (stop_value hung) ∷ past) d (store_leads queue hung direct n full seen) h
  store_holder false st alive = let b = after_plain direct full seen in record {
    is = is;
    in_hand = b.hand ∙ empty;
    looked = λ c l. absurd (let z = b.looked in omega arith);
    stopping = b.stopping infos (set xoff queue 1) (Stop queue 1 ∷ past) d.last;
    alive = λ _ e. absurd (true≢false (sym e ∙ alive refl));
  }
  store_holder true st alive = by (nat_lt (queue + 1) n) refl
    where
      by : (c : Bool) → nat_lt (queue + 1) n ≡ c → Holder infos (set xoff queue 2) (Stop queue 2 ∷ past) d (if c then StoreXoff (queue + 1) true direct else if direct then Post else if full then Quota else dequeue_begins seen) h
      by true e = record { is = is; in_hand = empty; looked = λ c l. absurd (omega arith); stopping = (st.0, hung_to st.1); alive = λ calm. absurd (true≢false calm) }
      by false e = let b = after_plain direct full seen in record {
        is = is;
        in_hand = b.hand ∙ empty;
        looked = λ c l. absurd (let z = b.looked in omega arith);
        stopping = b.stopping infos (set xoff queue 2) (Stop queue 2 ∷ past) d.last;
        alive = λ _ _ c l. hung_to st.1 c (let z = length-set xoff queue 2 in let y = past_all e in omega arith);
      }

module _ (k : Setup) where
  pub stores_xoff : (slots id queue : ℕ) (m : Sat) (hung direct : Bool) → queue < k.queues → m.0.place.position ≡ StoreXoff queue hung direct → m.0.holder.station.device.hung ≡ hung → 0 < m.0.share.shares
      → Allows (Rule k) slots id m (xoff_word k queue) (λ _. stop_value hung) (becomes (λ _. store_xoff_view) (step slots (xoff_word k queue) (stop_value hung) 0 none) m)
  stores_xoff slots id queue m hung direct below position alive some_share s r deep here small =
      let v : View = m.0 in let p = r.parts in let g = r.state in let a = account k g in let q = r.qdisc in let W = words_of k s.words in let live = lt-ltb 0 v.share.shares some_share in
      let D : HolderPart = holders g a W.size in let holds : holds_lock v.place.position ≡ true = ap holds_lock position in let value : ℕ = stop_value hung in
      let at : Holder k.infos W.xoff g.past D (StoreXoff queue hung direct) v.holder = subst (λ (z : Position). Holder k.infos W.xoff g.past D z v.holder) position (p.station.lends.knows id v here live holds) in
      let n : ℕ = v.share.about.queues in let w : View = store_xoff_view_from (StoreXoff queue hung direct) v in let e : Event = Stop queue value in let q' : Qdisc = record q { xoff = slice_set q.xoff queue value } in let xs : List ℕ = set W.xoff queue value in
      let no_shut : g.shut ≡ None = call_none s.views id v here live q p.machine.invariant (ap may_be_inside position) g.shut a.stops p.station.stops in
      let shows : Shows q (seen_by v) = holder_shows k s r id v here live holds in
      let fits : Fits q (seen_by v) Plain v.place.position v.place q' = subst (λ (z : Position). Fits q (seen_by v) Plain z v.place q') (sym position) (store_fits q (seen_by v) shows queue hung direct v.place) in
      let all = xoff_long k s.words r.wide in let queues_are = ap (λ (z : Setup). z.queues) (p.seats.shares.about id v here live) in
      let long : n ≡ length W.xoff = omega arith in let seen_long : length (seen_by v).xoff ≡ n = shows.queues ∙ (ap length p.station.stands.xoff ∙ sym long) in
      let place : w.place ≡ (step_at v.place.position Plain (seen_by v) v.place).seat = (λ j. record v.place { position = store_leads queue hung direct (sym seen_long j) (v.place.run == QUOTA) (seen_by v) })
      ∙ ap (λ (z : Position). (step_at z Plain (seen_by v) v.place).seat) (sym position) in
      let mach = plays k s r id v w here live Plain (seen_by v) q' fits place refl refl refl in (
        w,
        keeps,
        tt,
        serves k s r (xoff_word k queue) value id W.state xs v w q' e (λ g. g.station) (after e a) here live holds (store_holding queue hung direct _ _ (seen_by v)) refl refl refl (λ e1. ap (λ (z : Qdisc). (step_at v.place.position Plain z v.place).qdisc) e1 ∙ fits.words) refl
            mach refl refl (set_xoff k s.words value queue (xoff_within k s.words queue r.wide below)) (record { state = p.station.stands.state; lock = p.station.stands.lock; xoff = ap (λ (ls : List ℕ). slice_set ls queue value) p.station.stands.xoff; inside = p.station.stands.inside; bypass = p.station.stands.bypass })
            refl (may hung g.past a at.stopping) tt refl (none_agree _ _ _ _ g.shut no_shut (ap (λ (ls : List ℕ). slice_set ls queue value) (agree q.phase q.locked q.xoff a.stops g.shut no_shut p.station.stops))) (stop_stored k.infos k.station a.stops g.origin g.station.device queue hung p.account.device (sym (ap (λ (z : HolderPart). z.station.device.hung) at.is) ∙ alive)) refl tt
            (ties_same p.station.ties refl refl) refl refl (λ _. refl)
            (record { unit = p.account.sends.unit; sent = p.account.sends.sent; small = p.account.sends.small })
            (store_holder k.infos W.xoff g.past D v.holder queue _ direct _ (seen_by v) at.is at.in_hand long (omega arith) hung at.stopping
            (λ calm. sym (ap (λ (z : HolderPart). z.station.device.hung) at.is) ∙ (alive ∙ calm))),
        (λ j. (store_xoff_view_from (sym position j) v, m.1)),
      )
    where
      may : (hung : Bool) (past : List Event) (a : Account) → IsStopping k.infos (words_of k s.words).xoff past (Rattle.lq_table.specs.Rule.last_sent a) (StoreXoff queue hung direct) → MayCome k.infos k.station past a (Stop queue (stop_value hung))
      may true past a h = inr (refl, h.0)
      may false past a h = inl (refl, h.0, h.1)
