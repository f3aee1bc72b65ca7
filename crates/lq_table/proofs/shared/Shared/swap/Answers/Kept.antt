-- `swap` keeps the rule of the table.
use Rattle.std.proofs.Common.{◌≡◌, ℕ, zero, suc, ◌≤◌, Bool, ne_eqb, Contains, ◌-◌, ◌<◌, true, false, true≢false, List, [], ◌∷◌, ◌++◌, map, length, set, refl, sym, ap, ap₂, ◌∙◌, subst, arith, Option, Some, None}
use Rattle.std.specs.Prelude.{All, ◌&&◌, ◌==◌, is_none, nat_lt, slice_set, slice_get, slice_index}
use Rattle.std.proofs.lemmas.Bool.{lt-ltb}
use Rattle.std.proofs.lemmas.List.Elements.{All-nil}
use mathlib.Core.Option.{none}
use Rattle.atomic_table.specs.Table.{step, Allows, keeps}
use Rattle.lq_device.specs.Station.{StationState}
use Rattle.lq_model.specs.Device.{DeviceState}
use Rattle.lq_model.specs.declared.machine.ControlStep.TheVariants.{StoreOpen}
use Rattle.lq_model.specs.declared.machine.Phase.{Phase}
use Rattle.lq_model.specs.declared.machine.Phase.TheVariants.{Purged}
use Rattle.lq_model.specs.declared.machine.Position.{Position}
use Rattle.lq_model.specs.declared.machine.Position.TheVariants.{Control}
use Rattle.lq_model.specs.declared.machine.Seat.{Seat}
use Rattle.lq_model.specs.Account.{Account, Event, Join, Full, Refuse, Empty, Take, Pick, Direct, Send, Back, Stop, Wake, Resize, Down, Purge, Swap, Up, sent_from_hand, after, after_all}
use Rattle.lq_model.specs.Machine.{Qdisc}
use Rattle.lq_model.specs.Control.{is_control, is_purged_phase}
use Rattle.lq_model.specs.Positions.{holds_lock}
use Rattle.lq_model.specs.Kept.{IsInductive}
use Rattle.lq_table.specs.Places.{line_of}
use Rattle.lq_table.specs.Views.{View, Setup, State, HolderPart, machine_packet, first_account}
use Rattle.lq_table.specs.Rule.{HasServed, IsCallOf, IsDevice, latest_unit, station_count, words_of, account, holders, last_sent, units_of, Holder, Rule}
use Rattle.lq_table.proofs.UnitsKept.{fewer, unit_is_latest, BringsNone, gone_swap}
use Rattle.lq_table.specs.Moves.{Sat}
use Rattle.lq_table.specs.Controls.{IsSwap, shut_after, swap_view, GoesAway}
use Rattle.lq_table.proofs.shared.Shared.swap.Invariants.{swap_told}
use Rattle.lq_table.proofs.StopsKept.{agree, after_open, no_two}
use Rattle.lq_table.proofs.Frames.{is_locked, moves, leaves_same, firsts_as, rule_after, opened, closed, lends_held}
use Rattle.lq_model.specs.declared.fate.Info.{Info}
use Rattle.lq_table.proofs.ByName.{set_xoff, xoff_long, xoff_within}
use Rattle.lq_table.proofs.Middle.{middle, controls_in}
use Rattle.lq_table.proofs.Facts.{map_none}
use Rattle.lq_table.proofs.Accounts.{with_at_other}
use Rattle.lq_table.proofs.ClearDeactivatedKept.{purged_idle}
use Rattle.lq_table.proofs.SeatFrames.{seats_by_control, packets_heard}
use Rattle.lq_table.proofs.StationFrames.{station_kept, ties_same, account_after}

module _ (u : ℕ) (past : List Event) (a : Account) (h : (a.unit ≡ u → ⊥) × (a.sent u ≡ [])) where
  after_send : (o : Option ℕ) → ((sent_from_hand o a).unit ≡ u → ⊥) × ((sent_from_hand o a).sent u ≡ [])
  after_send None = h
  after_send (Some n) = (h.0, with_at_other a.unit u (a.sent a.unit ++ n ∷ []) a.sent (λ e. h.0 (sym e)) ∙ h.1)

  unused_step : (e : Event) → (Contains (units_of (e ∷ past)) u → ⊥) → ((after e a).unit ≡ u → ⊥) × ((after e a).sent u ≡ [])
  unused_step (Join n b) no_ = h
  unused_step (Full n x) no_ = h
  unused_step (Refuse n x) no_ = h
  unused_step (Empty b) no_ = h
  unused_step (Take b) no_ = h
  unused_step Pick no_ = h
  unused_step (Direct n) no_ = h
  unused_step Send no_ = after_send a.hand
  unused_step Back no_ = h
  unused_step (Stop x y) no_ = h
  unused_step (Wake x) no_ = h
  unused_step (Resize x y) no_ = h
  unused_step (Down x) no_ = h
  unused_step (Purge c) no_ = h
  unused_step (Swap x) no_ = (λ same. no_ (0, omega arith, same), h.1)
  unused_step Up no_ = h

pub unused : (k : Setup) (u : ℕ) → (k.station ≡ u → ⊥) → (past : List Event) → (Contains (units_of past) u → ⊥) → ((after_all (first_account k) past).unit ≡ u → ⊥) × ((after_all (first_account k) past).sent u ≡ [])
unused k u first [] no_ = (first, refl)
unused k u first (e ∷ past) no_ = unused_step u past (after_all (first_account k) past) (unused k u first past (λ h. no_ (fewer e past u h))) e no_

neither : (b : Bool) → (b && false) ≡ false
neither true = refl
neither false = refl

hangs_never : (h : ℕ) → (nat_lt 0 h && (0 == h)) ≡ false
hangs_never zero = refl
hangs_never (suc h) = ap (λ (b : Bool). nat_lt 0 (suc h) && b) (ne_eqb 0 (suc h) (λ e. absurd (omega arith))) ∙ neither (nat_lt 0 (suc h))

-- a device that has accepted nothing is as its rule says
exchanged : (infos : List Info) (station : ℕ) (xoff : List ℕ) (st : StationState) → station_count infos station ≤ st.device.spare → st.device.asked ≡ [] → st.device.accepted ≡ [] → st.device.hung ≡ false → ((queue : ℕ) → slice_index xoff queue ≡ 2 → ⊥) → IsDevice infos station xoff st.device st.device
exchanged infos station xoff st room unasked none_ alive no_two = record {
  room = (let l = ap length none_ in omega arith);
  hung = λ queue is. absurd (no_two queue is);
  served = record {
    identity = refl;
    params = refl;
    asked = subst (All (IsCallOf infos station)) (sym unasked) (All-nil (IsCallOf infos station));
    told = λ t is. (alive ∙ sym (ap (λ (ls : List ℕ). nat_lt 0 t.params.hang_after && (length ls == t.params.hang_after)) none_ ∙ hangs_never t.params.hang_after), λ some_. (let l = ap length none_ in omega arith));
  };
}

module _ (k : Setup) where
  -- it stores the stop word 0, with a device that has accepted nothing and whose unit is new
  pub swaps : (slots id : ℕ) (m : Sat) (st : StationState) → 0 < k.queues → m.0.holder.shut ≡ None → m.0.place.position ≡ Control true → m.0.control.phase ≡ Purged → m.0.control.purge ≡ None
      → IsSwap m.0.share.about.infos m.0.share.about.station m.0.holder.units st → 0 < m.0.share.shares
      → Allows (Rule k) slots id m (line_of 3) (λ _. 0) (swap_told st (step slots (line_of 3) 0 0 none) m)
  swaps slots id m st some_queue no_shut position purged no_purge is_new some_share s r deep here small =
      let v : View = m.0 in
      let q = r.qdisc in let p = r.parts in let g = r.state in let a = account k g in let W = words_of k s.words in let live = lt-ltb 0 v.share.shares some_share in let mid = middle s.views id v here live in let holds : holds_lock v.place.position ≡ true = ap holds_lock position in
      let D : HolderPart = holders g a W.size in let w : View = swap_view st v in let e : Event = Swap st.unit in let a' : Account = after e a in
      let at_ : Holder k.infos W.xoff g.past D (Control true) v.holder = subst (λ (z : Position). Holder k.infos W.xoff g.past D z v.holder) position (p.station.lends.knows id v here live holds) in
      let first : v.control.first ≡ true = p.machine.firsts.control id v here live (ap is_control position) in let knows = p.machine.firsts.knows id v here first in
      let phase : q.phase ≡ Purged = sym knows.0 ∙ purged in let purge : q.purge ≡ None = sym knows.1 ∙ no_purge in
      let idle = purged_idle k s r id v here live (p.account.leaves.none_left purge) phase (map_none (machine_packet k.infos) a.hand (sym at_.in_hand)) in
      let q' : Qdisc = record q { xoff = slice_set q.xoff 0 0 } in let xs : List ℕ = set W.xoff 0 0 in let n : ℕ = v.share.about.queues in let shut : Option ℕ = shut_after 0 n in let g' : State = record g { past = e ∷ g.past; station = st; origin = st.device; shut = shut } in let D' : HolderPart = holders g' a' W.size in
      let at_control : Seat = record v.place { position = Control true } in let is : v.place ≡ at_control = λ j. record v.place { position = position j } in
      let stepped_ = controls_in q mid.before mid.after at_control (StoreOpen 0) true refl refl (ap₂ (λ (o : Option Rattle.lq_model.specs.Machine.Purge) (x : Phase). is_none o && is_purged_phase x) purge phase) (subst (λ (u : Seat). IsInductive (record { qdisc = q; seats = mid.before ++ u ∷ mid.after })) is (opened s.views id v here live q p.machine.invariant)) in
      let shut_none : g.shut ≡ None = sym (ap (λ (z : HolderPart). z.shut) at_.is) ∙ no_shut in
      let long : n ≡ length q.xoff = (let l = xoff_long k s.words r.wide in let y = ap (λ (z : Setup). z.queues) (p.seats.shares.about id v here live) in let x = ap length p.station.stands.xoff in omega arith) in
      let some_word : 0 < n = (let y = ap (λ (z : Setup). z.queues) (p.seats.shares.about id v here live) in omega arith) in
      let was : q.xoff ≡ a.stops = agree q.phase q.locked q.xoff a.stops g.shut shut_none p.station.stops in let locked : q.locked ≡ true = is_locked k s r id v here live holds in
      let unused_ : a.sent st.unit ≡ [] = (unused k st.unit (subst (λ (z : Setup). z.station ≡ st.unit → ⊥) (p.seats.shares.about id v here live) is_new.other) g.past (λ h. is_new.new (subst (λ (z : HolderPart). Contains z.units st.unit) (sym at_.is) h))).1 in
      let known = p.seats.shares.about id v here live in let other : k.station ≡ st.unit → ⊥ = subst (λ (z : Setup). z.station ≡ st.unit → ⊥) known is_new.other in
      let new_unit : BringsNone k g.past (Swap st.unit) = (other, λ h. is_new.new (subst (λ (z : HolderPart). Contains z.units st.unit) (sym at_.is) h)) in
      let unit_is : v.holder.station.unit ≡ a.unit = ap (λ (z : HolderPart). z.station.unit) at_.is ∙ sym p.account.sends.unit in
      let sent_is : a.sent v.holder.station.unit ≡ v.holder.station.device.accepted = ap a.sent unit_is ∙ (p.account.sends.sent ∙ sym (ap (λ (z : HolderPart). z.station.device.accepted) at_.is)) in
      let goes_away : GoesAway v = (
        subst (λ (z : Setup × DeviceState × DeviceState). HasServed z.0.infos z.0.station z.1 z.2) (λ j. (sym known j, sym (p.seats.trails.came id v here first) j, (sym at_.is j).station.device)) p.account.device.served,
        unit_is ∙ (unit_is_latest k g.past ∙ (λ j. latest_unit (sym known j).station (sym at_.is j).units)),
      ) in
      let last_is : last_sent a' ≡ None = ap (λ (ns : List ℕ). slice_get ns (length ns - 1)) unused_ in (
        w,
        keeps,
        tt,
        rule_after k s r (line_of 3) 0 id s.homes r.home w (record W { xoff = xs }) q' g' a' r.deep (set_xoff k s.words 0 0 (xoff_within k s.words 0 r.wide (omega arith))) refl record {
          seats = seats_by_control k s r id v w here live e st.device q' g' a' refl refl refl first refl refl
              (packets_heard k s r id v w here live e a' refl (λ _. refl) refl refl)
              (gone_swap k s.views id v w here st.unit v.holder.station.unit v.holder.station.device.accepted new_unit p.seats.gone refl unit_is sent_is) (λ e1 e2. (ap (λ (z : Qdisc). record z { xoff = slice_set z.xoff 0 0 }) e1, ap (λ (z : State). record z { past = e ∷ z.past; station = st; origin = st.device; shut = shut }) e2));
          machine = moves k s r id v w here live q' refl refl (closed s.views id v here live w q' at_control live is stepped_) (λ y own. own)
              (firsts_as k s.views id v w here q.phase q.phase q.purge q.purge p.machine.firsts live refl refl refl refl refl refl (λ h. h));
          station = station_kept k s r id v w here (record W { xoff = xs }) r.home q' g' a' refl (λ _. refl) refl (λ _ _ y h. (y, h))
              (record { state = p.station.stands.state; lock = p.station.stands.lock; xoff = ap (λ (ls : List ℕ). slice_set ls 0 0) p.station.stands.xoff; inside = p.station.stands.inside; bypass = p.station.stands.bypass })
              (ties_same p.station.ties refl refl)
              (lends_held k s r id v here live holds w q.locked xs (e ∷ g.past) D' refl
              (subst (λ (z : Position). Holder k.infos xs (e ∷ g.past) D' z w.holder) (sym position) record {
                is = λ j. record (at_.is j) { station = st; last = (sym last_is) j; shut = shut; units = st.unit ∷ (at_.is j).units };
                in_hand = at_.in_hand;
                looked = λ _ l. absurd (omega arith);
                stopping = tt;
                alive = λ _ hung. absurd (true≢false (sym hung ∙ is_new.alive));
              }))
              (after_open q.xoff (map (λ _. 0) a.stops) 0 n q.phase q.locked phase locked long some_word (λ c l. absurd (omega arith)) (ap (map (λ _. 0)) (sym was)));
          account = account_after k s r e a' refl idle tt tt tt (record { unit = refl; sent = unused_ ∙ sym is_new.accepted; small = is_new.small })
              (exchanged k.infos k.station (map (λ _. 0) a.stops) st (subst (λ (z : Setup). station_count z.infos z.station ≤ st.device.spare) (p.seats.shares.about id v here live) is_new.room) is_new.asked is_new.accepted is_new.alive (no_two a.stops))
              (leaves_same g.left q.purge q.purge a a' p.account.leaves refl refl);
        },
        (refl, goes_away),
      )
