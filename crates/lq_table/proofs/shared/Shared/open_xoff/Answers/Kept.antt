-- `open_xoff` keeps the rule of the table.
use Rattle.std.proofs.Common.{◌≡◌, ℕ, ◌<◌, true, List, ◌∷◌, ◌++◌, length, set, refl, sym, ap, ap₂, ◌∙◌, subst, arith, Option, Some, None}
use Rattle.std.specs.Prelude.{◌&&◌, is_none, slice_set, slice_index}
use Rattle.std.proofs.lemmas.Bool.{lt-ltb}
use mathlib.Core.Option.{none}
use Rattle.atomic_table.specs.Table.{step, Allows, keeps}
use Rattle.lq_model.specs.declared.machine.ControlStep.TheVariants.{StoreOpen}
use Rattle.lq_model.specs.declared.machine.Phase.{Phase}
use Rattle.lq_model.specs.declared.machine.Phase.TheVariants.{Purged}
use Rattle.lq_model.specs.declared.machine.Position.{Position}
use Rattle.lq_model.specs.declared.machine.Position.TheVariants.{Control}
use Rattle.lq_model.specs.declared.machine.Seat.{Seat}
use Rattle.lq_model.specs.Machine.{Qdisc}
use Rattle.lq_model.specs.Control.{is_control, is_purged_phase}
use Rattle.lq_model.specs.Positions.{holds_lock}
use Rattle.lq_model.specs.Kept.{IsInductive}
use Rattle.lq_table.specs.Views.{View, Setup, State, HolderPart}
use Rattle.lq_table.specs.Rule.{Opening, AreStops, xoff_word, words_of, account, holders, Holder, Rule}
use Rattle.lq_table.specs.Moves.{Sat}
use Rattle.lq_table.specs.Controls.{shut_after, open_xoff_view}
use Rattle.lq_table.proofs.StopsKept.{after_open}
use Rattle.lq_table.proofs.Frames.{moves, firsts_same, rule_after, opened, closed, lends_held}
use Rattle.lq_table.proofs.ByName.{set_xoff, xoff_long, xoff_within}
use Rattle.lq_table.proofs.Middle.{middle, controls_in}
use Rattle.lq_table.proofs.SeatFrames.{seats_same}
use Rattle.lq_table.proofs.StationFrames.{station_kept, ties_same}
use Rattle.lq_log.specs.Made.{becomes}

module _ (k : Setup) where
  -- it stores the next queue's
  pub opens_next : (slots id queue : ℕ) (m : Sat) → queue < k.queues → m.0.holder.shut ≡ Some queue → m.0.place.position ≡ Control true → m.0.control.phase ≡ Purged → m.0.control.purge ≡ None → 0 < m.0.share.shares
      → Allows (Rule k) slots id m (xoff_word k queue) (λ _. 0) (becomes (λ _. open_xoff_view queue) (step slots (xoff_word k queue) 0 0 none) m)
  opens_next slots id queue m below is_shut position purged no_purge some_share s r deep here small =
      let v : View = m.0 in
      let q = r.qdisc in let p = r.parts in let g = r.state in let a = account k g in let W = words_of k s.words in let live = lt-ltb 0 v.share.shares some_share in let mid = middle s.views id v here live in let holds : holds_lock v.place.position ≡ true = ap holds_lock position in
      let D : HolderPart = holders g a W.size in let w : View = open_xoff_view queue v in let n : ℕ = v.share.about.queues in let shut : Option ℕ = shut_after queue n in
      let at_ : Holder k.infos W.xoff g.past D (Control true) v.holder = subst (λ (z : Position). Holder k.infos W.xoff g.past D z v.holder) position (p.station.lends.knows id v here live holds) in
      let first : v.control.first ≡ true = p.machine.firsts.control id v here live (ap is_control position) in let knows = p.machine.firsts.knows id v here first in
      let phase : q.phase ≡ Purged = sym knows.0 ∙ purged in let purge : q.purge ≡ None = sym knows.1 ∙ no_purge in
      let q' : Qdisc = record q { xoff = slice_set q.xoff queue 0 } in let xs : List ℕ = set W.xoff queue 0 in let g' : State = record g { shut = shut } in let D' : HolderPart = holders g' a W.size in
      let at_control : Seat = record v.place { position = Control true } in let is : v.place ≡ at_control = λ j. record v.place { position = position j } in
      let stepped_ = controls_in q mid.before mid.after at_control (StoreOpen queue) true refl refl (ap₂ (λ (o : Option Rattle.lq_model.specs.Machine.Purge) (x : Phase). is_none o && is_purged_phase x) purge phase) (subst (λ (u : Seat). IsInductive (record { qdisc = q; seats = mid.before ++ u ∷ mid.after })) is (opened s.views id v here live q p.machine.invariant)) in
      let shut_is : g.shut ≡ Some queue = sym (ap (λ (z : HolderPart). z.shut) at_.is) ∙ is_shut in
      let o : Opening queue q.phase q.locked q.xoff a.stops = subst (λ (z : Option ℕ). AreStops z q.phase q.locked q.xoff a.stops) shut_is p.station.stops in
      let long : n ≡ length q.xoff = (let l = xoff_long k s.words r.wide in let y = ap (λ (z : Setup). z.queues) (p.seats.shares.about id v here live) in let x = ap length p.station.stands.xoff in omega arith) in
      let within : queue < n = (let y = ap (λ (z : Setup). z.queues) (p.seats.shares.about id v here live) in omega arith) in
      let none_hung : g.station.device.hung ≡ true → ⊥ = λ hangs. let two = at_.alive refl hangs 0 (let f = o.some_stored in let i = o.within in let x = ap length p.station.stands.xoff in omega arith) in let zero_ = o.opened 0 o.some_stored in let x = ap (λ (ls : List ℕ). slice_index ls 0) p.station.stands.xoff in absurd (omega arith) in (
        w,
        keeps,
        tt,
        rule_after k s r (xoff_word k queue) 0 id s.homes r.home w (record W { xoff = xs }) q' g' a r.deep (set_xoff k s.words 0 queue (xoff_within k s.words queue r.wide below)) refl record {
          seats = seats_same k s r id v w here live q' g' refl refl refl (λ e1 e2. (ap (λ (z : Qdisc). record z { xoff = slice_set z.xoff queue 0 }) e1, ap (λ (z : State). record z { shut = shut }) e2));
          machine = moves k s r id v w here live q' refl refl (closed s.views id v here live w q' at_control live is stepped_) (λ y own. own)
              (firsts_same k s.views id v w here q.phase q.phase q.purge q.purge p.machine.firsts live refl refl refl refl (λ h. h));
          station = station_kept k s r id v w here (record W { xoff = xs }) r.home q' g' a refl (λ _. refl) refl (λ _ _ y h. (y, h))
              (record { state = p.station.stands.state; lock = p.station.stands.lock; xoff = ap (λ (ls : List ℕ). slice_set ls queue 0) p.station.stands.xoff; inside = p.station.stands.inside; bypass = p.station.stands.bypass })
              (ties_same p.station.ties refl refl)
              (lends_held k s r id v here live holds w q.locked xs g.past D' refl
              (subst (λ (z : Position). Holder k.infos xs g.past D' z w.holder) (sym position) record {
                is = λ j. record (at_.is j) { shut = shut };
                in_hand = at_.in_hand;
                looked = λ _ l. absurd (omega arith);
                stopping = tt;
                alive = λ _ hangs. absurd (none_hung hangs);
              }))
              (after_open q.xoff a.stops queue n q.phase q.locked phase o.held long within o.opened o.all_open);
          account = p.account;
        },
        refl,
      )
