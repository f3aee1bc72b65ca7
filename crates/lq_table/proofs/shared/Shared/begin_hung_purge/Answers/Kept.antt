-- `begin_hung_purge` keeps the rule of the table.
use Rattle.std.proofs.Common.{inr, eqb, eq-eqb, ◌≡◌, ℕ, suc, ◌<◌, Bool, true, List, [], ◌∷◌, length, slice_index, refl, sym, ap, ap₂, ◌∙◌, subst, arith, Option, None}
use Rattle.std.specs.Prelude.{◌&&◌}
use Rattle.std.specs.List.{list_all}
use Rattle.std.proofs.lemmas.Bool.{lt-ltb}
use mathlib.Core.Option.{none}
use Rattle.lq_device.specs.Station.{StationState}
use Rattle.atomic_table.specs.Table.{step, Allows, keeps}
use Rattle.lq_model.specs.Legal.{MayPurge}
use Rattle.lq_model.specs.declared.fate.Cause.TheVariants as cause
use Rattle.lq_model.specs.declared.machine.Position.{Position}
use Rattle.lq_model.specs.declared.machine.Position.TheVariants.{Control}
use Rattle.lq_model.specs.Control.{is_control}
use Rattle.lq_model.specs.Positions.{holds_lock}
use Rattle.lq_table.specs.Places.{state_place}
use Rattle.lq_table.specs.Views.{View, Setup, HolderPart}
use Rattle.lq_table.specs.Rule.{AreStops, words_of, account, holders, Holder, Rule}
use Rattle.lq_table.specs.Moves.{Sat}
use Rattle.lq_table.specs.Purges.{begin_purge_view}
use Rattle.lq_table.proofs.shared.Shared.begin_hung_purge.Invariants.{begin_hung_purge_told}
use Rattle.lq_table.proofs.Facts.{none_if}
use Rattle.lq_table.proofs.StopsKept.{agree}
use Rattle.lq_table.proofs.BeginPurgeKept.{held_few, held_known, held_packets, purges_as}

-- each word is 2
all_two : (xs : List ℕ) → ((i : ℕ) → i < length xs → slice_index xs i ≡ 2) → list_all (λ (x : ℕ). eqb x 2) xs ≡ true
all_two [] h = refl
all_two (x ∷ xs) h = ap₂ (λ (b c : Bool). b && c) (eq-eqb x 2 (h 0 (omega arith))) (all_two xs (λ i l. h (suc i) (omega arith)))

module _ (k : Setup) where
  -- a purge begins for the hung device, where no other seat is there
  pub purges_hung : (slots id : ℕ) (m : Sat) → m.0.place.position ≡ Control true → m.0.share.shares ≡ 1024 → m.0.holder.station.device.hung ≡ true → m.0.control.purge ≡ None → m.0.holder.resizing ≡ None → m.0.packets.owed ≡ None → m.0.packets.fresh ≡ None
      → Allows (Rule k) slots id m state_place (λ x. x) (begin_hung_purge_told (step slots state_place 0 0 none) m)
  purges_hung slots id m position all hung no_purge no_resizing no_debts no_fresh s r deep here small =
      let v : View = m.0 in let p = r.parts in let a = account k r.state in let W = words_of k s.words in let some_share : 0 < v.share.shares = omega (arith, all) in let live = lt-ltb 0 v.share.shares some_share in let holds : holds_lock v.place.position ≡ true = ap holds_lock position in
      let D : HolderPart = holders r.state a W.size in
      let at_ : Holder k.infos W.xoff r.state.past D (Control true) v.holder = subst (λ (z : Position). Holder k.infos W.xoff r.state.past D z v.holder) position (p.station.lends.knows id v here live holds) in
      let first : v.control.first ≡ true = p.machine.firsts.control id v here live (ap is_control position) in let no_left = p.account.leaves.none_left (sym (p.machine.firsts.knows id v here first).1 ∙ no_purge) in
      let station : v.holder.station ≡ r.state.station = ap (λ (h : HolderPart). h.station) at_.is in
      let two = at_.alive refl (sym (ap (λ (st : StationState). st.device.hung) station) ∙ hung) in
      let no_shut : r.state.shut ≡ None = none_if r.state.shut (λ (n : ℕ) is. (let o = subst (λ (z : Option ℕ). AreStops z r.qdisc.phase r.qdisc.locked r.qdisc.xoff a.stops) is p.station.stops in let zero_ = o.opened 0 o.some_stored in
      let one = two 0 (let l = ap length p.station.stands.xoff in let w = o.within in let f = o.some_stored in omega arith) in let same = ap (λ (xs : List ℕ). slice_index xs 0) p.station.stands.xoff in absurd (omega arith))) in
      let stops : W.xoff ≡ a.stops = sym p.station.stands.xoff ∙ agree _ _ _ _ r.state.shut no_shut p.station.stops in
      let may : MayPurge a (cause.Hung v.holder.station.unit) = (p.account.sends.unit ∙ sym (ap (λ (st : StationState). st.unit) station), ap (λ (xs : List ℕ). list_all (λ (x : ℕ). eqb x 2) xs) (sym stops) ∙ all_two W.xoff (at_.alive refl (sym (ap (λ (st : StationState). st.device.hung) station) ∙ hung))) in (
        begin_purge_view (cause.Hung v.holder.station.unit) (record { low = a.bands 0; mid = a.bands 1; high = a.bands 2 }) v,
        keeps,
        tt,
        purges_as k s r id v (cause.Hung v.holder.station.unit) here position no_purge no_debts no_fresh some_share may (inr all),
        (record { low = a.bands 0; mid = a.bands 1; high = a.bands 2 }, held_few k s r id v here some_share holds no_resizing no_left, held_packets k s r id v here some_share, held_known k s r id v here some_share, refl),
      )
