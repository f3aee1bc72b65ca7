-- The load of the slot at the index, with what it tells a seat that has the table alone.
use Rattle.std.proofs.Common.{zero, suc, ◌≡◌, ◌↔◌, ℕ, ◌+◌, ◌<◌, ◌≤◌, Bool, true, false, length, refl, true≢false, ◌≢◌, sym, ap, ◌∙◌, subst, ⊎_elim, arith, Option, Some, None, get_or}
use Rattle.std.proofs.lemmas.Bool.{lt-ltb, ltb-true, cases_Bool, cases_eq}
use mathlib.Core.Option.{some, none, some-injective}
use lib.ListN.{get_elem?}
use Rattle.atomic_table.specs.Table as table
use Rattle.atomic_table.specs.Table.{step, Allows}
use Rattle.lq_device.specs.Station.{StationState}
use Rattle.lq_model.specs.Account.{Account}
use Rattle.lq_account_laws.proofs.OneQueue.{seen_is}
use Rattle.lq_model.specs.Alone.{seen_in}
use Rattle.lq_model.specs.Band.{IsOccupied}
use Rattle.lq_model.specs.Control.{is_control}
use Rattle.lq_model.specs.Positions.{holds_lock, may_be_inside}
use Rattle.lq_model.specs.Machine.{bit}
use Rattle.lq_model.specs.Plan.{band_in}
use Rattle.lq_model.specs.declared.machine.Position.TheVariants.{Put}
use Rattle.lq_band_laws.specs.Three.{Three, at}
use Rattle.lq_band_laws.specs.Ring.{Ends, is_emptying, IsAtRest}
use Rattle.lq_band_laws.proofs.Seats.{total_two}
use Rattle.lq_band_laws.proofs.Kept.{finds_full}
use Rattle.lq_band_laws.proofs.StandsFor.{full_exactly}
use Rattle.lq_table.specs.Views.{View, Setup, HolderPart, machine_packet}
use Rattle.lq_table.specs.Rule.{words_of, slot_word, account, holders, holding, is_live, IsResting, Rule}
use Rattle.lq_table.specs.Moves.{Sat}
use Rattle.lq_table.specs.Producers.{SeesEnd}
use Rattle.lq_table.specs.Sees.{account_of}
use Rattle.lq_table.proofs.shared.Shared.producer_slot.Invariants.{producer_slot_told, producer_slot_told_all}
use Rattle.lq_table.proofs.ByName.{slot_of}
use Rattle.lq_table.proofs.Facts.{calm_rule}
use Rattle.lq_table.proofs.shared.Shared.producer_slot.Answers.Kept.{sees_slot}
use Rattle.lq_table.proofs.Frames.{locks_here, calm_here, total_holding}
use Rattle.lq_table.proofs.ClearDeactivatedKept.{one_of, both_true, false_if}
use Rattle.lq_table.proofs.Loads.{also}
use Rattle.lq_table.proofs.SoleFacts.{knows_account}

rest_at : (size b : ℕ) (e : Three Ends) → IsResting size e → IsAtRest size (at b e)
rest_at size zero e r = r.0
rest_at size (suc zero) e r = r.1
rest_at size (suc (suc b)) e r = r.2

module _ (k : Setup) where
  -- a seat that has all shares and doesn't hold the run lock leaves it free
  nobody : (s : table.State (Option StationState) View) (r : Rule k s) (id : ℕ) (v : View) → get_elem? s.views id ≡ some v → v.share.shares ≡ 1024 → holds_lock v.place.position ≡ false → r.qdisc.locked ≡ false
  nobody s r id v here all_shares free = false_if r.qdisc.locked (λ locked.
      let p = r.parts in let all = total_holding s.views in let one = p.machine.invariant.kept.one_holder in let b = ap bit locked in
      let o = one_of holding s.views (omega arith) in let both = both_true (is_live o.one) (holds_lock o.one.place.position) o.has in
      ⊎_elim
      (λ (same : o.id ≡ id). let is : o.one ≡ v = some-injective o.one v (sym o.at_id ∙ (ap (get_elem? s.views) same ∙ here)) in true≢false (sym both.1 ∙ (ap (λ (z : View). holds_lock z.place.position) is ∙ free)))
      (λ (apart : o.id ≢ id). let two = total_two (λ (z : View). z.share.shares) s.views id o.id v o.one here o.at_id apart in let sum = p.seats.shares.sum in let some_ : 0 < o.one.share.shares = ltb-true 0 o.one.share.shares both.0 in absurd (omega (arith, all_shares)))
      (cases_eq o.id id))

  -- where no batch is being emptied the slot is occupied exactly where the account says that the band is full, by the packet that it
  -- says
  sees_end : (s : table.State (Option StationState) View) (r0 : Rule k s) (id : ℕ) (v : View) (b i n : ℕ) (holds : Bool) → get_elem? s.views id ≡ some v → b < 3 → i < k.max_len → v.place.position ≡ Put (machine_packet k.infos n) holds
      → (at b v.locks).holds ≡ true → (at b v.locks).stored ≡ false → i ≡ (at b v.locks).index → 0 < v.share.shares → v.holder.resizing ≡ None → SeesEnd b v (get_or s.words (slot_word k b i) 0)
  sees_end s r0 id v b i n holds here below inside position has new is_index some_share no_resizing sole rests =
      let live = lt-ltb 0 v.share.shares some_share in let r = calm_rule k s r0 id v here live (ap may_be_inside position) (ap is_control position) in let p = r.parts in let g = r.state in let a = account k g in let W = words_of k s.words in let D : HolderPart = holders g a W.size in
      let calm : g.resizing ≡ None = calm_here k.infos k.max_len W.size W.producers W.slots _ _ _ r.qdisc.locked W.xoff r.home g.past D g.resizing s.views id v b p.station.rings p.station.lends refl here below has no_resizing in
      let run = p.station.rings.running calm in let old = run.ring b below in
      let word : get_or s.words (slot_word k b i) 0 ≡ get_or (at b W.slots) (at b v.locks).index 0 = slot_of k s.words b i below inside ∙ ap (λ (x : ℕ). get_or (at b W.slots) x 0) is_index in
      let rest : is_emptying W.size (at b g.ends) ≡ false = ⊎_elim
      (λ (locked : holds_lock v.place.position ≡ true). let is = (p.station.lends.knows id v here live locked).is in subst (λ (z : HolderPart). is_emptying z.size (at b z.ends) ≡ false) is (rests locked))
      (λ (free : holds_lock v.place.position ≡ false). (rest_at W.size b g.ends (p.station.lends.home (nobody s r0 id v here sole.0 free)).resting).3)
      (cases_Bool (holds_lock v.place.position)) in
      let same : account k g ≡ account_of v = sym (knows_account k s r0 id v here some_share sole) in
      let exact = full_exactly W.size (at b W.slots) (at b W.producers) _ (a.bands b) (at b g.ends) old id (at b v.locks) (locks_here k s.views id v v here b) has new rest in
      let there : 0 < get_or (at b W.slots) (at b v.locks).index 0 → get_or (at b W.slots) (at b v.locks).index 0 ≡ seen_in W.size (a.bands b) + 1 = λ some_.
      (let is = seen_is (a.bands b) (finds_full _ _ _ _ _ _ id (at b v.locks) old (locks_here k s.views id v v here b) has new (omega arith)) in omega arith) in
      subst (λ (z : ℕ × ℕ × Account). ((0 < z.0) ↔ IsOccupied z.1 (z.2.bands b)) × (0 < z.0 → z.0 ≡ seen_in z.1 (z.2.bands b) + 1)) (λ j. (sym word j, (run.size_is ∙ ap (λ (x : Account). x.len) same) j, same j)) (exact, there)

  pub sees_slot_sole : (slots id : ℕ) (m : Sat) (b i n : ℕ) (holds : Bool) → b < 3 → i < k.max_len → m.0.place.position ≡ Put (machine_packet k.infos n) holds
      → (at b m.0.locks).holds ≡ true → (at b m.0.locks).stored ≡ false → i ≡ (at b m.0.locks).index
      → m.0.packets.fresh ≡ Some n → m.0.packets.owed ≡ None → band_in k.infos n ≡ b → 0 < m.0.share.shares → length k.infos ≤ 1000000 → m.0.holder.resizing ≡ None
      → Allows (Rule k) slots id m (slot_word k b i) (λ x. x) (producer_slot_told_all b n (step slots (slot_word k b i) 0 0 none) m)
  sees_slot_sole slots id m b i n holds below inside position has new is_index is_fresh no_debts of_band some_share few no_resizing =
      also k slots id m (slot_word k b i) (λ x. x) (producer_slot_told b n (step slots (slot_word k b i) 0 0 none) m) (SeesEnd b m.0)
      (λ s r here. sees_end s r id m.0 b i n holds here below inside position has new is_index some_share no_resizing)
      (sees_slot k slots id m b i n holds below inside position has new is_index is_fresh no_debts of_band some_share few no_resizing)
