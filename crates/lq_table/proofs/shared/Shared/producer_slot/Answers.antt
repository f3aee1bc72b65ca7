mod Kept
mod Sole
use Rattle.std.proofs.Common.{◌≡◌, ℕ, ◌<◌, ◌≤◌, arith, sym, ap, ◌∙◌, subst, length, List, Option, refl, ◌∷◌, ◌-◌, eqb, eq-eqb, eqb-true, true≢false}
use mathlib.Core.Option.{none}
use Rattle.std.specs.Option.{unwrap_or}
use Rattle.lq_model.specs.declared.fate.Info.{Info}
use Rattle.lq_model.specs.Plan.{band_in}
use Rattle.lq_model.specs.declared.machine.Position.TheVariants.{Put}
use Rattle.atomic_table.specs.Table.{step, Allows}
use Rattle.lq_band_laws.specs.Three.{at}
use Rattle.lq_table.specs.Views.{machine_packet}
use Rattle.lq_table.specs.Rule.{Rule, slot_word}
use Rattle.lq_table.specs.Keyed.{keyed_setup}
use Rattle.lq_table.proofs.shared.Shared.producer_slot.Invariants.{producer_slot_told_all}
use Rattle.lq_table.proofs.ByName.{slot_within}
use Rattle.lq_table.proofs.shared.Shared.producer_slot.Answers.Sole.{sees_slot_sole}
use Rattle.lq_log.specs.Made.{seen, load}
use Rattle.lq_table.proofs.StepFacts.{makes_one, slot_of_seat, decided}
use Rattle.lq_table.specs.Sees.{steps, view, lock_at}
use Rattle.lq_band_laws.specs.Ring.{with_room}
use Rattle.lq_table.specs.Producers.{producer_slot_view_full, with_lock_at}
use Rattle.lq_table.specs.Step.{brought_packet}
use Rattle.lq_table.proofs.shared.Shared.producer_slot.Goals as goal

pub load_word-requires : goal.load_word-requires
load_word-requires g c = (
  c.type_bounds.send-D,
  (
      let t = c.args.self.now in let k = keyed_setup t.table.kit.shared.key in let slots = t.table.kit.shared.table_id.slots in let seat = c.args.cpu.now.known.seat in let b = c.args.band in
      let p = c.requires.packet in let n = p.0 in let lock = c.requires.lock in let i = c.at-index.result in
      let is : i ≡ (at b seat.me.0.view.locks).index = c.at-index.ensures ∙ sym lock.0.1 in
      let inside : i < k.max_len = let x = lock.0.2 in let y = t.same.2 in omega arith in
      let place : slot_word k b i ≡ c.slot_word-word.result = sym c.slot_word-word.ensures in
      let word : c.slot_word-word.result < t.table.kit.shared.table_id.words = let wide = t.sized.0 in let h = slot_within k b i c.requires.band inside in let x = t.same.1 in let y = t.same.2 in let q = place in omega arith in
      let few : length k.infos ≤ 1000000 = subst (λ (xs : List Info). length xs ≤ 1000000) (sym t.same.0) t.sized.2 in
      let fresh = ap (λ (x : Option ℕ). unwrap_or x 0) p.3.0 in
      let of_band : band_in k.infos n ≡ b = subst (λ (xs : List Info). band_in xs n ≡ b) (sym t.same.0) p.3.1 in
      let position : seat.me.0.view.place.position ≡ Put (machine_packet k.infos n) p.1 = p.2 ∙ ap (λ (xs : List Info). Put (machine_packet xs n) p.1) (sym t.same.0) in (
        c.requires.seat.0,
        word,
        subst (λ (z : ℕ × ℕ). Allows (Rule k) slots seat.id (seen seat.me) z.0 (λ x. x) (producer_slot_told_all b z.1 (step slots z.0 0 0 none) (seen seat.me))) (λ j. (place j, sym fresh j))
            (sees_slot_sole k slots seat.id (seen seat.me) b i n p.1 c.requires.band inside position lock.0.0 lock.1 is p.3.0 p.4 of_band c.requires.seat.1 few lock.0.3),
      )),
)

pub returns : goal.returns
returns g c = record {
  makes =
      let e = c.load_word.ensures in let x = c.load_word in let old = c.args.cpu.now in let b = c.args.band in let v = view old in
      let to = decided (eqb x.result 0) (seen x.new.seat.me) (with_lock_at b (with_room (at b v.locks)) v) (producer_slot_view_full (brought_packet v) (x.result - 1) v) old.known.seat.me.1 (λ y. e.2.told.0.0 (eqb-true x.result 0 y)) (λ n. e.2.told.0.1 (λ y. true≢false (sym (eq-eqb x.result 0 y) ∙ n))) in
      let is = c.at-index.ensures ∙ sym c.requires.lock.0.1 in
      makes_one _ _ _ (e.0, e.1) refl refl to (e.2.noted ∙ (λ j. load (slot_of_seat c.args.self.now c.args.cpu.now c.requires.seat c.args.band c.at-index.result (lock_at c.args.band c.args.cpu.now).index _ c.slot_word-word.ensures is j) x.result ∷ steps c.args.cpu.now)) (e.2.told.0.2, e.2.told.1);
}
