mod Kept
use Rattle.std.proofs.Common.{◌≡◌, ℕ, ◌<◌, ◌≤◌, arith, sym, subst, ap, length, List, Option, refl, ◌∷◌, ◌∙◌}
use mathlib.Core.Option.{none}
use Rattle.lq_model.specs.declared.fate.Info.{Info}
use Rattle.atomic_table.specs.Table.{step, Allows}
use Rattle.lq_table.specs.Rule.{Rule, slot_word}
use Rattle.lq_table.specs.Keyed.{keyed_setup}
use Rattle.lq_table.proofs.ByName.{slot_within}
use Rattle.std.specs.Option.{unwrap_or}
use Rattle.lq_table.specs.Views.{HalfResize, no_resizing}
use Rattle.lq_table.proofs.shared.Shared.clear_slot.Invariants.{clear_slot_told}
use Rattle.lq_table.proofs.shared.Shared.clear_slot.Answers.Kept.{clears_slot}
use Rattle.lq_log.specs.Made.{seen, swap}
use Rattle.lq_table.proofs.StepFacts.{makes_one, slot_of_seat}
use Rattle.lq_table.specs.Sees.{steps}
use Rattle.lq_table.proofs.shared.Shared.clear_slot.Goals as goal

pub swap_word-requires : goal.swap_word-requires
swap_word-requires g c = (
  c.type_bounds.send-D,
  (
      let t = c.args.self.now in let k = keyed_setup t.table.kit.shared.key in let slots = t.table.kit.shared.table_id.slots in let seat = c.args.cpu.now.known.seat in let b = c.args.band in let i = c.args.i in let h = c.requires.holder in
      let half = ap (λ (x : Option HalfResize). unwrap_or x no_resizing) h.1.1 in
      let inside : i < k.max_len = let x = c.requires.place.1 in let y = t.same.2 in omega arith in
      let place : slot_word k b i ≡ c.slot_word-word.result = sym c.slot_word-word.ensures in
      let word : c.slot_word-word.result < t.table.kit.shared.table_id.words = let wide = t.sized.0 in let h = slot_within k b i c.requires.place.0 inside in let x = t.same.1 in let y = t.same.2 in let p = place in omega arith in
      let few : length k.infos ≤ 1000000 = subst (λ (xs : List Info). length xs ≤ 1000000) (sym t.same.0) t.sized.2 in (
        c.requires.seat.0,
        word,
        subst (λ (z : ℕ × HalfResize). Allows (Rule k) slots seat.id (seen seat.me) z.0 (λ _. 0) (clear_slot_told b i z.1 (step slots z.0 0 0 none) (seen seat.me))) (λ j. (place j, sym half j))
            (clears_slot k slots seat.id (seen seat.me) b i h.1.0 c.requires.place.0 inside h.0 h.1.1 c.requires.seat.1 few),
      )),
)

pub returns : goal.returns
returns g c = record {
  makes =
      let e = c.swap_word.ensures in makes_one _ _ _ (e.0, e.1) refl refl e.2.told.1 (e.2.noted ∙ (λ j. swap (slot_of_seat c.args.self.now c.args.cpu.now c.requires.seat c.args.band c.args.i c.args.i _ c.slot_word-word.ensures refl j) 0 c.swap_word.result ∷ steps c.args.cpu.now)) (e.2.told.0, e.2.told.2);
}
