mod Kept
use Rattle.std.proofs.Common.{sym, ◌≡◌, ℕ, ◌+◌, ◌<◌, arith, ap, ◌∙◌, subst, drop, List, Option, refl, ◌∷◌}
use mathlib.Core.Option.{none}
use Rattle.atomic_table.specs.Table.{step, Allows}
use Rattle.lq_table.specs.Rule.{Rule, slot_word}
use Rattle.lq_table.specs.Keyed.{keyed_setup}
use Rattle.lq_table.proofs.ByName.{slot_within}
use Rattle.std.specs.Option.{unwrap_or}
use Rattle.lq_band_laws.specs.Three.{at}
use Rattle.lq_table.specs.Views.{HalfResize, no_resizing}
use Rattle.lq_table.specs.Resizes.{fill_slot_view}
use Rattle.lq_table.proofs.shared.Shared.fill_slot.Answers.Kept.{fills_slot}
use Rattle.lq_log.specs.Made.{seen, becomes, store}
use Rattle.lq_table.proofs.StepFacts.{makes_one, slot_of_seat}
use Rattle.lq_table.specs.Sees.{steps}
use Rattle.lq_table.proofs.shared.Shared.fill_slot.Goals as goal

pub store_word-requires : goal.store_word-requires
store_word-requires g c = (
  c.type_bounds.send-D,
  (
      let t = c.args.self.now in let k = keyed_setup t.table.kit.shared.key in let slots = t.table.kit.shared.table_id.slots in let seat = c.args.cpu.now.known.seat in let b = c.args.band in let i = c.args.i in let n = c.args.n in let h = c.requires.holder in
      let m = c.requires.hand in let half = sym (ap (λ (x : Option HalfResize). unwrap_or x no_resizing) m.2) in
      let rest = sym (ap (drop 1) m.3) ∙ ap (λ (t : HalfResize). drop 1 (at b t.works).hand) half in
      let inside : i < k.max_len = let x = c.requires.place.1 in let y = t.same.2 in omega arith in
      let place : slot_word k b i ≡ c.slot_word-word.result = sym c.slot_word-word.ensures in
      let word : c.slot_word-word.result < t.table.kit.shared.table_id.words = let wide = t.sized.0 in let h = slot_within k b i c.requires.place.0 inside in let x = t.same.1 in let y = t.same.2 in let p = place in omega arith in (
        c.requires.seat.0,
        word,
        subst (λ (z : ℕ × List ℕ × HalfResize). Allows (Rule k) slots seat.id (seen seat.me) z.0 (λ _. n + 1) (λ _. becomes (λ _. fill_slot_view b i n z.1 z.2) (step slots z.0 (n + 1) 0 none) (seen seat.me) (n + 1))) (λ j. (place j, rest j, half j))
            (fills_slot k slots seat.id (seen seat.me) b i m.0 c.requires.place.0 inside h m.2 c.requires.seat.1 n m.1 m.3 m.4),
      )),
)

pub returns : goal.returns
returns g c = record {
  makes =
      let e = c.store_word.ensures in makes_one _ _ _ (e.0, e.1) refl refl e.2.told (e.2.noted ∙ (λ j. store (slot_of_seat c.args.self.now c.args.cpu.now c.requires.seat c.args.band c.args.i c.args.i _ c.slot_word-word.ensures refl j) (c.args.n + 1) ∷ steps c.args.cpu.now)) tt;
}
