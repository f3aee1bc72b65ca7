mod Kept
use Rattle.std.proofs.Common.{sym, ◌≡◌, ℕ, ◌<◌, arith, subst, refl, ◌∷◌, ◌∙◌}
use mathlib.Core.Option.{none}
use Rattle.atomic_table.specs.Table.{step, Allows}
use Rattle.lq_table.specs.Rule.{Rule, slot_word}
use Rattle.lq_table.specs.Keyed.{keyed_setup}
use Rattle.lq_table.proofs.ByName.{slot_within}
use Rattle.lq_table.specs.Consumers.{zero_slot_view}
use Rattle.lq_table.proofs.shared.Shared.zero_slot.Answers.Kept.{empties_slot}
use Rattle.lq_log.specs.Made.{seen, becomes, store}
use Rattle.lq_table.proofs.StepFacts.{makes_one, slot_of_seat}
use Rattle.lq_table.specs.Sees.{steps}
use Rattle.lq_table.proofs.shared.Shared.zero_slot.Goals as goal

pub store_word-requires : goal.store_word-requires
store_word-requires g c = (
  c.type_bounds.send-D,
  (
      let t = c.args.self.now in let k = keyed_setup t.table.kit.shared.key in let slots = t.table.kit.shared.table_id.slots in let seat = c.args.cpu.now.known.seat in let b = c.args.band in
      let h = c.requires.holder in let e = c.requires.edge in let i = c.args.i in
      let inside : i < k.max_len = let x = c.requires.band.1 in let y = t.same.2 in omega arith in
      let place : slot_word k b i ≡ c.slot_word-word.result = sym c.slot_word-word.ensures in
      let word : c.slot_word-word.result < t.table.kit.shared.table_id.words = let wide = t.sized.0 in let h = slot_within k b i c.requires.band.0 inside in let x = t.same.1 in let y = t.same.2 in let p = place in omega arith in (
        c.requires.seat.0,
        word,
        subst (λ (z : ℕ). Allows (Rule k) slots seat.id (seen seat.me) z (λ _. 0) (λ _. becomes (λ _. zero_slot_view b) (step slots z 0 0 none) (seen seat.me) 0)) place
            (empties_slot k slots seat.id (seen seat.me) b i c.requires.band.0 inside h.0 h.1 e.0 e.1 c.requires.seat.1),
      )),
)

pub returns : goal.returns
returns g c = record {
  makes =
      let e = c.store_word.ensures in makes_one _ _ _ (e.0, e.1) refl refl e.2.told (e.2.noted ∙ (λ j. store (slot_of_seat c.args.self.now c.args.cpu.now c.requires.seat c.args.band c.args.i c.args.i _ c.slot_word-word.ensures refl j) 0 ∷ steps c.args.cpu.now)) tt;
}
