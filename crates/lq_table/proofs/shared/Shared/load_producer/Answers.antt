mod Kept
use Rattle.std.proofs.Common.{sym, ◌≡◌, ℕ, ◌<◌, arith, subst, refl, ◌∷◌, ◌∙◌}
use mathlib.Core.Option.{none}
use Rattle.atomic_table.specs.Table.{step, Allows}
use Rattle.lq_table.specs.Places.{producer_place}
use Rattle.lq_table.specs.Rule.{Rule}
use Rattle.lq_table.specs.Keyed.{keyed_setup}
use Rattle.lq_table.proofs.shared.Shared.load_producer.Invariants.{load_producer_told}
use Rattle.lq_table.proofs.shared.Shared.load_producer.Answers.Kept.{loads_producer}
use Rattle.lq_log.specs.Made.{seen, load}
use Rattle.lq_table.proofs.StepFacts.{makes_one}
use Rattle.lq_table.specs.Sees.{steps}
use Rattle.lq_table.proofs.shared.Shared.load_producer.Goals as goal

pub load_word-requires : goal.load_word-requires
load_word-requires g c = (
  c.type_bounds.send-D,
  (
      let t = c.args.self.now in let k = keyed_setup t.table.kit.shared.key in let slots = t.table.kit.shared.table_id.slots in let seat = c.args.cpu.now.known.seat in let b = c.args.band in
      let place : producer_place b ≡ c.producer_word-word.result = sym c.producer_word-word.ensures in
      let word : c.producer_word-word.result < t.table.kit.shared.table_id.words = let wide = t.sized.0 in let small = c.requires.band in let p = place in omega arith in (
        c.requires.seat.0,
        word,
        subst (λ (z : ℕ). Allows (Rule k) slots seat.id (seen seat.me) z (λ x. x) (load_producer_told b (step slots z 0 0 none) (seen seat.me))) place
            (loads_producer k slots seat.id (seen seat.me) b c.requires.band c.requires.seat.1),
      )),
)

pub returns : goal.returns
returns g c = record {
  makes =
      let e = c.load_word.ensures in makes_one _ _ _ (e.0, e.1) refl refl e.2.told.0 (e.2.noted ∙ (λ j. load (c.producer_word-word.ensures j) c.load_word.result ∷ steps c.args.cpu.now)) e.2.told.1;
}
