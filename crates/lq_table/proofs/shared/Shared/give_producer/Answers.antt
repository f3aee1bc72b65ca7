mod Kept
use Rattle.std.proofs.Common.{sym, ◌≡◌, ℕ, ◌*◌, ◌<◌, arith, subst, refl, ◌∷◌, ◌∙◌}
use mathlib.Core.Option.{none}
use Rattle.atomic_table.specs.Table.{step, Allows}
use Rattle.lq_table.specs.Places.{producer_place}
use Rattle.lq_table.specs.Rule.{Rule}
use Rattle.lq_table.specs.Keyed.{keyed_setup}
use Rattle.lq_table.specs.Producers.{with_lock_at}
use Rattle.lq_table.proofs.shared.Shared.give_producer.Answers.Kept.{gives_producer}
use Rattle.lq_log.specs.Made.{seen, becomes, store}
use Rattle.lq_band_laws.specs.Ring.{unlocked}
use Rattle.lq_table.proofs.StepFacts.{makes_one}
use Rattle.lq_table.specs.Sees.{steps}
use Rattle.lq_table.proofs.shared.Shared.give_producer.Goals as goal

pub store_word-requires : goal.store_word-requires
store_word-requires g c = (
  c.type_bounds.send-D,
  (
      let t = c.args.self.now in let k = keyed_setup t.table.kit.shared.key in let slots = t.table.kit.shared.table_id.slots in let seat = c.args.cpu.now.known.seat in let i = c.requires.index in
      let place : producer_place c.args.band ≡ c.producer_word-word.result = sym c.producer_word-word.ensures in
      let word : c.producer_word-word.result < t.table.kit.shared.table_id.words = let wide = t.sized.0 in let b = c.requires.band in let p = place in omega arith in (
        c.requires.seat.0,
        word,
        subst (λ (z : ℕ). Allows (Rule k) slots seat.id (seen seat.me) z (λ _. 2 * c.args.index) (λ _. becomes (λ _. with_lock_at c.args.band unlocked) (step slots z (2 * c.args.index) 0 none) (seen seat.me) (2 * c.args.index))) place
            (gives_producer k slots seat.id (seen seat.me) c.args.band i.0 c.args.index c.requires.band c.requires.lock.0 i.1 i.2 c.requires.seat.1 c.requires.lock.1),
      )),
)

pub returns : goal.returns
returns g c = record {
  makes =
      let e = c.store_word.ensures in makes_one _ _ _ (e.0, e.1) refl refl e.2.told (e.2.noted ∙ (λ j. store (c.producer_word-word.ensures j) (2 * c.args.index) ∷ steps c.args.cpu.now)) tt;
}
