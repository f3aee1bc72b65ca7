mod Kept
use Rattle.std.proofs.Common.{ℕ, ◌<◌, arith, sym, ap, subst, Option, refl}
use mathlib.Core.Option.{none}
use Rattle.atomic_table.specs.Table.{step, Allows}
use Rattle.lq_table.specs.Places.{size_place}
use Rattle.lq_table.specs.Rule.{Rule}
use Rattle.lq_table.specs.Keyed.{keyed_setup}
use Rattle.std.specs.Option.{unwrap_or}
use Rattle.lq_table.specs.Views.{HalfResize, no_resizing}
use Rattle.lq_table.specs.Resizes.{store_size_view}
use Rattle.lq_table.proofs.shared.Shared.store_size.Answers.Kept.{stores_size}
use Rattle.lq_log.specs.Made.{seen, becomes}
use Rattle.lq_table.proofs.StepFacts.{makes_one}
use Rattle.lq_table.proofs.shared.Shared.store_size.Goals as goal

pub store_word-requires : goal.store_word-requires
store_word-requires g c = (
  c.type_bounds.send-D,
  (
      let t = c.args.self.now in let k = keyed_setup t.table.kit.shared.key in let slots = t.table.kit.shared.table_id.slots in let seat = c.args.cpu.now.known.seat in let h = c.requires.holder in let r = c.requires.ready in let half = sym (ap (λ (x : Option HalfResize). unwrap_or x no_resizing) r.1) in
      let word : size_place < t.table.kit.shared.table_id.words = let wide = t.sized.0 in omega arith in (
        c.requires.seat.0,
        word,
        subst (λ (z : ℕ × HalfResize). Allows (Rule k) slots seat.id (seen seat.me) size_place (λ _. z.0) (λ _. becomes (λ _. store_size_view z.1) (step slots size_place z.0 0 none) (seen seat.me) z.0)) (λ j. (sym r.2 j, half j))
            (stores_size k slots seat.id (seen seat.me) r.0 h r.1 c.requires.seat.1 r.3),
      )),
)

pub returns : goal.returns
returns g c = record {
  makes =
      let e = c.store_word.ensures in makes_one _ _ _ (e.0, e.1) refl refl e.2.told e.2.noted tt;
}
