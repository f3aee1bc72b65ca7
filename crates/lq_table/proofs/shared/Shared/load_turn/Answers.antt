mod Kept
use Rattle.std.proofs.Common.{sym, ◌≡◌, ℕ, ◌<◌, arith, subst, refl, ◌∷◌, ◌∙◌}
use mathlib.Core.Option.{none}
use Rattle.atomic_table.specs.Table.{step, Allows}
use Rattle.lq_table.specs.Places.{turn_place}
use Rattle.lq_table.specs.Rule.{Rule}
use Rattle.lq_table.specs.Keyed.{keyed_setup}
use Rattle.lq_table.proofs.shared.Shared.load_turn.Invariants.{load_turn_told}
use Rattle.lq_table.proofs.shared.Shared.load_turn.Answers.Kept.{loads_turn}
use Rattle.lq_log.specs.Made.{seen, load}
use Rattle.lq_table.proofs.StepFacts.{makes_one}
use Rattle.lq_table.specs.Sees.{steps}
use Rattle.lq_table.proofs.shared.Shared.load_turn.Goals as goal

pub load_word-requires : goal.load_word-requires
load_word-requires g c = (
  c.type_bounds.send-D,
  (
      let t = c.args.self.now in let k = keyed_setup t.table.kit.shared.key in let slots = t.table.kit.shared.table_id.slots in let seat = c.args.cpu.now.known.seat in let o = c.args.owner in
      let place : turn_place o ≡ c.turn_word-word.result = sym c.turn_word-word.ensures in
      let below : o < k.senders = (let e = t.same.1 in let l = c.requires.owner in omega arith) in (
        c.requires.seat.0,
        (let wide = t.sized.0 in let small = c.requires.owner in let p = place in let x : c.turn_word-word.result < t.table.kit.shared.table_id.words = omega arith in x),
        subst (λ (z : ℕ). Allows (Rule k) slots seat.id (seen seat.me) z (λ x. x) (load_turn_told o (step slots z 0 0 none) (seen seat.me))) place (loads_turn k slots seat.id o (seen seat.me) below c.requires.seat.1),
      )),
)

pub returns : goal.returns
returns g c = record {
  makes =
      let e = c.load_word.ensures in makes_one _ _ _ (e.0, e.1) refl refl e.2.told.0 (e.2.noted ∙ (λ j. load (c.turn_word-word.ensures j) c.load_word.result ∷ steps c.args.cpu.now)) e.2.told.1;
}
