mod Kept
use Rattle.std.proofs.Common.{ℕ, ◌<◌, arith, sym, ap, subst, refl, ◌∷◌, ◌∙◌}
use mathlib.Core.Option.{none}
use Rattle.atomic_table.specs.Table.{step, Allows}
use Rattle.lq_table.specs.Rule.{Rule}
use Rattle.lq_table.specs.Keyed.{keyed_setup}
use Rattle.lq_table.specs.Controls.{open_xoff_view}
use Rattle.lq_table.proofs.ByName.{xoff_in}
use Rattle.lq_table.proofs.shared.Shared.open_xoff.Answers.Kept.{opens_next}
use Rattle.lq_log.specs.Made.{seen, becomes, store}
use Rattle.lq_table.proofs.StepFacts.{makes_one}
use Rattle.lq_table.specs.Places.{xoff_word}
use Rattle.lq_table.specs.Views.{Setup}
use Rattle.lq_table.specs.Sees.{steps}
use Rattle.lq_table.proofs.shared.Shared.open_xoff.Goals as goal

pub store_word-requires : goal.store_word-requires
store_word-requires g c = (
  c.type_bounds.send-D,
  (
      let t = c.args.self.now in let k = keyed_setup t.table.kit.shared.key in let slots = t.table.kit.shared.table_id.slots in let seat = c.args.cpu.now.known.seat in let at = c.requires.at in let p = c.requires.purged in
      let e = t.same.5 in let below : c.args.queue < k.queues = (let b = c.requires.queue in omega arith) in (
        c.requires.seat.0,
        (let wide = t.sized.0 in let b = xoff_in k c.args.queue below in let w = c.stop_word-word.ensures.keyed in let s = t.same.1 in let m = t.same.2 in let l = ap Rattle.std.proofs.Common.length t.same.0 in omega arith),
        subst (λ (z : ℕ). Allows (Rule k) slots seat.id (seen seat.me) z (λ _. 0) (becomes (λ _. open_xoff_view c.args.queue) (step slots z 0 0 none) (seen seat.me))) (sym c.stop_word-word.ensures.keyed)
            (opens_next k slots seat.id c.args.queue (seen seat.me) below at.1 at.0 p.0 p.1 c.requires.seat.1),
      )),
)

pub returns : goal.returns
returns g c = record {
  makes =
      let e = c.store_word.ensures in makes_one _ _ _ (e.0, e.1) refl refl e.2.told (e.2.noted ∙ (λ j. store ((c.stop_word-word.ensures.named ∙ ap (λ (k : Setup). xoff_word k c.args.queue) (sym c.requires.seat.2)) j) 0 ∷ steps c.args.cpu.now)) tt;
}
