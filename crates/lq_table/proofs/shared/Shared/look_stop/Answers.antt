mod Kept
use Rattle.std.proofs.Common.{◌≡◌, ℕ, ◌<◌, arith, sym, ap, subst, refl, ◌∷◌, ◌∙◌}
use Rattle.atomic_table.specs.Table.{step, Allows}
use Rattle.lq_table.specs.Rule.{Rule}
use Rattle.lq_table.specs.Keyed.{keyed_setup}
use Rattle.lq_table.proofs.shared.Shared.look_stop.Invariants.{look_stop_told_all}
use Rattle.lq_table.proofs.shared.Shared.look_stop.Answers.Kept.{looks_stop_sole}
use Rattle.lq_table.proofs.ByName.{xoff_in}
use mathlib.Core.Option.{none}
use Rattle.lq_log.specs.Made.{seen, load}
use Rattle.lq_table.proofs.StepFacts.{makes_one}
use Rattle.lq_table.specs.Places.{xoff_word}
use Rattle.lq_table.specs.Views.{Setup}
use Rattle.lq_table.specs.Sees.{steps}
use Rattle.lq_table.proofs.shared.Shared.look_stop.Goals as goal

pub load_word-requires : goal.load_word-requires
load_word-requires g c = (
  c.type_bounds.send-D,
  (
      let t = c.args.self.now in let k = keyed_setup t.table.kit.shared.key in let slots = t.table.kit.shared.table_id.slots in let seat = c.args.cpu.now.known.seat in
      let e : k.queues ≡ t.queues = t.same.5 in let below : c.args.queue < k.queues = (let b = c.requires.queue in omega arith) in (
        c.requires.seat.0,
        (let wide = t.sized.0 in let b = xoff_in k c.args.queue below in let w = c.stop_word-word.ensures.keyed in let s = t.same.1 in let m = t.same.2 in let l = ap Rattle.std.proofs.Common.length t.same.0 in omega arith),
        subst (λ (z : ℕ). Allows (Rule k) slots seat.id (seen seat.me) z (λ n. n) (look_stop_told_all c.args.queue (step slots z 0 0 none) (seen seat.me))) (sym c.stop_word-word.ensures.keyed)
            (looks_stop_sole k slots seat.id (seen seat.me) c.args.queue c.requires.at c.requires.seat.1),
      )),
)

pub returns : goal.returns
returns g c = record {
  makes =
      let e = c.load_word.ensures in (c.load_word.result, refl, makes_one _ _ _ (e.0, e.1) refl refl e.2.told.0 (e.2.noted ∙ (λ j. load ((c.stop_word-word.ensures.named ∙ ap (λ (k : Setup). xoff_word k c.args.queue) (sym c.requires.seat.2)) j) c.load_word.result ∷ steps c.args.cpu.now)) e.2.told.1);
}
