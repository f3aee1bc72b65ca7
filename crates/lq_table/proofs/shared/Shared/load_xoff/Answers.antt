mod Alone
mod Kept
mod Room
use Rattle.std.proofs.Common.{◌≡◌, ℕ, ◌<◌, ◌≤◌, length, arith, sym, ap, ◌∙◌, subst, List, refl, ◌∷◌}
use mathlib.Core.Option.{none}
use Rattle.lq_model.specs.declared.fate.Info.{Info}
use Rattle.atomic_table.specs.Table.{step, Allows}
use Rattle.lq_table.specs.Rule.{Rule}
use Rattle.lq_table.specs.Keyed.{keyed_setup}
use Rattle.lq_table.specs.Stops.{load_xoff_queue}
use Rattle.lq_table.specs.Sees.{steps}
use Rattle.lq_table.proofs.shared.Shared.load_xoff.Invariants.{load_xoff_told_all}
use Rattle.lq_table.proofs.ByName.{xoff_in}
use Rattle.lq_table.proofs.shared.Shared.load_xoff.Answers.Kept.{loads_stop_sole}
use Rattle.lq_table.proofs.shared.Shared.load_xoff.Answers.Alone.{loads_stop_solo}
use Rattle.lq_log.specs.Made.{seen, load}
use Rattle.lq_table.proofs.StepFacts.{makes_one}
use Rattle.lq_table.specs.Places.{xoff_word}
use Rattle.lq_table.specs.Views.{Setup}
use Rattle.lq_table.proofs.shared.Shared.load_xoff.Goals as goal

pub load_word-requires : goal.load_word-requires
load_word-requires g c = (
  c.type_bounds.send-D,
  (
      let t = c.args.self.now in let k = keyed_setup t.table.kit.shared.key in let slots = t.table.kit.shared.table_id.slots in let seat = c.args.cpu.now.known.seat in
      let e = t.same.5 in let below : c.args.queue < k.queues = (let b = c.requires.queue in omega arith) in
      let at : load_xoff_queue k.infos seat.me.0.view.holder.slot seat.me.0.view.place.position c.args.queue ≡ c.args.queue = subst (λ (xs : List Info). load_xoff_queue xs seat.me.0.view.holder.slot seat.me.0.view.place.position c.args.queue ≡ c.args.queue) (sym t.same.0) c.requires.at.1 in
      let few : length k.infos ≤ 1000000 = subst (λ (xs : List Info). length xs ≤ 1000000) (sym t.same.0) t.sized.2 in (
        c.requires.seat.0,
        (let wide = t.sized.0 in let b = xoff_in k c.args.queue below in let w = c.stop_word-word.ensures.keyed in let s = t.same.1 in let m = t.same.2 in let l = ap Rattle.std.proofs.Common.length t.same.0 in omega arith),
        subst (λ (z : ℕ). Allows (Rule k) slots seat.id (seen seat.me) z (λ x. x) (load_xoff_told_all c.args.queue (step slots z 0 0 none) (seen seat.me))) (sym c.stop_word-word.ensures.keyed)
            (loads_stop_sole k slots seat.id (seen seat.me) c.args.queue c.requires.at.0 at below few c.requires.seat.1),
      )),
)

pub returns : goal.returns
returns g c = record {
  makes =
      let e = c.load_word.ensures in makes_one _ _ _ (e.0, e.1) refl refl e.2.told.0.0 (e.2.noted ∙ (λ j. load ((c.stop_word-word.ensures.named ∙ ap (λ (k : Setup). xoff_word k c.args.queue) (sym c.requires.seat.2)) j) c.load_word.result ∷ steps c.args.cpu.now)) (e.2.told.0.1, e.2.told.0.2, loads_stop_solo c.args.cpu.now.known.seat.me.0.view c.load_word.result, e.2.told.1);
}
