mod Kept
use Rattle.std.proofs.Common.{arith, refl, ◌≡◌, ℕ, ◌/◌, ◌-◌, Some, ap, ◌∙◌}
use Rattle.lq_table.specs.Keyed.{keyed_setup}
use Rattle.lq_table.proofs.shared.Shared.begin_purge.Answers.Kept.{purges}
use Rattle.lq_log.specs.Made.{seen}
use Rattle.lq_table.proofs.StepFacts.{makes_one}
use Rattle.lq_model.specs.declared.fate.Cause.TheVariants as cause
use Rattle.lq_table.specs.Purges.{begin_purge_view}
use Rattle.lq_table.proofs.shared.Shared.begin_purge.Goals as goal

pub load_word-word-requires : goal.load_word-word-requires
load_word-word-requires g c = (
  c.type_bounds.send-D,
  (
      let t = c.args.self.now in let seat = c.args.cpu.now.known.seat in let at = c.requires.at in
      (c.requires.seat.0, (let wide = t.sized.0 in omega arith), purges (keyed_setup t.table.kit.shared.key) t.table.kit.shared.table_id.slots seat.id (seen seat.me) at.0 at.1 c.requires.calm.0 c.requires.calm.1 c.requires.packets.0 c.requires.packets.1 c.requires.seat.1)),
)

pub returns : goal.returns
returns g c = record {
  makes =
      let e = c.load_word-word.ensures in let t = e.2.told in let bits = t.4 in let word = t.5 in let is : t.0 ≡ c.load_word-word.result / 256 - 1 = omega arith in
      (t.2, c.load_word-word.result, makes_one _ _ _ (e.0, e.1) refl refl (t.10 ∙ ap (λ (n : ℕ). (begin_purge_view (cause.Event n) t.2 c.args.cpu.now.known.seat.me.0.view, c.args.cpu.now.known.seat.me.1)) is) e.2.noted (t.9 ∙ ap (λ (n : ℕ). Some n) is, t.6, t.7, t.8));
}
