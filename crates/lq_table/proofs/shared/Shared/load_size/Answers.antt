mod Kept
use Rattle.std.proofs.Common.{◌<◌, arith, refl, ℕ, ◌≤◌, sym, ap, ◌∙◌, subst}
use Rattle.lq_table.specs.Places.{size_place}
use Rattle.lq_table.specs.Keyed.{keyed_setup}
use Rattle.lq_table.proofs.shared.Shared.load_size.Answers.Kept.{loads_size}
use Rattle.lq_log.specs.Made.{seen}
use Rattle.lq_table.proofs.StepFacts.{makes_one}
use Rattle.lq_table.specs.Views.{Setup}
use Rattle.lq_table.proofs.shared.Shared.load_size.Goals as goal

pub load_word-requires : goal.load_word-requires
load_word-requires g c = (
  c.type_bounds.send-D,
  (
      let t = c.args.self.now in let k = keyed_setup t.table.kit.shared.key in let slots = t.table.kit.shared.table_id.slots in let seat = c.args.cpu.now.known.seat in
      let word : size_place < t.table.kit.shared.table_id.words = let wide = t.sized.0 in omega arith in
      (c.requires.seat.0, word, loads_size k slots seat.id (seen seat.me) c.requires.seat.1)),
)

pub returns : goal.returns
returns g c = record {
  makes =
      let e = c.load_word.ensures in makes_one _ _ _ (e.0, e.1) refl refl e.2.told.0 e.2.noted (e.2.told.1, subst (λ (l : ℕ). c.load_word.result ≤ l) (c.args.self.now.same.2 ∙ sym (ap (λ (k : Setup). k.max_len) c.requires.seat.2)) e.2.told.2, e.2.told.3);
}
