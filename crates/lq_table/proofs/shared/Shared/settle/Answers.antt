mod Alone
mod Kept
mod Owed
mod Sent
use Rattle.std.proofs.Common.{◌≡◌, ℕ, ◌+◌, ◌<◌, arith, sym, subst, ap, ◌∙◌, length, List, refl, ◌∷◌}
use mathlib.Core.Option.{none}
use Rattle.lq_model.specs.declared.fate.Info.{Info}
use Rattle.lq_model.specs.Plan.{band_in}
use Rattle.atomic_table.specs.Table.{step, Allows}
use Rattle.lq_table.specs.Rule.{Rule, fates_offset}
use Rattle.lq_table.specs.Keyed.{keyed_setup}
use Rattle.lq_table.specs.Fates.{MaySettle, settle_view}
use Rattle.lq_table.specs.Sees.{view, carried, steps}
use Rattle.lq_table.proofs.shared.Shared.settle.Answers.Alone.{fates_solo}
use Rattle.lq_table.proofs.shared.Shared.settle.Answers.Kept.{settles_fate}
use Rattle.lq_log.specs.Made.{seen, becomes, store}
use Rattle.lq_table.proofs.StepFacts.{makes_one, fate_of_seat}
use Rattle.lq_table.specs.Views.{Setup}
use Rattle.lq_table.proofs.shared.Shared.settle.Goals as goal

pub store_word-requires : goal.store_word-requires
store_word-requires g c = λ _. (
  c.type_bounds.send-D,
  (
      let t = c.args.self.now in let k = keyed_setup t.table.kit.shared.key in let slots = t.table.kit.shared.table_id.slots in let seat = c.args.cpu.now.known.seat in
      let n = c.args.n in let f = c.args.fate in let st = carried c.args.cpu.now in let b = band_in k.infos n in
      let place : fates_offset k + n ≡ c.fate_word_of-word.result = sym c.fate_word_of-word.ensures in
      let inside : n < length k.infos = (let l = ap length t.same.0 in let h = c.requires.packet.0 in omega arith) in
      let word : c.fate_word_of-word.result < t.table.kit.shared.table_id.words = let wide = t.sized.0 in let inside = c.requires.packet.0 in let x = t.same.1 in let y = t.same.2 in let p = place in omega arith in
      let may = subst (λ (xs : List Info). MaySettle (band_in xs n) n f st seat.me.0.view) (sym t.same.0) c.requires.may in (
        c.requires.seat.0,
        word,
        subst (λ (z : ℕ × ℕ). Allows (Rule k) slots seat.id (seen seat.me) z.0 (λ _. z.1) (λ _. becomes (λ _. settle_view st b n f) (step slots z.0 z.1 0 none) (seen seat.me) z.1)) (λ j. (place j, sym c.fate_word.ensures.word j))
            (settles_fate k slots seat.id st (seen seat.me) b n f inside c.requires.packet.1 c.requires.seat.1 may),
      )),
)

pub returns : goal.returns
returns g c = record {
  makes =
      let e = c.store_word.ensures in let old = c.args.cpu.now in let t = c.args.self.now in let n = c.args.n in let f = c.args.fate in let st = carried old in let v = view old in
      let infos = t.same.0 ∙ sym (ap (λ (k : Setup). k.infos) c.requires.seat.2) in
      let to = e.2.told ∙ ap (λ (xs : List Info). (settle_view st (band_in xs n) n f v, old.known.seat.me.1)) infos in
      let may = subst (λ (xs : List Info). MaySettle (band_in xs n) n f st v) (ap (λ (k : Setup). k.infos) (sym c.requires.seat.2)) c.requires.may in
      makes_one _ _ _ (e.0, e.1) refl refl to (e.2.noted ∙ (λ j. store (fate_of_seat t old c.requires.seat n _ c.fate_word_of-word.ensures j) (c.fate_word.ensures.word j) ∷ steps old)) (fates_solo v st (band_in v.share.about.infos n) n f may);
}
