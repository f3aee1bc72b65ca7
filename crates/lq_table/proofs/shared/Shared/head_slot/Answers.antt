mod Kept
mod Marks
use Rattle.std.proofs.Common.{◌≡◌, ℕ, ◌∷◌, ◌<◌, ◌≤◌, arith, sym, ◌∙◌, subst, length, List, refl, ◌-◌, eqb, eq-eqb, eqb-true, true≢false}
use mathlib.Core.Option.{none}
use Rattle.lq_model.specs.declared.fate.Info.{Info}
use Rattle.atomic_table.specs.Table.{step, Allows}
use Rattle.lq_table.specs.Rule.{Rule, slot_word}
use Rattle.lq_table.specs.Keyed.{keyed_setup}
use Rattle.lq_table.proofs.ByName.{slot_within}
use Rattle.lq_table.proofs.shared.Shared.head_slot.Answers.Marks.{head_marks}
use Rattle.lq_table.proofs.shared.Shared.head_slot.Answers.Kept.{sees_head_sole}
use Rattle.lq_log.specs.Made.{seen, load}
use Rattle.lq_table.specs.Sees.{steps, ends_at, view}
use Rattle.lq_table.proofs.shared.Shared.head_slot.Invariants.{head_slot_told_all}
use Rattle.lq_table.proofs.CodeReads.{head_read}
use Rattle.lq_table.proofs.StepFacts.{makes_one, slot_of_seat, decided}
use Rattle.lq_table.specs.Consumers.{head_slot_view, head_slot_view_empty}
use Rattle.lq_table.proofs.shared.Shared.head_slot.Goals as goal

pub load_word-requires : goal.load_word-requires
load_word-requires g c = (
  c.type_bounds.send-D,
  (
      let t = c.args.self.now in let k = keyed_setup t.table.kit.shared.key in let slots = t.table.kit.shared.table_id.slots in let seat = c.args.cpu.now.known.seat in let b = c.args.band in
      let where_ = c.requires.at in let i = c.head-head.result in let head = head_read c.args.cpu.now.station c.station.result.now c.args.band c.head-head.result (ends_at c.args.band c.args.cpu.now).head c.station.ensures c.head-head.ensures c.requires.station.1 in
      let inside : i < k.max_len = let x = c.requires.head in let h = head in let y = t.same.2 in omega arith in
      let place : slot_word k b i ≡ c.slot_word-word.result = sym c.slot_word-word.ensures in
      let word : c.slot_word-word.result < t.table.kit.shared.table_id.words = let wide = t.sized.0 in let h = slot_within k b i c.requires.band inside in let x = t.same.1 in let y = t.same.2 in let p = place in omega arith in
      let few : length k.infos ≤ 1000000 = subst (λ (xs : List Info). length xs ≤ 1000000) (sym t.same.0) t.sized.2 in (
        c.requires.seat.0,
        word,
        subst (λ (z : ℕ). Allows (Rule k) slots seat.id (seen seat.me) z (λ x. x) (head_slot_told_all b (step slots z 0 0 none) (seen seat.me))) place
            (sees_head_sole k slots seat.id (seen seat.me) b i where_.0 c.requires.band inside where_.1 c.requires.rests.0 c.requires.rests.1 head c.requires.seat.1 few),
      )),
)

pub invariant_of-cpu : goal.invariant_of-cpu
invariant_of-cpu g c =
    let at = c.requires.at in
    record { told = c.args.cpu.now.known.told ∙ sym (head_marks _ c.load_word.result at.0 (step c.args.self.now.table.kit.shared.table_id.slots c.slot_word-word.result 0 0 none) (seen c.args.cpu.now.known.seat.me) (seen c.load_word.new.seat.me) at.1 c.load_word.ensures.2.told.0) }

pub returns : goal.returns
returns g c = record {
  makes =
      let e = c.load_word.ensures in let x = c.load_word in let old = c.args.cpu.now in let b = c.args.band in let v = view old in
      let to = decided (eqb x.result 0) (seen x.new.seat.me) (head_slot_view_empty b v) (head_slot_view b (x.result - 1) v) old.known.seat.me.1 (λ y. e.2.told.0.0 (eqb-true x.result 0 y)) (λ n. e.2.told.0.1 (λ y. true≢false (sym (eq-eqb x.result 0 y) ∙ n))) in
      let head = head_read old.station c.station.result.now b c.head-head.result (ends_at b old).head c.station.ensures c.head-head.ensures c.requires.station.1 in
      makes_one _ _ _ (e.0, e.1) refl refl to (e.2.noted ∙ (λ j. load (slot_of_seat c.args.self.now c.args.cpu.now c.requires.seat c.args.band c.head-head.result (ends_at b old).head _ c.slot_word-word.ensures head j) x.result ∷ steps c.args.cpu.now)) (e.2.told.0.2, e.2.told.1.0, e.2.told.1.1);
}
