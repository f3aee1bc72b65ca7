mod Kept
use Rattle.std.proofs.Common.{◌≡◌, ℕ, ◌+◌, ◌<◌, arith, sym, ap, ◌∙◌, subst, List, refl, ◌∷◌}
use mathlib.Core.Option.{none}
use Rattle.lq_model.specs.declared.fate.Info.{Info}
use Rattle.lq_model.specs.declared.machine.Position.TheVariants.{Put}
use Rattle.lq_model.specs.Plan.{band_in}
use Rattle.atomic_table.specs.Table.{step, Allows}
use Rattle.lq_band_laws.specs.Three.{at}
use Rattle.lq_table.specs.Views.{machine_packet}
use Rattle.lq_table.specs.Rule.{Rule, slot_word}
use Rattle.lq_table.specs.Keyed.{keyed_setup}
use Rattle.lq_table.proofs.ByName.{slot_within}
use Rattle.lq_table.specs.Producers.{store_slot_view}
use Rattle.lq_table.proofs.shared.Shared.store_slot.Answers.Kept.{stores_slot}
use Rattle.lq_log.specs.Made.{seen, becomes, store}
use Rattle.lq_table.proofs.StepFacts.{makes_one, slot_of_seat}
use Rattle.lq_table.specs.Sees.{steps, lock_at}
use Rattle.lq_table.proofs.shared.Shared.store_slot.Goals as goal

pub store_word-requires : goal.store_word-requires
store_word-requires g c = (
  c.type_bounds.send-D,
  (
      let t = c.args.self.now in let k = keyed_setup t.table.kit.shared.key in let slots = t.table.kit.shared.table_id.slots in let seat = c.args.cpu.now.known.seat in let b = c.args.band in let n = c.args.n in
      let lock = c.requires.lock in let i = c.at-index.result in let where_ = c.requires.at in
      let is : i ≡ (at b seat.me.0.view.locks).index = c.at-index.ensures ∙ sym lock.0.1 in
      let inside : i < k.max_len = let x = lock.0.2 in let y = t.same.2 in omega arith in
      let place : slot_word k b i ≡ c.slot_word-word.result = sym c.slot_word-word.ensures in
      let word : c.slot_word-word.result < t.table.kit.shared.table_id.words = let wide = t.sized.0 in let h = slot_within k b i c.requires.band inside in let x = t.same.1 in let y = t.same.2 in let p = place in omega arith in
      let position : seat.me.0.view.place.position ≡ Put (machine_packet k.infos n) where_.0 = where_.1 ∙ ap (λ (xs : List Info). Put (machine_packet xs n) where_.0) (sym t.same.0) in
      let of_band : band_in k.infos n ≡ b = subst (λ (xs : List Info). band_in xs n ≡ b) (sym t.same.0) c.requires.packet.1 in (
        c.requires.seat.0,
        word,
        subst (λ (z : ℕ). Allows (Rule k) slots seat.id (seen seat.me) z (λ _. n + 1) (λ _. becomes (λ _. store_slot_view b n) (step slots z (n + 1) 0 none) (seen seat.me) (n + 1))) place
            (stores_slot k slots seat.id (seen seat.me) b i n where_.0 c.requires.band inside position lock.0.0 lock.1 lock.2 is c.requires.packet.0 of_band c.requires.seat.1 lock.0.3),
      )),
)

pub returns : goal.returns
returns g c = record {
  makes =
      let e = c.store_word.ensures in let is = c.at-index.ensures ∙ sym c.requires.lock.0.1 in makes_one _ _ _ (e.0, e.1) refl refl e.2.told (e.2.noted ∙ (λ j. store (slot_of_seat c.args.self.now c.args.cpu.now c.requires.seat c.args.band c.at-index.result (lock_at c.args.band c.args.cpu.now).index _ c.slot_word-word.ensures is j) (c.args.n + 1) ∷ steps c.args.cpu.now)) tt;
}
