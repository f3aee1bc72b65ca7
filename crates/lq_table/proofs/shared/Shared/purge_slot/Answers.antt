mod Kept
use Rattle.std.proofs.Common.{◌≡◌, ℕ, ◌<◌, ◌≤◌, ◌-◌, ◌∷◌, arith, sym, ap, ◌∙◌, subst, length, List, Option, refl, eqb, eq-eqb, eqb-true, true≢false}
use mathlib.Core.Option.{none}
use Rattle.lq_model.specs.declared.fate.Info.{Info}
use Rattle.atomic_table.specs.Table.{step, Allows}
use Rattle.lq_table.specs.Rule.{Rule, slot_word}
use Rattle.lq_table.specs.Keyed.{keyed_setup}
use Rattle.lq_table.proofs.ByName.{slot_within}
use Rattle.lq_table.proofs.shared.Shared.purge_slot.Answers.Kept.{purge_sees}
use Rattle.lq_log.specs.Made.{seen, load}
use Rattle.std.specs.Option.{unwrap_or}
use Rattle.lq_model.specs.Machine.{Purge}
use Rattle.lq_table.specs.Views.{Left, no_left}
use Rattle.lq_table.specs.Purges.{first_purge, purge_slot_view_empty, purge_slot_view}
use Rattle.lq_band_laws.specs.Three.{at}
use Rattle.lq_table.specs.Sees.{view, steps, ends_at}
use Rattle.lq_table.proofs.shared.Shared.purge_slot.Invariants.{purge_slot_told}
use Rattle.lq_table.proofs.CodeReads.{head_read}
use Rattle.lq_table.proofs.StepFacts.{makes_one, slot_of_seat, decided}
use Rattle.lq_table.specs.Step.{purge_left, purge_of}
use Rattle.lq_table.proofs.shared.Shared.purge_slot.Goals as goal

pub load_word-requires : goal.load_word-requires
load_word-requires g c = (
  c.type_bounds.send-D,
  (
      let t = c.args.self.now in let k = keyed_setup t.table.kit.shared.key in let slots = t.table.kit.shared.table_id.slots in let seat = c.args.cpu.now.known.seat in let b = c.args.band in
      let i = c.head-head.result in let at = c.requires.at in let left = ap (λ (x : Option Left). unwrap_or x no_left) at.5 in let purge = ap (λ (x : Option Purge). unwrap_or x first_purge) at.3 in
      let head = head_read c.args.cpu.now.station c.station.result.now c.args.band c.head-head.result (ends_at c.args.band c.args.cpu.now).head c.station.ensures c.head-head.ensures c.requires.station.1 in
      let inside : i < k.max_len = let x = c.requires.head in let h = head in let y = t.same.2 in omega arith in
      let place : slot_word k b i ≡ c.slot_word-word.result = sym c.slot_word-word.ensures in
      let word : c.slot_word-word.result < t.table.kit.shared.table_id.words = let wide = t.sized.0 in let h = slot_within k b i c.requires.band inside in let x = t.same.1 in let y = t.same.2 in let p = place in omega arith in
      let few : length k.infos ≤ 1000000 = subst (λ (xs : List Info). length xs ≤ 1000000) (sym t.same.0) t.sized.2 in (
        c.requires.seat.0,
        word,
        subst (λ (z : ℕ × Purge × Left). Allows (Rule k) slots seat.id (seen seat.me) z.0 (λ x. x) (purge_slot_told b z.1 z.2 (step slots z.0 0 0 none) (seen seat.me))) (λ j. (place j, sym purge j, sym left j))
            (purge_sees k slots seat.id (seen seat.me) b i at.0 at.1 c.requires.band inside few at.2 at.3 at.4 at.5 c.requires.packets.0 c.requires.packets.1 c.requires.rests.0 c.requires.rests.1 head c.requires.seat.1),
      )),
)

pub returns : goal.returns
returns g c = record {
  makes =
      let e = c.load_word.ensures in let x = c.load_word in let old = c.args.cpu.now in let b = c.args.band in let v = view old in
      let to = decided (eqb x.result 0) (seen x.new.seat.me) (purge_slot_view_empty (purge_of v) v) (purge_slot_view b (x.result - 1) (purge_left v) v) old.known.seat.me.1 (λ y. (e.2.told.0 (eqb-true x.result 0 y)).1) (λ n. (e.2.told.1 (λ y. true≢false (sym (eq-eqb x.result 0 y) ∙ n))).1) in
      let head = head_read old.station c.station.result.now b c.head-head.result (ends_at b old).head c.station.ensures c.head-head.ensures c.requires.station.1 in
      makes_one _ _ _ (e.0, e.1) refl refl to (e.2.noted ∙ (λ j. load (slot_of_seat c.args.self.now c.args.cpu.now c.requires.seat c.args.band c.head-head.result (ends_at b old).head _ c.slot_word-word.ensures head j) x.result ∷ steps c.args.cpu.now)) (e.2.told.2, (λ is. (e.2.told.0 is).0), (λ some. (e.2.told.1 some).0));
}
