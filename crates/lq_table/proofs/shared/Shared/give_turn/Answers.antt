mod Kept
use Rattle.std.proofs.Common.{ℕ, ◌+◌, ◌*◌, ◌<◌, arith, refl, sym, ap, ◌∙◌, subst, List, ◌∷◌}
use mathlib.Core.Option.{none}
use Rattle.lq_model.specs.declared.fate.Info.{Info}
use Rattle.lq_model.specs.Plan.{owner_in, rank_in}
use Rattle.atomic_table.specs.Table.{step, Allows}
use Rattle.lq_table.specs.Places.{turn_place}
use Rattle.lq_table.specs.Rule.{Rule}
use Rattle.lq_table.specs.Keyed.{keyed_setup}
use Rattle.lq_table.specs.Turns.{give_turn_view}
use Rattle.lq_table.specs.Sees.{view, steps}
use Rattle.lq_table.proofs.CodeReads.{no_info, owner_read, rank_read}
use Rattle.lq_table.proofs.shared.Shared.give_turn.Answers.Kept.{gives_turn}
use Rattle.lq_log.specs.Made.{seen, becomes, store}
use Rattle.lq_table.proofs.StepFacts.{makes_one}
use Rattle.lq_table.specs.Views.{Setup}
use Rattle.lq_table.proofs.shared.Shared.give_turn.Goals as goal

pub store_word-requires : goal.store_word-requires
store_word-requires g c = (
  c.type_bounds.send-D,
  (
      let t = c.args.self.now in let k = keyed_setup t.table.kit.shared.key in let slots = t.table.kit.shared.table_id.slots in let seat = c.args.cpu.now.known.seat in let n = c.args.n in let p = c.requires.packet in
      let o = owner_read t.infos.now n no_info p.0 in
      let owner = o ∙ ap (λ (xs : List Info). owner_in xs n) (sym t.same.0) in let rank = rank_read t.infos.now n no_info p.0 ∙ ap (λ (xs : List Info). rank_in xs n) (sym t.same.0) in (
        c.requires.seat.0,
        (let wide = t.sized.0 in let small = p.1 in let q = c.turn_word-word.ensures in let x : c.turn_word-word.result < t.table.kit.shared.table_id.words = omega arith in x),
        subst (λ (z : ℕ × ℕ × ℕ). Allows (Rule k) slots seat.id (seen seat.me) z.2 (λ _. 2 * z.1 + 2) (becomes (λ _. give_turn_view z.0 z.1) (step slots z.2 (2 * z.1 + 2) 0 none) (seen seat.me)))
            (λ j. (sym owner j, sym rank j, (ap turn_place (sym owner) ∙ sym c.turn_word-word.ensures) j)) (gives_turn k slots seat.id (seen seat.me) n c.requires.left.0 c.requires.busy.0 c.requires.busy.1 c.requires.seat.1),
      )),
)

pub returns : goal.returns
returns g c =
    let infos = c.args.self.now.infos.now in let n = c.args.n in let e = c.store_word.ensures in
    let owner = owner_read infos n no_info c.requires.packet.0 in let rank = rank_read infos n no_info c.requires.packet.0 in let word = c.turn_word-word.ensures ∙ ap turn_place owner in record {
      makes =
          let old = c.args.cpu.now in let k = sym (ap (λ (x : Setup). x.infos) c.requires.seat.2) in let o = owner ∙ ap (λ (xs : List Info). owner_in xs n) k in let r = rank ∙ ap (λ (xs : List Info). rank_in xs n) k in
          makes_one _ _ _ (e.0, e.1) refl refl (e.2.told ∙ (λ j. (give_turn_view (o j) (r j) (view old), old.known.seat.me.1)))
          (e.2.noted ∙ (λ j. store ((c.turn_word-word.ensures ∙ ap turn_place o) j) (2 * r j + 2) ∷ steps old)) tt;
    }
