mod Kept
use Rattle.std.proofs.Common.{◌≡◌, ℕ, ◌+◌, ◌*◌, ◌<◌, arith, refl, sym, ap, ◌∙◌, subst, length, List, ◌∷◌, slice_index, eqb, eq-eqb, ne_eqb}
use mathlib.Core.Option.{none}
use prog.Atomic.{either}
use Rattle.lq_model.specs.declared.fate.Info.{Info}
use Rattle.lq_model.specs.Plan.{owner_in, station_in, rank_in}
use Rattle.atomic_table.specs.Table.{step, Allows}
use Rattle.lq_table.specs.Places.{turn_place}
use Rattle.lq_table.specs.Rule.{Rule, times}
use Rattle.lq_table.specs.Keyed.{keyed_setup}
use Rattle.lq_table.specs.Turns.{take_turn_view}
use Rattle.lq_table.specs.Sees.{view, steps}
use Rattle.lq_table.proofs.shared.Shared.take_turn.Invariants.{take_turn_told}
use Rattle.lq_table.proofs.CodeReads.{no_info, owner_read, rank_read}
use Rattle.lq_table.proofs.shared.Shared.take_turn.Answers.Kept.{takes_turn}
use Rattle.lq_log.specs.Made.{seen, exchange}
use Rattle.lq_table.proofs.StepFacts.{makes_one}
use Rattle.lq_table.specs.Views.{Setup}
use Rattle.lq_table.specs.Step.{due_word}
use Rattle.std.specs.Prelude.{if◌then◌else◌}
use Rattle.lq_table.proofs.shared.Shared.take_turn.Goals as goal

pub compare_exchange_word-found-requires : goal.compare_exchange_word-found-requires
compare_exchange_word-found-requires g c = (
  c.type_bounds.send-D,
  (
      let t = c.args.self.now in let k = keyed_setup t.table.kit.shared.key in let slots = t.table.kit.shared.table_id.slots in let seat = c.args.cpu.now.known.seat in let n = c.args.n in let p = c.requires.packet in
      let inside : n < length k.infos = subst (λ (xs : List Info). n < length xs) (sym t.same.0) p.0 in
      let here : station_in k.infos n ≡ k.station = ap (λ (xs : List Info). station_in xs n) t.same.0 ∙ (p.1 ∙ sym t.same.4) in
      let same = ap (λ (xs : List Info). owner_in xs n) (sym t.same.0) in
      let owner = owner_read t.infos.now n no_info p.0 ∙ same in let rank = rank_read t.infos.now n no_info p.0 ∙ ap (λ (xs : List Info). rank_in xs n) (sym t.same.0) in
      let mine : 0 < times (owner_in k.infos n) seat.me.0.view.share.owners = subst (λ (x : ℕ). 0 < times x seat.me.0.view.share.owners) same c.requires.owner.0 in (
        c.requires.seat.0,
        (let wide = t.sized.0 in let small = c.requires.owner.1 in let q = c.turn_word-word.ensures in let o = owner_read t.infos.now n no_info p.0 in let x : c.turn_word-word.result < t.table.kit.shared.table_id.words = omega arith in x),
        subst (λ (z : ℕ × ℕ × ℕ). Allows (Rule k) slots seat.id (seen seat.me) z.2 (λ x. either (eqb x (2 * z.1)) (2 * z.1 + 1) x) (take_turn_told n z.0 z.1 (step slots z.2 (2 * z.1) (2 * z.1 + 1) none) (seen seat.me)))
            (λ j. (sym owner j, sym rank j, (ap turn_place (sym owner) ∙ sym c.turn_word-word.ensures) j)) (takes_turn k slots seat.id (seen seat.me) n inside here mine c.requires.idle c.requires.seat.1),
      )),
)

pub returns-then-found-free : goal.returns-then-found-free
returns-then-found-free g c =
    let infos = c.args.self.now.infos.now in let n = c.args.n in let v = view c.args.cpu.now in let e = c.compare_exchange_word-found.ensures in let t = e.2.told in let is = c.if-found-free.true in
    let owner = owner_read infos n no_info c.requires.packet.0 in let rank = rank_read infos n no_info c.requires.packet.0 in let word = c.turn_word-word.ensures ∙ ap turn_place owner in record {
      makes =
          let old = c.args.cpu.now in let k = sym (ap (λ (x : Setup). x.infos) c.requires.seat.2) in let o = owner ∙ ap (λ (xs : List Info). owner_in xs n) k in let r = rank ∙ ap (λ (xs : List Info). rank_in xs n) k in let x = c.compare_exchange_word-found in
          let due = is ∙ ap (λ (y : ℕ). 2 * y) r in let found = eq-eqb x.result _ due in (
            x.result,
            due,
            makes_one _ _ _ (e.0, e.1) refl refl (t.1 is ∙ (λ j. (if sym found j then take_turn_view n (o j) (r j) v else v, old.known.seat.me.1)))
                (e.2.noted ∙ (λ j. exchange ((c.turn_word-word.ensures ∙ ap turn_place o) j) (2 * r j) (2 * r j + 1) ((eq-eqb _ _ is ∙ sym found) j) ∷ steps old)) (t.0 ∙ ap (slice_index v.turns) o),
          );
    }

pub returns-else-found-free : goal.returns-else-found-free
returns-else-found-free g c =
    let infos = c.args.self.now.infos.now in let n = c.args.n in let v = view c.args.cpu.now in let e = c.compare_exchange_word-found.ensures in let t = e.2.told in let apart = c.if-found-free.false in
    let owner = owner_read infos n no_info c.requires.packet.0 in let rank = rank_read infos n no_info c.requires.packet.0 in let word = c.turn_word-word.ensures ∙ ap turn_place owner in record {
      makes =
          let old = c.args.cpu.now in let k = sym (ap (λ (x : Setup). x.infos) c.requires.seat.2) in let o = owner ∙ ap (λ (xs : List Info). owner_in xs n) k in let r = rank ∙ ap (λ (xs : List Info). rank_in xs n) k in let x = c.compare_exchange_word-found in
          let other = λ (due : x.result ≡ due_word v n). apart (due ∙ ap (λ (y : ℕ). 2 * y) (sym r)) in let found = ne_eqb x.result (due_word v n) other in (
            x.result,
            (refl, other),
            makes_one _ _ _ (e.0, e.1) refl refl (t.2 apart ∙ (λ j. (if sym found j then take_turn_view n (owner_in v.share.about.infos n) (rank_in v.share.about.infos n) v else v, old.known.seat.me.1)))
                (e.2.noted ∙ (λ j. exchange ((c.turn_word-word.ensures ∙ ap turn_place o) j) (2 * r j) (2 * r j + 1) ((ne_eqb _ _ apart ∙ sym found) j) ∷ steps old)) (t.0 ∙ ap (slice_index v.turns) o),
          );
    }
