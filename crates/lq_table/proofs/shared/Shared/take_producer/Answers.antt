mod Kept
use Rattle.std.proofs.Common.{◌≡◌, ℕ, ◌+◌, ◌*◌, ◌/◌, ◌%◌, ◌<◌, ◌∷◌, arith, eq-eqb, ne_eqb, refl, sym, ap, ◌∙◌, subst}
use mathlib.Core.Option.{none}
use Rattle.atomic_table.specs.Table.{step, Allows}
use Rattle.lq_table.specs.Places.{producer_place}
use Rattle.lq_table.specs.Rule.{Rule}
use Rattle.lq_table.specs.Keyed.{keyed_setup}
use mathlib.Core.Logic.{dite}
use native.Mathlib.Decide.{ℕ_discrete}
use Rattle.lq_table.specs.Marks.{marks_of}
use Rattle.lq_table.specs.Moves.{Sat}
use Rattle.lq_table.proofs.shared.Shared.take_producer.Answers.Kept.{gets_producer_sole}
use prog.Atomic.{either}
use Rattle.std.proofs.Common.{eqb}
use Rattle.lq_log.specs.Made.{seen, exchange}
use Rattle.lq_table.specs.Sees.{view, steps, IsSole}
use Rattle.lq_table.proofs.shared.Shared.take_producer.Invariants.{take_producer_told_all}
use Rattle.std.proofs.lemmas.Bool.{false≢true}
use Rattle.lq_table.proofs.StepFacts.{makes_one}
use Rattle.lq_table.specs.Views.{Setup}
use Rattle.lq_table.proofs.shared.Shared.take_producer.Goals as goal

twice : (n : ℕ) → n % 2 ≡ 0 → n ≡ 2 * (n / 2)
twice n even = omega arith

pub compare_exchange_word-found-requires : goal.compare_exchange_word-found-requires
compare_exchange_word-found-requires g c = (
  c.type_bounds.send-D,
  (
      let t = c.args.self.now in let k = keyed_setup t.table.kit.shared.key in let slots = t.table.kit.shared.table_id.slots in let seat = c.args.cpu.now.known.seat in let b = c.args.band in let seen_ = c.args.seen in
      let place : producer_place b ≡ c.producer_word-word.result = sym c.producer_word-word.ensures in
      let word : c.producer_word-word.result < t.table.kit.shared.table_id.words = let wide = t.sized.0 in let small = c.requires.band in let p = place in omega arith in (
        c.requires.seat.0,
        word,
        subst (λ (z : ℕ × ℕ). Allows (Rule k) slots seat.id (seen seat.me) z.0 (λ x. either (eqb x z.1) (z.1 + 1) x) (take_producer_told_all b (seen_ / 2) k.max_len (step slots z.0 z.1 (z.1 + 1) none) (seen seat.me)))
            (λ j. (place j, sym (twice seen_ c.requires.even) j)) (gets_producer_sole k slots seat.id (seen seat.me) b c.requires.band c.requires.seat.1 (seen_ / 2) c.requires.idle),
      )),
)

pub invariant_of-cpu : goal.invariant_of-cpu
invariant_of-cpu g c =
    let x = c.compare_exchange_word-found in let t = x.ensures.2.told.0 in let marks = λ (m : Sat). marks_of m.0 in
    let to = dite (ℕ_discrete x.result (2 * (c.args.seen / 2))) (λ is. ap marks (t.0 is).0) (λ other. ap marks (t.1 other)) in
    record { told = c.args.cpu.now.known.told ∙ sym to }

pub returns-then-found-seen : goal.returns-then-found-seen
returns-then-found-seen g c =
    let old = c.args.cpu.now in let v = view old in let b = c.args.band in let seen_ = c.args.seen in
    let x = c.compare_exchange_word-found in let e = x.ensures in let is = c.if-found-seen.true in
    let got = e.2.told.0.0 (is ∙ twice seen_ c.requires.even) in let longest = c.args.self.now.same.2 ∙ sym (ap (λ (k : Setup). k.max_len) c.requires.seat.2) in
    let made = e.2.noted ∙ (λ j. exchange (c.producer_word-word.ensures j) seen_ (seen_ + 1) (eq-eqb x.result seen_ is j) ∷ steps old) in record {
      makes = makes_one _ _ _ (e.0, e.1) refl c.put.ensures got.0 made (λ _. subst (λ (l : ℕ). seen_ / 2 < l) longest got.1, λ sole. sym (eq-eqb seen_ _ (sym is ∙ e.2.told.1 sole c.requires.idle)));
    }

pub returns-else-found-seen : goal.returns-else-found-seen
returns-else-found-seen g c =
    let old = c.args.cpu.now in let v = view old in let seen_ = c.args.seen in
    let x = c.compare_exchange_word-found in let e = x.ensures in let apart = c.if-found-seen.false in
    let same = e.2.told.0.1 (λ is. apart (is ∙ sym (twice seen_ c.requires.even))) in
    let made = e.2.noted ∙ (λ j. exchange (c.producer_word-word.ensures j) seen_ (seen_ + 1) (ne_eqb x.result seen_ apart j) ∷ steps old) in record {
      makes = makes_one _ _ _ (e.0, e.1) refl refl same made (λ yes. absurd (false≢true yes), λ (sole : IsSole v). sym (ne_eqb seen_ _ (λ y. apart (e.2.told.1 sole c.requires.idle ∙ sym y))));
    }
