mod Kept
use Rattle.std.proofs.Common.{◌≡◌, ℕ, ◌<◌, arith, eq-eqb, eqb-true, true≢false, refl, sym, ap, ◌∙◌, subst, eqb, ◌∷◌}
use mathlib.Core.Logic.{dite}
use native.Mathlib.Decide.{ℕ_discrete}
use Rattle.lq_table.specs.Marks.{marks_of}
use Rattle.lq_table.specs.Moves.{Sat}
use prog.Atomic.{either}
use Rattle.atomic_table.specs.Table.{step, Allows}
use Rattle.lq_table.specs.Rule.{Rule}
use Rattle.lq_table.specs.Keyed.{keyed_setup}
use Rattle.lq_table.proofs.shared.Shared.wake.Invariants.{wake_told_all}
use Rattle.lq_table.proofs.shared.Shared.wake.Answers.Kept.{wakes_sole}
use Rattle.lq_table.proofs.ByName.{xoff_in}
use mathlib.Core.Option.{none}
use Rattle.lq_log.specs.Made.{seen, exchange}
use Rattle.lq_table.proofs.StepFacts.{makes_one, decided}
use Rattle.lq_table.specs.Places.{xoff_word}
use Rattle.lq_table.specs.Views.{Setup}
use Rattle.lq_table.specs.Sees.{steps, view}
use Rattle.lq_table.specs.Stops.{wake_view}
use Rattle.lq_table.proofs.shared.Shared.wake.Goals as goal

pub compare_exchange_word-found-requires : goal.compare_exchange_word-found-requires
compare_exchange_word-found-requires g c = (
  c.type_bounds.send-D,
  (
      let t = c.args.self.now in let k = keyed_setup t.table.kit.shared.key in let slots = t.table.kit.shared.table_id.slots in let seat = c.args.cpu.now.known.seat in
      let e : k.queues ≡ t.queues = t.same.5 in let below : c.args.queue < k.queues = (let b = c.requires.queue in omega arith) in (
        c.requires.seat.0,
        (let wide = t.sized.0 in let b = xoff_in k c.args.queue below in let w = c.stop_word-word.ensures.keyed in let s = t.same.1 in let m = t.same.2 in let l = ap Rattle.std.proofs.Common.length t.same.0 in omega arith),
        subst (λ (z : ℕ). Allows (Rule k) slots seat.id (seen seat.me) z (λ n. either (eqb n 1) 0 n) (wake_told_all c.args.queue (step slots z 1 0 none) (seen seat.me))) (sym c.stop_word-word.ensures.keyed)
            (wakes_sole k slots seat.id (seen seat.me) c.args.queue below c.requires.at c.requires.seat.1),
      )),
)

pub invariant_of-cpu : goal.invariant_of-cpu
invariant_of-cpu g c =
    let x = c.compare_exchange_word-found in let t = x.ensures.2.told.0 in
    let marks = λ (m : Sat). marks_of m.0 in
    let to = dite (ℕ_discrete x.result 1) (λ is. ap marks (t.0 is)) (λ other. ap marks (t.1 other)) in
    record { told = c.args.cpu.now.known.told ∙ sym to }

pub returns : goal.returns
returns g c = record {
  makes =
      let e = c.compare_exchange_word-found.ensures in let x = c.compare_exchange_word-found in let old = c.args.cpu.now in let v = view old in
      let to = decided (eqb x.result 1) (seen x.new.seat.me) (wake_view c.args.queue v) (v) old.known.seat.me.1 (λ y. e.2.told.0.0 (eqb-true x.result 1 y)) (λ n. e.2.told.0.1 (λ y. true≢false (sym (eq-eqb x.result 1 y) ∙ n))) in
      makes_one _ _ _ (e.0, e.1) refl refl to (e.2.noted ∙ (λ j. exchange ((c.stop_word-word.ensures.named ∙ ap (λ (k : Setup). xoff_word k c.args.queue) (sym c.requires.seat.2)) j) 1 0 (eqb x.result 1) ∷ steps old)) (λ sole. ap (λ (n : ℕ). eqb n 1) (e.2.told.1 sole));
}
