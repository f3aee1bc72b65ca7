-- What `try_lock` makes of what a seat has, and what it tells it.
use mathlib.Core.Logic.{dite}
use native.Mathlib.Decide.{ℕ_discrete}
use Rattle.std.proofs.Common.{◌≡◌, ◌≢◌, ◌∷◌, ℕ, Bool, true, false, eqb, eq-eqb, ne_eqb, refl, sym, ap, ◌∙◌, arith, Option, Some, None}
use Rattle.std.specs.Prelude.{is_some}
use Rattle.lq_device.specs.Station.{StationState}
use Rattle.lq_model.specs.Machine.{bit}
use Rattle.lq_table.specs.Locks.{try_lock_at, try_lock_log}
use Rattle.lq_table.specs.Sees.{IsSole}
use Rattle.lq_table.specs.Step.{Standing, TryLock, step_leaves, step_tells}
use Rattle.lq_table.specs.Views.{HolderPart}
use Rattle.atomic_table.specs.Table.{Step}
use Rattle.lq_table.proofs.TriesSolo.{finds_solo}
use Rattle.lq_table.proofs.shared.Shared.try_lock.Invariants.{try_lock_told}
use Rattle.lq_table.proofs.shared.Shared.try_lock.Answers.Alone.{gets_accounts, gets_solo}

held_where : (found : ℕ) (b : Bool) → found ≡ bit b → found ≢ 0 → b ≡ true
held_where found true e n = refl
held_where found false e n = absurd (n e)

free_where : (found : ℕ) (b : Bool) → found ≡ bit b → found ≡ 0 → b ≡ false
free_where found true e is = absurd (let one : 1 ≡ 0 = sym e ∙ is in omega arith)
free_where found false e is = refl

-- what lies there where the lock was free, the seat has
pub tried : (s : Step (Option StationState)) (found : ℕ) (b a : Standing) → try_lock_at b.view.place.position ≡ true → try_lock_told s (b.view, b.slot) found (a.view, a.slot)
    → (IsSole b.view → found ≡ bit b.view.whole.qdisc.locked) → a.station ≡ b.station → a.indices ≡ b.indices → a.steps ≡ try_lock_log (eqb found 0) ∷ b.steps
    → (got : Option HolderPart) × (eqb found 0 ≡ is_some got) × (a ≡ step_leaves (TryLock got) b) × step_tells (TryLock got) b
tried s found b a h t finds station indices noted = dite (ℕ_discrete found 0)
    (λ is.
    let d = t.0 is in let made : a.steps ≡ try_lock_log true ∷ b.steps = noted ∙ ap (λ (x : Bool). try_lock_log x ∷ b.steps) (eq-eqb found 0 is) in (
      Some d.0,
      eq-eqb found 0 is,
      λ j. record { view = (d.1 j).0; slot = (d.1 j).1; station = station j; indices = indices j; steps = made j },
      (d.2, d.3, d.4, d.5, d.6, d.8, d.9, λ sole. (free_where found _ (finds sole) is, gets_solo b.view.place.position h d.0 b.view, gets_accounts d.0 b.view (d.7 sole.0 sole.1))),
    ))
    (λ n.
    let m = t.1 n in let made : a.steps ≡ try_lock_log false ∷ b.steps = noted ∙ ap (λ (x : Bool). try_lock_log x ∷ b.steps) (ne_eqb found 0 n) in (
      None,
      ne_eqb found 0 n,
      λ j. record { view = (m j).0; slot = (m j).1; station = station j; indices = indices j; steps = made j },
      λ sole. (let held = held_where found _ (finds sole) n in (held, finds_solo b.view h held)),
    ))
