-- What `look_lock` makes of what a seat has, and what it tells it.
use Rattle.std.proofs.Common.{◌≡◌, ◌≢◌, ℕ, Bool, true, false, not, eqb, eqb-true, eq-eqb, true≢false, sym, ap, ◌∙◌, refl, Option}
use Rattle.std.specs.Prelude.{if◌then◌else◌, ◌==◌}
use Rattle.lq_device.specs.Station.{StationState}
use Rattle.lq_model.specs.Machine.{bit}
use Rattle.lq_table.specs.Moves.{Sat}
use Rattle.lq_table.specs.Locks.{try_lock_at, look_lock_view}
use Rattle.lq_table.specs.Sees.{IsSole}
use Rattle.lq_table.specs.Step.{LookLock, Standing, step_tells}
use Rattle.lq_table.proofs.shared.Shared.look_lock.Invariants.{look_lock_told}
use Rattle.atomic_table.specs.Table.{Step}
use Rattle.lq_table.proofs.StepFacts.{decided}
use Rattle.lq_table.proofs.TriesSolo.{finds_solo}

held_as : (found : ℕ) (b : Bool) → found ≡ bit b → not (eqb found 0) ≡ b
held_as found true e = ap (λ (n : ℕ). not (eqb n 0)) e
held_as found false e = ap (λ (n : ℕ). not (eqb n 0)) e

locked_where : (found : ℕ) (b : Bool) → found ≡ bit b → found ≢ 0 → b ≡ true
locked_where found true e n = refl
locked_where found false e n = absurd (n e)

pub look_becomes : (s : Step (Option StationState)) (found : ℕ) (m m' : Sat) → look_lock_told s m found m' → m' ≡ (if found == 0 then m.0 else look_lock_view m.0, m.1)
look_becomes s found m m' t = decided (eqb found 0) m' m.0 (look_lock_view m.0) m.1 (λ is. t.0 (eqb-true found 0 is)) (λ no_. t.1 (λ is. true≢false (sym (eq-eqb found 0 is) ∙ no_)))

pub look_tells : (found : ℕ) (s : Standing) → try_lock_at s.view.place.position ≡ true → (IsSole s.view → found ≡ bit s.view.whole.qdisc.locked) → step_tells (LookLock found) s
look_tells found s h t = λ sole. (held_as found _ (t sole), λ n. finds_solo s.view h (locked_where found _ (t sole) n))
