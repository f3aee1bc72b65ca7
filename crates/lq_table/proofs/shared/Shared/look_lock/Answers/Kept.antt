-- `look_lock` keeps the rule of the table.
use Rattle.std.proofs.Common.{◌≡◌, ℕ, ◌<◌, true, get_or, refl}
use mathlib.Core.Logic.{dite}
use mathlib.Core.Option.{none}
use native.Mathlib.Decide.{ℕ_discrete}
use Rattle.atomic_table.specs.Table.{step, Allows, keeps}
use Rattle.lq_table.specs.Places.{lock_place}
use Rattle.lq_table.specs.Views.{Setup}
use Rattle.lq_table.specs.Rule.{Rule}
use Rattle.lq_table.specs.Moves.{Sat}
use Rattle.lq_table.specs.Locks.{try_lock_at, look_lock_view}
use Rattle.lq_table.proofs.shared.Shared.look_lock.Invariants.{look_lock_told_all}
use Rattle.lq_table.proofs.LocksKept.{fails}
use Rattle.lq_table.proofs.SoleFacts.{sees_lock}
use Rattle.lq_table.proofs.Frames.{rule_same}

module _ (k : Setup) (slots id : ℕ) (m : Sat) where
  pub looks_lock : try_lock_at m.0.place.position ≡ true → 0 < m.0.share.shares → Allows (Rule k) slots id m lock_place (λ x. x) (look_lock_told_all (step slots lock_place 0 0 none) m)
  looks_lock at some_share s r deep here small =
      let n : ℕ = get_or s.words lock_place 0 in dite (ℕ_discrete n 0)
      (λ free. (m.0, keeps, tt, rule_same k s r lock_place id m.0 here, ((λ _. refl, λ held. absurd (held free)), λ sole. sees_lock k s r id m.0 here some_share sole)))
      (λ held. (look_lock_view m.0, keeps, tt, fails k id m some_share s r here held at, ((λ free. absurd (held free), λ _. refl), λ sole. sees_lock k s r id m.0 here some_share sole)))
