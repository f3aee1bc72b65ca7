-- What a step allows may be told in another form; and a load may tell a seat nothing.
use Rattle.std.proofs.Common.{◌≡◌, ℕ, Option, get_or, refl}
use mathlib.Core.Option.{some, none}
use lib.ListN.{get_elem?}
use Rattle.atomic_table.specs.Table as table
use Rattle.lq_device.specs.Station.{StationState}
use Rattle.atomic_table.specs.Table.{step, Allows, keeps}
use Rattle.lq_table.specs.Views.{View, Setup}
use Rattle.lq_table.specs.Rule.{Rule}
use Rattle.lq_table.specs.Moves.{Sat, unchanged}
use Rattle.lq_table.proofs.Frames.{rule_same}

module _ (k : Setup) (slots id : ℕ) (m : Sat) (i : ℕ) where
  pub told_as : (f : ℕ → ℕ) (a b : ℕ → Sat → Type 0) → ((x : ℕ) (m' : Sat) → a x m' → b x m') → Allows (Rule k) slots id m i f a → Allows (Rule k) slots id m i f b
  told_as f a b h all s r deep here small = let z = all s r deep here small in (z.0, z.1, z.2, z.3, h _ _ z.4)

  pub loads_any : Allows (Rule k) slots id m i (λ x. x) (unchanged (step slots i 0 0 none) m)
  loads_any s r deep here small = (m.0, keeps, tt, rule_same k s r i id m.0 here, refl)

  -- with what the rule tells of the word besides
  pub also : (f : ℕ → ℕ) (a : ℕ → Sat → Type 0) (b : ℕ → Type 0) → ((s : table.State (Option StationState) View) → Rule k s → get_elem? s.views id ≡ some m.0 → b (get_or s.words i 0))
      → Allows (Rule k) slots id m i f a → Allows (Rule k) slots id m i f (λ x m'. a x m' × b x)
  also f a b h all s r deep here small = let z = all s r deep here small in (z.0, z.1, z.2, z.3, (z.4, h s r here))
