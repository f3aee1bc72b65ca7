-- What each operation asks: whatever the table is, the seat has a new view, told so, that keeps the rule.
use Rattle.std.specs.Prelude.{ℕ, ◌+◌, ◌-◌, ◌%◌, ◌^◌, bit_or, bit_and, eqb}
use mathlib.Core.Option.{none}
use prog.Atomic.{either}
use Rattle.atomic_table.specs.Table.{Me, Step, State, Allows, step}
use Rattle.lq_log.specs.Made.{WithSteps, seen}

module _ {S V : Type 0} (holds : State S V → Type 0) (slots id : ℕ) (m : Me S (WithSteps V)) (told : Step S → Me S V → ℕ → Me S V → Type 0) (word : ℕ) where
  abbrev pub AllowsLoad : Type 0
  AllowsLoad = Allows holds slots id (seen m) word (λ n. n) (told (step slots word 0 0 none) (seen m))

  abbrev pub AllowsStore : ℕ → Type 0
  AllowsStore new = Allows holds slots id (seen m) word (λ _. new) (λ _. told (step slots word new 0 none) (seen m) new)

  abbrev pub AllowsSwap : ℕ → Type 0
  AllowsSwap new = Allows holds slots id (seen m) word (λ _. new) (told (step slots word new 0 none) (seen m))

  abbrev pub AllowsExchange : ℕ → ℕ → Type 0
  AllowsExchange old new = Allows holds slots id (seen m) word (λ n. either (eqb n old) new n) (told (step slots word old new none) (seen m))

  abbrev pub AllowsSet : ℕ → Type 0
  AllowsSet bits = Allows holds slots id (seen m) word (λ n. bit_or n bits) (told (step slots word bits 0 none) (seen m))

  abbrev pub AllowsClear : ℕ → Type 0
  AllowsClear bits = Allows holds slots id (seen m) word (λ n. bit_and n bits) (told (step slots word bits 0 none) (seen m))

  abbrev pub AllowsRise : ℕ → Type 0
  AllowsRise more = Allows holds slots id (seen m) word (λ n. (n + more) % 2 ^ 64) (told (step slots word more 0 none) (seen m))

  abbrev pub AllowsFall : ℕ → Type 0
  AllowsFall less = Allows holds slots id (seen m) word (λ n. (n + (2 ^ 64 - less)) % 2 ^ 64) (told (step slots word less 0 none) (seen m))
