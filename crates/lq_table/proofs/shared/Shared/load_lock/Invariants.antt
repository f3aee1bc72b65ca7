use Rattle.std.specs.Prelude.{Option, ℕ}
use Rattle.lq_table.specs.AtRest.{IsSoleAtRest, KnowsRest}
use Rattle.lq_device.specs.Station.{StationState}
use Rattle.atomic_table.specs.Table.{Step}
use Rattle.lq_table.specs.Moves.{Sat, unchanged}
use Rattle.lq_table.proofs.shared.Shared.load_lock.Given as goal

-- a load of the run lock
abbrev pub load_lock_told : Step (Option StationState) → Sat → ℕ → Sat → Type 0
load_lock_told step m found m' = unchanged step m found m' × (IsSoleAtRest m.0 → KnowsRest m.0)

abbrev pub ghosts-load_word : goal.ghosts-load_word
ghosts-load_word g a = record { told = load_lock_told }
