use Rattle.std.specs.Prelude.{Option, [], ℕ, ◌≡◌}
use Rattle.lq_table.specs.Locks.{unlock_view}
use Rattle.lq_device.specs.Station.{StationState}
use Rattle.atomic_table.specs.Table.{Step}
use Rattle.lq_table.specs.Moves.{Sat}
use Rattle.lq_table.proofs.shared.Shared.unlock.Given as goal

abbrev pub unlock_told : Step (Option StationState) → Sat → ℕ → Sat → Type 0
unlock_told _ m found m' = m' ≡ (unlock_view m.0, [])

abbrev pub ghosts-store_word : goal.ghosts-store_word
ghosts-store_word g a = record { told = unlock_told }
