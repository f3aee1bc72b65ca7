use Rattle.std.specs.Prelude.{Option, false, true, ℕ, ◌≡◌}
use Rattle.lq_table.specs.States.{SeesState, miss_view}
use Rattle.atomic_table.specs.Table.{Step}
use Rattle.lq_device.specs.Station.{StationState}
use Rattle.lq_table.specs.Moves.{Sat, is_set}
use Rattle.lq_table.specs.Sees.{IsSole}
use Rattle.lq_table.proofs.shared.Shared.look_missed.Given as goal

-- where MISSED is set that is the set, and else nothing is done
abbrev pub look_missed_told : Step (Option StationState) → Sat → ℕ → Sat → Type 0
look_missed_told _ m found m' = (is_set 4 found ≡ false → m' ≡ m) × (is_set 4 found ≡ true → m' ≡ (miss_view true m.0, m.1))

abbrev pub look_missed_told_all : Step (Option StationState) → Sat → ℕ → Sat → Type 0
look_missed_told_all s m found m' = look_missed_told s m found m' × (IsSole m.0 → SeesState m.0 found)

abbrev pub ghosts-load_word : goal.ghosts-load_word
ghosts-load_word g a = record { told = look_missed_told_all }
