use Rattle.std.specs.Prelude.{Option, ℕ}
use Rattle.lq_table.specs.States.{SeesState, load_state_view}
use Rattle.lq_device.specs.Station.{StationState}
use Rattle.atomic_table.specs.Table.{Step}
use Rattle.lq_table.specs.Moves.{Sat}
use Rattle.lq_table.specs.Sees.{IsSole}
use Rattle.lq_log.specs.Made.{becomes}
use Rattle.lq_table.proofs.shared.Shared.load_state.Given as goal

abbrev pub load_state_told : Step (Option StationState) → Sat → ℕ → Sat → Type 0
load_state_told s m found m' = becomes load_state_view s m found m' × (IsSole m.0 → SeesState m.0 found)

abbrev pub ghosts-load_word : goal.ghosts-load_word
ghosts-load_word g a = record { told = load_state_told }
