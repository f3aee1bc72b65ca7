use Rattle.std.specs.Prelude.{Option, ℕ}
use Rattle.lq_table.specs.States.{SeesState, miss_view}
use Rattle.lq_device.specs.Station.{StationState}
use Rattle.atomic_table.specs.Table.{Step}
use Rattle.lq_table.specs.Moves.{Sat, is_set}
use Rattle.lq_table.specs.Sees.{IsSole}
use Rattle.lq_log.specs.Made.{becomes}
use Rattle.lq_table.proofs.shared.Shared.miss.Given as goal

abbrev pub miss_told : Step (Option StationState) → Sat → ℕ → Sat → Type 0
miss_told s m found m' = becomes (λ found. miss_view (is_set 4 found)) s m found m' × (IsSole m.0 → SeesState m.0 found)

abbrev pub ghosts-fetch_or_word : goal.ghosts-fetch_or_word
ghosts-fetch_or_word g a = record { told = miss_told }
