use Rattle.std.specs.Option.{unwrap_or}
use Rattle.std.specs.Prelude.{Option, ℕ, ◌≡◌}
use Rattle.lq_table.specs.Controls.{GoesAway, swap_view}
use Rattle.lq_table.specs.Views.{no_station}
use Rattle.lq_device.specs.Station.{StationState}
use Rattle.atomic_table.specs.Table.{Step}
use Rattle.lq_table.specs.Moves.{Sat}
use Rattle.lq_table.proofs.shared.Shared.swap.Given as goal

abbrev pub swap_told : StationState → Step (Option StationState) → Sat → ℕ → Sat → Type 0
swap_told st _ m found m' = (m' ≡ (swap_view st m.0, m.1)) × GoesAway m.0

abbrev pub ghosts-store_word : goal.ghosts-store_word
ghosts-store_word g a = record { told = swap_told (unwrap_or a.about.now no_station) }
