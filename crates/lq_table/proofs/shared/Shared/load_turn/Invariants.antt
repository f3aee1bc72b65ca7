use Rattle.std.specs.Prelude.{Option, slice_index, ℕ, ◌<◌, ◌≡◌}
use Rattle.atomic_table.specs.Table.{Step}
use Rattle.lq_device.specs.Station.{StationState}
use Rattle.lq_table.specs.Moves.{Sat}
use Rattle.lq_table.specs.Rule.{times}
use Rattle.lq_table.proofs.shared.Shared.load_turn.Given as goal

abbrev pub load_turn_told : ℕ → Step (Option StationState) → Sat → ℕ → Sat → Type 0
load_turn_told owner _ m found m' = (m' ≡ m) × (0 < times owner m.0.share.owners → found ≡ slice_index m.0.turns owner)

abbrev pub ghosts-load_word : goal.ghosts-load_word
ghosts-load_word g a = record { told = load_turn_told a.about.now }
