use Rattle.std.specs.Prelude.{Option, true, ℕ, ◌<◌, ◌≡◌, ◌≤◌}
use Rattle.lq_table.specs.Keyed.{keyed_setup}
use Rattle.lq_table.specs.Producers.{load_size_view}
use Rattle.atomic_table.specs.Table.{Step}
use Rattle.lq_device.specs.Station.{StationState}
use Rattle.lq_table.specs.Moves.{Sat}
use Rattle.lq_model.specs.Positions.{holds_lock}
use Rattle.lq_table.proofs.shared.Shared.load_size.Given as goal

abbrev pub load_size_told : ℕ → Step (Option StationState) → Sat → ℕ → Sat → Type 0
load_size_told limit _ m found m' = (m' ≡ (load_size_view found m.0, m.1)) × (0 < found) × (found ≤ limit) × (holds_lock m.0.place.position ≡ true → found ≡ m.0.holder.size)

abbrev pub ghosts-load_word : goal.ghosts-load_word
ghosts-load_word g a = let k = keyed_setup a.self.now.table.kit.shared.key in record { told = load_size_told k.max_len }
