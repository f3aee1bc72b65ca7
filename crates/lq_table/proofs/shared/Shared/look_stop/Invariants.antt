use Rattle.std.specs.Prelude.{Option, slice_index, ℕ, ◌≡◌}
use Rattle.atomic_table.specs.Table.{Step}
use Rattle.lq_device.specs.Station.{StationState}
use Rattle.lq_table.specs.Moves.{Sat}
use Rattle.lq_table.specs.Sees.{IsSole, account_of}
use Rattle.lq_table.proofs.shared.Shared.look_stop.Given as goal

abbrev pub look_stop_told : Step (Option StationState) → Sat → ℕ → Sat → Type 0
look_stop_told _ m found m' = m' ≡ m

abbrev pub look_stop_told_all : ℕ → Step (Option StationState) → Sat → ℕ → Sat → Type 0
look_stop_told_all queue s m found m' = look_stop_told s m found m' × (IsSole m.0 → found ≡ slice_index (account_of m.0).stops queue)

abbrev pub ghosts-load_word : goal.ghosts-load_word
ghosts-load_word g a = record { told = look_stop_told_all a.about.now }
