use Rattle.std.specs.Prelude.{Option, false, true, ℕ, ◌≡◌, ◌≢◌}
use Rattle.lq_table.specs.Stops.{HasRoomForHand, SeesXoff, load_xoff_view}
use Rattle.atomic_table.specs.Table.{Step}
use Rattle.lq_device.specs.Station.{StationState}
use Rattle.lq_table.specs.Moves.{Sat}
use Rattle.lq_model.specs.Positions.{holds_lock}
use Rattle.lq_table.proofs.shared.Shared.load_xoff.Given as goal

-- where the holder finds other than 2 the device doesn't hang; and with a packet in hand it has room for that
abbrev pub load_xoff_told : Step (Option StationState) → Sat → ℕ → Sat → Type 0
load_xoff_told _ m found m' = (m' ≡ (load_xoff_view found m.0, m.1)) × (holds_lock m.0.place.position ≡ true → found ≢ 2 → m.0.holder.station.device.hung ≡ false) × HasRoomForHand m.0

abbrev pub load_xoff_told_all : ℕ → Step (Option StationState) → Sat → ℕ → Sat → Type 0
load_xoff_told_all queue s m found m' = load_xoff_told s m found m' × SeesXoff queue m.0 found

abbrev pub ghosts-load_word : goal.ghosts-load_word
ghosts-load_word g a = record { told = load_xoff_told_all a.about.now }
