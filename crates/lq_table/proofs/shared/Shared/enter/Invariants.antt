use Rattle.std.specs.Prelude.{Option, Some, ℕ, ◌≡◌}
use Rattle.lq_table.specs.Inside.{enter_view}
use Rattle.lq_log.specs.Made.{becomes}
use Rattle.atomic_table.specs.Table.{Step}
use Rattle.lq_device.specs.Station.{StationState}
use Rattle.lq_table.specs.Moves.{Sat}
use Rattle.lq_table.proofs.shared.Shared.enter.Given as goal

-- the packet that it brings is the one whose turn it has
abbrev pub enter_told : Step (Option StationState) → Sat → ℕ → Sat → Type 0
enter_told step m found m' = becomes (λ _. enter_view) step m found m' × ((n : ℕ) → m.0.packets.fresh ≡ Some n → m.0.packets.busy ≡ Some n)

abbrev pub ghosts-fetch_add_word : goal.ghosts-fetch_add_word
ghosts-fetch_add_word g a = record { told = enter_told }
