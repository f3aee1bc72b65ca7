use Rattle.std.specs.Option.{unwrap_or}
use Rattle.std.specs.Prelude.{Option, ℕ, ◌-◌, ◌≡◌, ◌≢◌, ◌≤◌}
use Rattle.lq_table.specs.Producers.{SeesEnd, producer_slot_view_full, with_lock_at}
use Rattle.lq_band_laws.specs.Ring.{with_room}
use Rattle.atomic_table.specs.Table.{Step}
use Rattle.lq_band_laws.specs.Three.{at}
use Rattle.lq_device.specs.Station.{StationState}
use Rattle.lq_table.specs.Moves.{Sat}
use Rattle.lq_table.proofs.shared.Shared.producer_slot.Given as goal

abbrev pub producer_slot_told : ℕ → ℕ → Step (Option StationState) → Sat → ℕ → Sat → Type 0
producer_slot_told b n _ m found m' =
    (found ≡ 0 → m' ≡ (with_lock_at b (with_room (at b m.0.locks)) m.0, m.1)) × (found ≢ 0 → m' ≡ (producer_slot_view_full n (found - 1) m.0, m.1)) × (found ≤ 1000000)

abbrev pub producer_slot_told_all : ℕ → ℕ → Step (Option StationState) → Sat → ℕ → Sat → Type 0
producer_slot_told_all b n s m found m' = producer_slot_told b n s m found m' × SeesEnd b m.0 found

abbrev pub ghosts-load_word : goal.ghosts-load_word
ghosts-load_word g a = record { told = producer_slot_told_all a.about.now (unwrap_or a.seat.now.me.0.view.packets.fresh 0) }
