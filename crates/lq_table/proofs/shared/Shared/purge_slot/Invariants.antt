use Rattle.std.specs.Option.{unwrap_or}
use Rattle.std.specs.Prelude.{Option, Some, [], slice_get, ℕ, ◌-◌, ◌≡◌, ◌≢◌, ◌≤◌}
use Rattle.lq_table.specs.Purges.{first_purge, purge_slot_view, purge_slot_view_empty}
use Rattle.lq_table.specs.Views.{no_left, Left}
use Rattle.lq_model.specs.Machine.{Purge}
use Rattle.atomic_table.specs.Table.{Step}
use Rattle.lq_band_laws.specs.Three.{at}
use Rattle.lq_model.specs.Band.{held_of}
use Rattle.lq_device.specs.Station.{StationState}
use Rattle.lq_table.specs.Moves.{Sat}
use Rattle.lq_table.proofs.shared.Shared.purge_slot.Given as goal

abbrev pub purge_slot_told : ℕ → Purge → Left → Step (Option StationState) → Sat → ℕ → Sat → Type 0
purge_slot_told b u l _ m found m' =
    (found ≡ 0 → (held_of (at b l.bands) ≡ []) × (m' ≡ (purge_slot_view_empty u m.0, m.1)))
    × (found ≢ 0 → (slice_get (held_of (at b l.bands)) 0 ≡ Some (found - 1)) × (m' ≡ (purge_slot_view b (found - 1) l m.0, m.1)))
    × (found ≤ 1000000)

abbrev pub ghosts-load_word : goal.ghosts-load_word
ghosts-load_word g a = let v = a.seat.now.me.0.view in record { told = purge_slot_told a.about.now (unwrap_or v.control.purge first_purge) (unwrap_or v.holder.left no_left) }
