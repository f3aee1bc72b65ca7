use Rattle.std.specs.Option.{unwrap_or}
use Rattle.std.specs.Prelude.{Option, slice_index, true, ℕ, ◌≡◌, ◌≤◌}
use Rattle.lq_table.specs.Resizes.{clear_slot_view, is_member}
use Rattle.lq_table.specs.Views.{no_resizing, HalfResize}
use Rattle.lq_table.specs.Moves.{Sat}
use Rattle.lq_device.specs.Station.{StationState}
use Rattle.lq_band_laws.specs.Three.{at}
use Rattle.atomic_table.specs.Table.{Step}
use Rattle.lq_table.proofs.shared.Shared.clear_slot.Given as goal

abbrev pub clear_slot_told : ℕ → ℕ → HalfResize → Step (Option StationState) → Sat → ℕ → Sat → Type 0
clear_slot_told b i t _ m found m' =
    (found ≡ slice_index (at b t.works).slots i) × (m' ≡ (clear_slot_view b i t m.0, m.1)) × (is_member found (at b t.works) ≡ true → found ≤ 1000000)

abbrev pub ghosts-swap_word : goal.ghosts-swap_word
ghosts-swap_word g a = record { told = clear_slot_told a.about.now.0 a.about.now.1 (unwrap_or a.seat.now.me.0.view.holder.resizing no_resizing) }
