use Rattle.std.specs.Prelude.{Option, ℕ, ◌≡◌}
use Rattle.lq_table.specs.Purges.{AreKnown, HoldPackets, HoldsAtMost, begin_purge_view}
use Rattle.lq_model.specs.Band.{Band}
use Rattle.atomic_table.specs.Table.{Step}
use Rattle.lq_device.specs.Station.{StationState}
use Rattle.lq_table.specs.Moves.{Sat}
use Rattle.lq_band_laws.specs.Three.{Three}
use Rattle.lq_model.specs.declared.fate.Cause.TheVariants as cause
use Rattle.lq_table.proofs.shared.Shared.begin_hung_purge.Given as goal

-- for the hung device
abbrev pub begin_hung_purge_told : Step (Option StationState) → Sat → ℕ → Sat → Type 0
begin_hung_purge_told _ m found m' = (bands : Three Band) × HoldsAtMost m.0.holder.size bands × HoldPackets m.0.share.about.infos bands × AreKnown m.0 bands × (m' ≡ (begin_purge_view (cause.Hung m.0.holder.station.unit) bands m.0, m.1))

abbrev pub ghosts-load_word : goal.ghosts-load_word
ghosts-load_word g a = record { told = begin_hung_purge_told }
