use Rattle.std.specs.Prelude.{Option, Some, ℕ, ◌*◌, ◌+◌, ◌<◌, ◌≡◌}
use Rattle.lq_table.specs.Purges.{AreKnown, HoldPackets, HoldsAtMost, begin_purge_view}
use Rattle.lq_model.specs.Band.{Band}
use Rattle.atomic_table.specs.Table.{Step}
use Rattle.lq_device.specs.Station.{StationState}
use Rattle.lq_table.specs.Moves.{Sat}
use Rattle.lq_band_laws.specs.Three.{Three}
use Rattle.lq_account_laws.specs.Trail.{down_of}
use Rattle.lq_model.specs.declared.fate.Cause.TheVariants as cause
use Rattle.lq_table.proofs.shared.Shared.begin_purge.Given as goal

-- for the event that deactivated the station, which the word tells, and with it the trail
abbrev pub begin_purge_told : Step (Option StationState) → Sat → ℕ → Sat → Type 0
begin_purge_told _ m found m' = (e : ℕ) × (bits : ℕ) × (bands : Three Band) × (e < 4294967296) × (bits < 16) × (found ≡ bits + 256 * (e + 1)) × HoldsAtMost m.0.holder.size bands × HoldPackets m.0.share.about.infos bands × AreKnown m.0 bands × (down_of m.0.trail ≡ Some e) × (m' ≡ (begin_purge_view (cause.Event e) bands m.0, m.1))

abbrev pub ghosts-load_word : goal.ghosts-load_word
ghosts-load_word g a = record { told = begin_purge_told }
