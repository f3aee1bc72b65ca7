-- What a purge makes of a band, packet by packet.
use Rattle.std.specs.Prelude.{◌≡◌, ℕ, Some, take, length}
use Rattle.lq_model.specs.Band.{held_of, taken_by}
use Rattle.lq_model.specs.Machine.{Purge}
use Rattle.lq_model.specs.declared.fate.Fate.TheVariants as fate
use Rattle.lq_band_laws.specs.Three.{at, put}
use Rattle.lq_band_laws.specs.Ring.{Ends, IsAtRest}
use Rattle.lq_table.specs.Views.{View, Left, WholePart}
use Rattle.lq_table.specs.Purges.{next_band}
use Rattle.lq_table.specs.Sees.{solo}
use Rattle.lq_ring.specs.Fates.{fates_onto}

-- so many packets were taken from the band
abbrev pub purged_by : ℕ → ℕ → Left → Left
purged_by b n l = record l { bands = put b (taken_by (at b l.bands) n) l.bands }

-- what the holder and the state beside the machine have of it, and the fates that are stored
abbrev pub purged_to : ℕ → ℕ → Left → Ends → WholePart → View → View
purged_to b n l ends whole v = record v {
  holder = record v.holder { ends = put b ends v.holder.ends; left = Some (purged_by b n l) };
  whole = whole;
  settled = fates_onto (fate.Purged l.cause) (take n (held_of (at b l.bands))) v.settled;
}

-- the purge goes on with the next band
abbrev pub going_on : Purge → View → View
going_on u v = record v { control = record v.control { purge = Some (next_band u) } }

-- All packets of the band were purged, and their fates are stored; the purge goes on with the next band. What a seat that has the table
-- alone knows is as before, since the account's event came with the beginning.
pub record IsBandPurged (b : ℕ) (u : Purge) (l : Left) (v w : View) : Type 0 where
  pub ends : Ends
  pub whole : WholePart
  pub is : w ≡ purged_to b (length (held_of (at b l.bands))) l ends whole (going_on u v)
  pub rests : IsAtRest v.holder.size ends
  pub told : whole.told ≡ v.whole.told
  pub alone : solo (record v { whole = whole }) ≡ solo v
