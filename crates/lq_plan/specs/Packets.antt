-- What is known of each packet of a capture under a plan.
use Rattle.std.specs.Prelude.{◌≡◌, ◌⊎◌, ◌<◌, ◌&&◌, ◌==◌, ℕ, List, Some, count_by, length, map, slice_get}
use Rattle.lq_class.specs.declared.Class.{Class}
use Rattle.lq_model.specs.Capture.{Packets}
use Rattle.lq_model.specs.Class.{priority_of, route_byte_of, source_byte_of}
use Rattle.lq_model.specs.Numbers.{first_numbers}
use Rattle.lq_model.specs.Plan.{Plan, queues_at, info_of, owner_in, station_in, band_in, queue_in}
use Rattle.lq_model.specs.declared.fate.Info.{Info}
use Rattle.lq_model.specs.declared.plan.Split.TheVariants as split
use Rattle.lq_model.specs.declared.plan.Spread.TheVariants as spread

pub record IsInfoWithin (plan : Plan) (info : Info) : Type 0 where
  pub owner : info.owner < plan.senders
  pub station : info.station < length plan.stations
  pub band : info.band < 3
  pub queue : info.queue < queues_at plan.stations info.station

-- BY WHAT IT IS CHOSEN

-- the class of packet n
pub record IsClassOf (packets : Packets) (n : ℕ) (class : Class) : Type 0 where
  pub priority : class.priority ≡ priority_of (packets.link n) (packets.frame n)
  pub source_byte : class.source_byte ≡ source_byte_of (packets.link n) (packets.frame n)
  pub route_byte : class.route_byte ≡ route_byte_of (packets.link n) (packets.frame n)

-- packets are spread or split by flow
abbrev pub AsksFlow : Plan → Type 0
AsksFlow plan = (plan.spread ≡ spread.Flow) ⊎ (plan.split ≡ split.Flow)

-- BEFORE AND AFTER THE RANKS

-- what packet n is to the rules, but for its rank
pub record IsUnranked (plan : Plan) (packets : Packets) (n : ℕ) (found : Info) : Type 0 where
  pub info : found ≡ record (info_of plan packets n) { rank = 0 }
  pub within : IsInfoWithin plan found
  pub few_stations : found.station < 8

-- there is one for each packet, at the packet's place
pub record AreUnranked (plan : Plan) (packets : Packets) (infos : List Info) : Type 0 where
  pub count : length infos ≡ packets.count
  pub each : (n : ℕ) (info : Info) → slice_get infos n ≡ Some info → IsUnranked plan packets n info

-- the one at place n, with its rank: how many before it have the same owner and station
abbrev pub ranked_at : List Info → ℕ → Info
ranked_at infos n = record {
  owner = owner_in infos n;
  station = station_in infos n;
  band = band_in infos n;
  queue = queue_in infos n;
  rank = count_by (λ m. (owner_in infos m == owner_in infos n) && (station_in infos m == station_in infos n)) (first_numbers n);
}

-- the same infos, each with its rank
abbrev pub ranked : List Info → List Info
ranked infos = map (ranked_at infos) (first_numbers (length infos))
