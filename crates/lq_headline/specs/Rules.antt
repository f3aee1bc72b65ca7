-- What the plan and the packets' own bytes say: which sender, which station and which band a packet has.
use Rattle.std.specs.Prelude.{◌≡◌, ◌<◌, ℕ, [], drop, filter, true, false, length, slice_index_or}
use Rattle.lq_model.specs.Capture.{Packets, is_little_endian}
use Rattle.lq_model.specs.Class.{band_of}
use Rattle.lq_model.specs.Plan.{Plan, owner_of, priority_by, station_of, unit_count}
use Rattle.lq_pcapng.specs.File.{is_pcapng}
use Rattle.lq_pcapng.specs.Pcapng.{NgCapture, frame_in, is_interface, link_in, number_in}
use Rattle.lq_pcapng.specs.Pcapng as ng
use Rattle.lq_headline.specs.Page.{IsPcapngFile, Replay}

-- the packets of a classic capture: a frame is a record less its first 16 bytes, and bytes 20 to 23 of the head are the link type
pub record AreClassic (run : Replay) (packets : Packets) : Type 0 where
  pub frames : (n : ℕ) → n < length run.records → packets.frame n ≡ drop 16 (slice_index_or run.records n [])
  pub links : (n : ℕ) → packets.link n ≡ number_in (is_little_endian run.head) run.head 20

-- a pcapng capture in its parts: the first block, the blocks that describe interfaces, and those of the packets
abbrev pub parts_of : (run : Replay) → IsPcapngFile run.capture_bytes run.head run.records → NgCapture
parts_of run is = record { section = is.first; interfaces = filter (is_interface (ng.is_little_endian is.first)) is.blocks; packets = run.records }

-- the packets of a pcapng capture: the frame in each record, and the link type of its interface
pub record ArePcapng (run : Replay) (packets : Packets) : Type 0 where
  pub is : IsPcapngFile run.capture_bytes run.head run.records
  pub frames : (n : ℕ) → packets.frame n ≡ frame_in (parts_of run is) (slice_index_or run.records n [])
  pub links : (n : ℕ) → packets.link n ≡ link_in (parts_of run is) (slice_index_or run.records n [])

-- A run follows the rules of a plan, where these are the frames and the link types of its packets.
pub record FollowsRules (run : Replay) (plan : Plan) (packets : Packets) : Type 0 where
  pub stations : run.stations ≡ length plan.stations
  pub units : run.units ≡ unit_count plan
  pub sender_is : (n : ℕ) → run.sender n ≡ owner_of plan packets n
  pub station_is : (n : ℕ) → run.station n ≡ station_of plan packets n
  pub band_is : (n : ℕ) → run.band n ≡ band_of (priority_by plan.classify packets n)
  pub classic : is_pcapng run.capture_bytes ≡ false → AreClassic run packets
  pub pcapng : is_pcapng run.capture_bytes ≡ true → ArePcapng run packets
