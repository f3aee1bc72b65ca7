-- Plans, and what each packet of a capture is to the rules.
use Rattle.std.specs.Prelude.{◌≡◌, ◌<◌, ℕ, ◌+◌, ◌/◌, ◌%◌, Bool, true, false, ◌&&◌, ◌==◌, nat_le, nat_lt, if◌then◌else◌, List, [], ◌∷◌, length, take, map, sum, count_by, Option, slice_get}
use Rattle.std.specs.Option.{option_and_then, option_map_or}
use Rattle.lq_model.specs.Flow.{flow_of}
use Rattle.lq_model.specs.Numbers.{first_numbers}
use Rattle.lq_model.specs.Capture.{Packets}
use Rattle.lq_model.specs.Class.{priority_of, band_of, source_byte_of, route_byte_of}
use Rattle.lq_model.specs.declared.fate.Info.{Info}
use Rattle.lq_model.specs.declared.plan.Card.{Card}
use Rattle.lq_model.specs.declared.plan.Classify.{Classify}
use Rattle.lq_model.specs.declared.plan.Classify.TheVariants as classify
use Rattle.lq_model.specs.declared.plan.EventKind.{EventKind}
use Rattle.lq_model.specs.declared.plan.EventKind.TheVariants.{Swap}
use Rattle.lq_model.specs.declared.plan.EventPlan.{EventPlan}
use Rattle.lq_model.specs.declared.plan.Irq.{Irq}
use Rattle.lq_model.specs.declared.plan.Split.{Split}
use Rattle.lq_model.specs.declared.plan.Split.TheVariants as split
use Rattle.lq_model.specs.declared.plan.Spread.{Spread}
use Rattle.lq_model.specs.declared.plan.Spread.TheVariants as spread
use Rattle.lq_model.specs.declared.plan.StationPlan.{StationPlan}

-- PLANS

pub record Plan : Type 0 where
  -- the version of its text
  pub version : ℕ
  -- how many threads send, and how the packets are split among them
  pub senders : ℕ
  pub split : Split
  -- by what each packet's station, queue and child are chosen
  pub spread : Spread
  -- how each packet gets its priority
  pub classify : Classify
  -- when the stopped queues are opened
  pub irq : Irq
  -- the stations, group by group; and how many of them each group has
  pub stations : List StationPlan
  pub groups : List ℕ
  -- what is done to stations on the way, each event numbered by its place
  pub events : List EventPlan

-- whether the times of a capture are read
abbrev pub reads_times : Plan → Bool
reads_times plan = nat_le 4 plan.version

-- the card that opens its one station's queue, if one does
abbrev pub card_of : Plan → Option Card
card_of plan = option_and_then (λ s. s.card) (slice_get plan.stations 0)

-- UNITS
--
-- A unit is a device of the bench. Station j begins with unit j, and each swap brings the next unit.

abbrev pub is_swap_kind : EventKind → Bool
is_swap_kind (Swap params) = true
is_swap_kind _ = false

abbrev pub is_swap : EventPlan → Bool
is_swap event = is_swap_kind event.kind

abbrev pub unit_count : Plan → ℕ
unit_count plan = length plan.stations + count_by is_swap plan.events

-- the unit that an event brings, if it is a swap
abbrev pub unit_of_swap : Plan → ℕ → ℕ
unit_of_swap plan event = length plan.stations + count_by is_swap (take event plan.events)

-- GROUPS
--
-- A station of a plan's text is a multi-queue root over the transmit queues of one device: a group of stations, its children, one for
-- each queue, as `mq_init` and `mq_attach` of net/sched/sch_mq.c have it. Most groups have one child, which is the station.

-- how many children group j has; 0 of no group
abbrev pub mq_at : List ℕ → ℕ → ℕ
mq_at groups j = option_map_or (λ mq. mq) (slice_get groups j) 0

-- the number of its first child
abbrev pub first_at : List ℕ → ℕ → ℕ
first_at groups j = sum (take j groups)

-- to how many stations, from its own on, an event is done: to all children of its group; a swap to the one station alone
abbrev pub reach : EventPlan → ℕ
reach event = if is_swap event then 1 else event.mq

-- whether an event is one of this station
abbrev pub is_at : ℕ → EventPlan → Bool
is_at station event = nat_le event.station station && nat_lt station (event.station + reach event)

-- a value after these events, numbered from e on, where each of the station's changes it
abbrev pub after_events : {X : Type 0} → (ℕ → EventPlan → X → X) → ℕ → List EventPlan → ℕ → X → X
after_events change station [] e x = x
after_events change station (event ∷ events) e x = after_events change station events (e + 1) (if is_at station event then change e event x else x)

-- WHAT A PACKET IS TO THE RULES

-- a frame's source byte and its route byte, or, where they are spread by flow, the upper and the lower 16 bits of its flow's hash
abbrev pub source_number : Spread → Packets → ℕ → ℕ
source_number spread.Bytes packets n = source_byte_of (packets.link n) (packets.frame n)
source_number spread.Flow packets n = option_map_or (λ hash. hash / 65536) (flow_of (packets.link n) (packets.frame n)) (source_byte_of (packets.link n) (packets.frame n))

abbrev pub route_number : Spread → Packets → ℕ → ℕ
route_number spread.Bytes packets n = route_byte_of (packets.link n) (packets.frame n)
route_number spread.Flow packets n = option_map_or (λ hash. hash % 65536) (flow_of (packets.link n) (packets.frame n)) (route_byte_of (packets.link n) (packets.frame n))

-- by what packet n is split: its number, its source byte, or its flow's hash
abbrev pub split_number : Split → Packets → ℕ → ℕ
split_number split.Round packets n = n
split_number split.Source packets n = source_byte_of (packets.link n) (packets.frame n)
split_number split.Flow packets n = option_map_or (λ hash. hash) (flow_of (packets.link n) (packets.frame n)) (source_byte_of (packets.link n) (packets.frame n))

abbrev pub owner_of : Plan → Packets → ℕ → ℕ
owner_of plan packets n = split_number plan.split packets n % plan.senders

-- the group that its route number leads to, and the child of that which its source number chooses
abbrev pub group_of : Plan → Packets → ℕ → ℕ
group_of plan packets n = route_number plan.spread packets n % length plan.groups

abbrev pub station_of : Plan → Packets → ℕ → ℕ
station_of plan packets n =
    first_at plan.groups (group_of plan packets n) + source_number plan.spread packets n % mq_at plan.groups (group_of plan packets n)

-- the number of transmit queues that share the rings of a station; 1 of no station
abbrev pub queues_at : List StationPlan → ℕ → ℕ
queues_at stations station = option_map_or (λ s. s.queues) (slice_get stations station) 1

-- the queue that a packet is offered on
abbrev pub queue_of : Plan → Packets → ℕ → ℕ
queue_of plan packets n = source_number plan.spread packets n % queues_at plan.stations (station_of plan packets n)

-- how many lower packets have the same owner and station
abbrev pub rank_of : Plan → Packets → ℕ → ℕ
rank_of plan packets n =
    count_by (λ m. (owner_of plan packets m == owner_of plan packets n) && (station_of plan packets m == station_of plan packets n)) (first_numbers n)

-- its priority, which chooses its band
abbrev pub priority_by : Classify → Packets → ℕ → ℕ
priority_by classify.Tos packets n = priority_of (packets.link n) (packets.frame n)
priority_by classify.Never packets n = 0

abbrev pub info_of : Plan → Packets → ℕ → Info
info_of plan packets n = record {
  owner = owner_of plan packets n;
  station = station_of plan packets n;
  band = band_of (priority_by plan.classify packets n);
  queue = queue_of plan packets n;
  rank = rank_of plan packets n;
}

abbrev pub infos_of : Plan → Packets → List Info
infos_of plan packets = map (info_of plan packets) (first_numbers packets.count)

-- the same, read off a list that has packet n at place n
abbrev pub owner_in : List Info → ℕ → ℕ
owner_in infos n = option_map_or (λ info. info.owner) (slice_get infos n) 0

abbrev pub station_in : List Info → ℕ → ℕ
station_in infos n = option_map_or (λ info. info.station) (slice_get infos n) 0

abbrev pub band_in : List Info → ℕ → ℕ
band_in infos n = option_map_or (λ info. info.band) (slice_get infos n) 0

abbrev pub queue_in : List Info → ℕ → ℕ
queue_in infos n = option_map_or (λ info. info.queue) (slice_get infos n) 0

abbrev pub rank_in : List Info → ℕ → ℕ
rank_in infos n = option_map_or (λ info. info.rank) (slice_get infos n) 0

-- ranks count: of one owner and station the packet of lower rank is the lower one
abbrev pub AreRanked : List Info → Type 0
AreRanked infos = (m n : ℕ) → m < length infos → n < length infos → owner_in infos m ≡ owner_in infos n → station_in infos m ≡ station_in infos n → rank_in infos m < rank_in infos n → m < n
