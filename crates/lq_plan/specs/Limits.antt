-- The limits of a plan's numbers, by the version of its text, and the order of its events.
use Rattle.std.specs.Prelude.{◌≡◌, ℕ, ◌+◌, ◌<◌, ◌≤◌, Bool, true, false, ◌||◌, nat_lt, List, [], ◌∷◌, length, map, sum, filter, Option, None, Some, slice_get}
use Rattle.std.specs.List.{list_any}
use Rattle.std.specs.Option.{option_map_or}
use Rattle.lq_model.specs.Numbers.{first_numbers}
use Rattle.lq_model.specs.Plan.{Plan, first_at, is_at, is_swap, mq_at}
use Rattle.lq_model.specs.declared.device.Params.{Params}
use Rattle.lq_model.specs.declared.plan.Card.{Card}
use Rattle.lq_model.specs.declared.plan.Classify.{Classify}
use Rattle.lq_model.specs.declared.plan.Classify.TheVariants.{Never, Tos}
use Rattle.lq_model.specs.declared.plan.EventKind.{EventKind}
use Rattle.lq_model.specs.declared.plan.EventKind.TheVariants.{Down, Up, Resize, TxQueueLen, Swap}
use Rattle.lq_model.specs.declared.plan.EventPlan.{EventPlan}
use Rattle.lq_model.specs.declared.plan.Irq.{Irq}
use Rattle.lq_model.specs.declared.plan.Irq.TheVariants.{Every, Period}
use Rattle.lq_model.specs.declared.plan.Limit.{Limit}
use Rattle.lq_model.specs.declared.plan.Limit.TheVariants.{Bql, Ring}
use Rattle.lq_model.specs.declared.plan.Split.{Split}
use Rattle.lq_model.specs.declared.plan.Split.TheVariants as split
use Rattle.lq_model.specs.declared.plan.Spread.{Spread}
use Rattle.lq_model.specs.declared.plan.Spread.TheVariants as spread
use Rattle.lq_model.specs.declared.plan.StationPlan.{StationPlan}
use Rattle.lq_plan.specs.declared.keys.Presence.TheVariants.{Optional, Unknown}
use Rattle.lq_plan.specs.declared.keys.Version.{Version}

-- WHAT DIFFERS BETWEEN THE VERSIONS

abbrev pub version_1 : Version
version_1 = record { number = 1; max_senders = 8; max_len = 4096; queues = Unknown; max_queues = 1; mq = Unknown; max_mq = 1; irq_us = Unknown; max_irq_us = 0; spread = Unknown; flow = false; link = Unknown; max_rate = 0; never = false }

abbrev pub version_2 : Version
version_2 = record { number = 2; max_senders = 64; max_len = 65536; queues = Optional; max_queues = 8; mq = Unknown; max_mq = 1; irq_us = Unknown; max_irq_us = 0; spread = Unknown; flow = false; link = Unknown; max_rate = 0; never = false }

abbrev pub version_3 : Version
version_3 = record { number = 3; max_senders = 64; max_len = 65536; queues = Optional; max_queues = 8; mq = Optional; max_mq = 8; irq_us = Unknown; max_irq_us = 0; spread = Unknown; flow = false; link = Unknown; max_rate = 0; never = false }

abbrev pub version_4 : Version
version_4 = record { number = 4; max_senders = 64; max_len = 65536; queues = Optional; max_queues = 8; mq = Optional; max_mq = 8; irq_us = Optional; max_irq_us = 1000000; spread = Optional; flow = true; link = Unknown; max_rate = 0; never = false }

abbrev pub version_5 : Version
version_5 = record version_4 { number = 5; link = Optional; max_rate = 1000000000; never = true }

-- THE ORDER OF EVENTS

-- an event stands before an earlier packet than the event in front of it, or the first before an earlier one than this
abbrev pub falls_below : ℕ → List EventPlan → Bool
falls_below last [] = false
falls_below last (event ∷ events) = nat_lt event.before last || falls_below event.before events

-- whether a station is active after this is done to it; None where it is done to an active station and may only be done to a
-- deactivated one, or the other way round
abbrev pub active_after : Bool → EventKind → Option Bool
active_after true Down = Some false
active_after true Up = None
active_after true _ = Some true
active_after false Up = Some true
active_after false _ = None

-- the same of several that are done to it in turn
abbrev pub is_misplaced : Option Bool → List EventKind → Bool
is_misplaced None kinds = true
is_misplaced (Some active) [] = false
is_misplaced (Some active) (kind ∷ kinds) = is_misplaced (active_after active kind) kinds

abbrev pub kinds_at : ℕ → List EventPlan → List EventKind
kinds_at station events = map (λ event. event.kind) (filter (is_at station) events)

abbrev pub max_stations : ℕ
max_stations = 8

-- each station is active at first
abbrev pub is_out_of_order : List EventPlan → Bool
is_out_of_order events = falls_below 0 events || list_any (λ station. is_misplaced (Some true) (kinds_at station events)) (first_numbers max_stations)

-- LIMITS

pub record AreParamsWithin (params : Params) : Type 0 where
  pub burst : params.burst ≤ 1000000
  pub busy_every : params.busy_every ≤ 1000000
  pub busy_limit : params.busy_limit ≤ 1000000
  pub hang_after : params.hang_after ≤ 1000000

abbrev pub IsLimitWithin : Limit → Type 0
IsLimitWithin (Ring descriptors) = (0 < descriptors) × (descriptors ≤ 65536)
IsLimitWithin (Bql bytes) = (0 < bytes) × (bytes ≤ 1000000000)

-- a card, where the version knows it; each frame takes a time on its wire
pub record IsCardOf (version : Version) (card : Card) : Type 0 where
  pub some : 0 < card.rate_kbit
  pub rate : card.rate_kbit ≤ version.max_rate
  pub limit : IsLimitWithin card.limit
  pub coalesce : card.coalesce_us ≤ 1000000
  pub overhead : card.overhead ≤ 1000
  pub mpu : card.mpu ≤ 1000
  pub some_bytes : 0 < card.overhead + card.mpu

-- the device of a card stops its queue at each packet, and is never busy and never hangs
pub record StopsAtEach (params : Params) : Type 0 where
  pub burst : params.burst ≡ 1
  pub never_busy : params.busy_every ≡ 0
  pub never_hangs : params.hang_after ≡ 0

pub record IsStationOf (version : Version) (station : StationPlan) : Type 0 where
  pub some : 0 < station.len
  pub len : station.len ≤ station.max_len
  pub max_len : station.max_len ≤ version.max_len
  pub params : AreParamsWithin station.params
  pub has_queue : 0 < station.queues
  pub queues : station.queues ≤ version.max_queues
  pub card : (card : Card) → station.card ≡ Some card → IsCardOf version card × StopsAtEach station.params

-- the length to which a station may be resized; 0 of no station
abbrev pub max_len_at : List StationPlan → ℕ → ℕ
max_len_at stations station = option_map_or (λ s. s.max_len) (slice_get stations station) 0

abbrev pub IsKindWithin : ℕ → EventKind → Type 0
IsKindWithin max_len Down = Unit {0}
IsKindWithin max_len Up = Unit {0}
IsKindWithin max_len (Resize len) = (0 < len) × (len ≤ max_len)
IsKindWithin max_len (TxQueueLen len) = (0 < len) × (len ≤ max_len)
IsKindWithin max_len (Swap params) = AreParamsWithin params

pub record IsEventWithin (stations : List StationPlan) (event : EventPlan) : Type 0 where
  pub before : event.before ≤ 1000000
  pub station : event.station < length stations
  -- all stations that it is done to are stations of the plan, each of which allows its kind
  pub some : 0 < event.mq
  pub within : event.station + event.mq ≤ length stations
  pub kind : (station : ℕ) → is_at station event ≡ true → IsKindWithin (max_len_at stations station) event.kind

-- the event is one of a group: of all its children
pub record IsEventOfGroup (groups : List ℕ) (event : EventPlan) : Type 0 where
  pub group : ℕ
  pub there : group < length groups
  pub first : event.station ≡ first_at groups group
  pub children : event.mq ≡ mq_at groups group

-- packets are split or spread by flow only where the version knows it
abbrev pub IsSplitOf : Version → Split → Type 0
IsSplitOf version split.Flow = version.flow ≡ true
IsSplitOf version _ = Unit {0}

abbrev pub IsSpreadOf : Version → Spread → Type 0
IsSpreadOf version spread.Flow = version.flow ≡ true
IsSpreadOf version _ = Unit {0}

-- packets keep priority 0 only where the version knows it
abbrev pub IsClassifyOf : Version → Classify → Type 0
IsClassifyOf version Never = version.never ≡ true
IsClassifyOf version Tos = Unit {0}

-- the station of a link is alone, with one queue, and keeps its device
pub record IsLink (plan : Plan) (station : StationPlan) : Type 0 where
  pub alone : plan.stations ≡ station ∷ []
  pub queues : station.queues ≡ 1
  pub no_swap : (e : ℕ) (event : EventPlan) → slice_get plan.events e ≡ Some event → is_swap event ≡ false

-- how many packets or microseconds there may be from one opening of the stopped queues to the next
abbrev pub IsIrqOf : Version → Irq → Type 0
IsIrqOf version (Every packets) = (0 < packets) × (packets ≤ 1000)
IsIrqOf version (Period microseconds) = (0 < microseconds) × (microseconds ≤ version.max_irq_us)

pub record IsPlanOf (version : Version) (plan : Plan) : Type 0 where
  pub has_version : 0 < plan.version
  pub of_version : plan.version ≤ version.number
  pub has_sender : 0 < plan.senders
  pub senders : plan.senders ≤ version.max_senders
  pub split : IsSplitOf version plan.split
  pub spread : IsSpreadOf version plan.spread
  pub classify : IsClassifyOf version plan.classify
  pub irq : IsIrqOf version plan.irq
  pub has_station : 0 < length plan.stations
  pub stations : length plan.stations ≤ max_stations
  -- the stations are the children of the groups
  pub has_group : 0 < length plan.groups
  pub children : sum plan.groups ≡ length plan.stations
  pub each_group : (j mq : ℕ) → slice_get plan.groups j ≡ Some mq → (0 < mq) × (mq ≤ version.max_mq)
  pub events : length plan.events ≤ 64
  pub each_station : (j : ℕ) (station : StationPlan) → slice_get plan.stations j ≡ Some station → IsStationOf version station
  pub each_event : (e : ℕ) (event : EventPlan) → slice_get plan.events e ≡ Some event → IsEventWithin plan.stations event
  pub each_reach : (e : ℕ) (event : EventPlan) → slice_get plan.events e ≡ Some event → IsEventOfGroup plan.groups event
  pub order : is_out_of_order plan.events ≡ false
  pub link : (j : ℕ) (station : StationPlan) (card : Card) → slice_get plan.stations j ≡ Some station → station.card ≡ Some card → IsLink plan station

-- The limits of every plan are those of the latest version, which are the widest.
abbrev pub IsStationWithin : StationPlan → Type 0
IsStationWithin station = IsStationOf version_5 station

abbrev pub IsIrqWithin : Irq → Type 0
IsIrqWithin irq = IsIrqOf version_5 irq

abbrev pub IsCardWithin : Card → Type 0
IsCardWithin card = IsCardOf version_5 card

abbrev pub IsWithinLimits : Plan → Type 0
IsWithinLimits plan = IsPlanOf version_5 plan
