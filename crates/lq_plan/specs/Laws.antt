-- What follows from the definition of a plan.
use Rattle.std.specs.Prelude.{◌≡◌, ◌≢◌, ◌⊎◌, ℕ, ◌+◌, ◌%◌, ◌<◌, ◌≤◌, ◌==◌, if◌then◌else◌, true, false, pos, codes, List, length, slice_get, Some, Ok, Err}
use Rattle.std.specs.Option.{option_map_or}
use Rattle.toml.specs.Data.{Members, get_member, integer}
use Rattle.lq_model.specs.Capture.{Packets}
use Rattle.lq_model.specs.Class.{route_byte_of, source_byte_of}
use Rattle.lq_model.specs.Openings.{number_among_own, openings, openings_by}
use Rattle.lq_model.specs.Plan.{Plan, first_at, is_at, mq_at, owner_of, queue_of, queues_at, reads_times, station_of}
use Rattle.lq_model.specs.declared.plan.Classify.TheVariants.{Tos}
use Rattle.lq_model.specs.declared.plan.EventPlan.{EventPlan}
use Rattle.lq_model.specs.declared.plan.PlanReason.TheVariants.{NotToml}
use Rattle.lq_plan.specs.Keys.{version_in}
use Rattle.lq_plan.specs.Limits.{IsPlanOf, IsWithinLimits, version_1, version_2, version_3, version_4}
use Rattle.lq_plan.specs.Reading.{plan_by, plan_of, root_of}

-- each text that is a plan keeps the limits, and its events come in an order that its stations allow
abbrev pub AcceptsWithinLimits : Type 0
AcceptsWithinLimits = (text : List ℕ) (plan : Plan) → plan_of text ≡ Ok plan → IsWithinLimits plan

-- the text doesn't say this version
abbrev pub HasNoVersion : ℕ → List ℕ → Type 0
HasNoVersion number text = (root : Members) → root_of text ≡ Some root → get_member (codes "version") root ≢ Some (integer (pos number))

-- a text that says none of the versions 2 to 5 is read by the keys and the limits of version 1 alone
abbrev pub ReadsVersion1 : Type 0
ReadsVersion1 = (text : List ℕ) → HasNoVersion 2 text → HasNoVersion 3 text → HasNoVersion 4 text → HasNoVersion 5 text
    → plan_of text ≡ option_map_or (plan_by version_1) (root_of text) (Err NotToml)

-- so a plan that it is keeps the limits of version 1, in which each station has one queue
abbrev pub KeepsVersion1 : Type 0
KeepsVersion1 = (text : List ℕ) (plan : Plan) → HasNoVersion 2 text → HasNoVersion 3 text → HasNoVersion 4 text → HasNoVersion 5 text → plan_of text ≡ Ok plan → IsPlanOf version_1 plan

-- a text that says none of the versions 3 to 5 is read by the keys and the limits of version 2 or 1 alone
abbrev pub ReadsVersion2 : Type 0
ReadsVersion2 = (text : List ℕ) → HasNoVersion 3 text → HasNoVersion 4 text → HasNoVersion 5 text
    → plan_of text ≡ option_map_or (λ root. plan_by (if version_in root == 2 then version_2 else version_1) root) (root_of text) (Err NotToml)

-- Where each group is one station, a packet's station is its route byte modulo their number, and an event is one of its own
-- station alone.
pub record IsUngrouped (plan : Plan) : Type 0 where
  pub groups : length plan.groups ≡ length plan.stations
  pub routes : (packets : Packets) (n : ℕ) → station_of plan packets n ≡ route_byte_of (packets.link n) (packets.frame n) % length plan.stations
  pub events : (e : ℕ) (event : EventPlan) (station : ℕ) → slice_get plan.events e ≡ Some event → is_at station event ≡ true → station ≡ event.station

-- so a plan that it is keeps the limits of version 2, in which no station is a group of several
abbrev pub KeepsVersion2 : Type 0
KeepsVersion2 = (text : List ℕ) (plan : Plan) → HasNoVersion 3 text → HasNoVersion 4 text → HasNoVersion 5 text → plan_of text ≡ Ok plan → IsPlanOf version_2 plan × IsUngrouped plan

-- a text that says neither `version = 4` nor `version = 5` is read by the keys and the limits of version 3, 2 or 1 alone
abbrev pub ReadsVersion3 : Type 0
ReadsVersion3 = (text : List ℕ) → HasNoVersion 4 text → HasNoVersion 5 text
    → plan_of text ≡ option_map_or (λ root. plan_by (if version_in root == 3 then version_3 else if version_in root == 2 then version_2 else version_1) root) (root_of text) (Err NotToml)

-- the child that a source number chooses, of the group that a route number leads to
abbrev pub station_by : Plan → ℕ → ℕ → ℕ
station_by plan source route =
    let group = route % length plan.groups in first_at plan.groups group + source % mq_at plan.groups group

-- all packets have the owners that their numbers give them, or those that their source bytes do
abbrev pub IsRoundOrSource : Plan → Type 0
IsRoundOrSource plan = ((packets : Packets) (n : ℕ) → owner_of plan packets n ≡ n % plan.senders)
    ⊎ ((packets : Packets) (n : ℕ) → owner_of plan packets n ≡ source_byte_of (packets.link n) (packets.frame n) % plan.senders)

-- Where neither flows nor times count, a packet's station and queue are chosen by its source byte and its route byte, its owner by its
-- number or its source byte, and the stopped queues are opened after each so many packets of a sender. No time of a capture is read.
pub record IsByBytes (plan : Plan) : Type 0 where
  pub stations : (packets : Packets) (n : ℕ) → station_of plan packets n ≡ station_by plan (source_byte_of (packets.link n) (packets.frame n)) (route_byte_of (packets.link n) (packets.frame n))
  pub queues : (packets : Packets) (n : ℕ) → queue_of plan packets n ≡ source_byte_of (packets.link n) (packets.frame n) % queues_at plan.stations (station_of plan packets n)
  pub owners : IsRoundOrSource plan
  pub openings : (every : ℕ) × (0 < every) × (every ≤ 1000)
      × ((packets : Packets) (n : ℕ) → openings plan packets n ≡ (if number_among_own plan packets n % every == 0 then 1 else 0))
  pub times : reads_times plan ≡ false

-- so a plan that it is keeps the limits of version 3, in which neither counts
abbrev pub KeepsVersion3 : Type 0
KeepsVersion3 = (text : List ℕ) (plan : Plan) → HasNoVersion 4 text → HasNoVersion 5 text → plan_of text ≡ Ok plan → IsPlanOf version_3 plan × IsByBytes plan

-- a text that doesn't say `version = 5` is read by the keys and the limits of version 4, 3, 2 or 1 alone
abbrev pub ReadsVersion4 : Type 0
ReadsVersion4 = (text : List ℕ) → HasNoVersion 5 text
    → plan_of text ≡ option_map_or
    (λ root. plan_by (if version_in root == 4 then version_4 else if version_in root == 3 then version_3 else if version_in root == 2 then version_2 else version_1) root)
    (root_of text) (Err NotToml)

-- Where no card opens a queue, the queues are opened as the plan says; and each packet has the priority of its type of service.
pub record IsUnlinked (plan : Plan) : Type 0 where
  pub classify : plan.classify ≡ Tos
  pub openings : (packets : Packets) (n : ℕ) → openings plan packets n ≡ openings_by plan.irq plan packets n

-- so a plan that it is keeps the limits of version 4, in which there is none
abbrev pub KeepsVersion4 : Type 0
KeepsVersion4 = (text : List ℕ) (plan : Plan) → HasNoVersion 5 text → plan_of text ≡ Ok plan → IsPlanOf version_4 plan × IsUnlinked plan
