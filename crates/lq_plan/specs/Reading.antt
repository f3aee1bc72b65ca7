-- The plan that a text is, or why it is none.
use Rattle.std.specs.Prelude.{◌≡◌, ℕ, ◌<◌, ◌≤◌, Bool, true, ◌&&◌, ◌||◌, nat_lt, if◌then◌else◌, codes, List, length, map, replicate, Option, Some, None, is_some, Result, Ok, Err, option_and_then, unwrap_or}
use Rattle.std.specs.List.{flat_map, list_any}
use Rattle.std.specs.Option.{option_map_or}
use Rattle.std.specs.Str.{is_utf8}
use Rattle.toml.specs.Data.{Members, get_member}
use Rattle.toml.specs.Parse.{parse_document}
use Rattle.lq_model.specs.Plan.{Plan, first_at, is_swap, is_swap_kind, mq_at}
use Rattle.lq_model.specs.declared.device.Params.{Params}
use Rattle.lq_model.specs.declared.plan.Card.{Card}
use Rattle.lq_model.specs.declared.plan.Classify.{Classify}
use Rattle.lq_model.specs.declared.plan.Classify.TheVariants.{Tos}
use Rattle.lq_model.specs.declared.plan.EventKind.{EventKind}
use Rattle.lq_model.specs.declared.plan.EventKind.TheVariants.{Down, Up, Resize, TxQueueLen, Swap}
use Rattle.lq_model.specs.declared.plan.EventPlan.{EventPlan}
use Rattle.lq_model.specs.declared.plan.Irq.{Irq}
use Rattle.lq_model.specs.declared.plan.Irq.TheVariants.{Every, Period}
use Rattle.lq_model.specs.declared.plan.Limit.{Limit}
use Rattle.lq_model.specs.declared.plan.Limit.TheVariants.{Bql, Ring}
use Rattle.lq_model.specs.declared.plan.PlanReason.{PlanReason}
use Rattle.lq_model.specs.declared.plan.PlanReason.TheVariants as reason
use Rattle.lq_model.specs.declared.plan.Split.{Split}
use Rattle.lq_model.specs.declared.plan.Split.TheVariants.{Round}
use Rattle.lq_model.specs.declared.plan.Spread.{Spread}
use Rattle.lq_model.specs.declared.plan.Spread.TheVariants.{Bytes}
use Rattle.lq_model.specs.declared.plan.StationPlan.{StationPlan}
use Rattle.lq_plan.specs.Document.{Document, document_of, has_fault_in}
use Rattle.lq_plan.specs.Keys.{event_word_in, group_in, has_card, least_burst, len_in, max_len_in, mq_in, overhead_in, version_in, version_of}
use Rattle.lq_plan.specs.Limits.{IsKindWithin, is_out_of_order, max_stations}
use Rattle.lq_plan.specs.Values.{classify_of, flag_at, number_value, split_of, spread_of, text_at}
use Rattle.lq_plan.specs.declared.faults.Fault.TheVariants.{UnknownKey, MissingKey, WrongKind, OutOfRange}
use Rattle.lq_plan.specs.declared.keys.Version.{Version}
use Rattle.lq_plan.specs.declared.refusal.PlanRefusal.{PlanRefusal}
use Rattle.lq_plan.specs.declared.refusal.PlanRefusal.TheVariants.{Refused, NoMemory}
use Rattle.lq_plan.specs.declared.values.EventWord.{EventWord}
use Rattle.lq_plan.specs.declared.values.EventWord.TheVariants as word

-- WHAT A DOCUMENT SAYS, WITH THE DEFAULTS OF WHAT IT LEAVES OUT

-- of a device whose `burst` has this default
abbrev pub params_in : ℕ → Members → Params
params_in burst table = record {
  burst = number_value (codes "burst") burst table;
  busy_every = number_value (codes "busy_every") 0 table;
  busy_limit = number_value (codes "busy_limit") 0 table;
  hang_after = number_value (codes "hang_after") 0 table;
}

-- bytes, where there are some, or descriptors
abbrev pub limit_in : Members → Limit
limit_in station =
    let bytes = number_value (codes "bql") 0 station in if nat_lt 0 bytes then Bql bytes else Ring (number_value (codes "ring") 256 station)

-- of a station that has one
abbrev pub card_as : Members → Card
card_as station = record {
  rate_kbit = number_value (codes "rate_kbit") 1 station;
  limit = limit_in station;
  coalesce_us = number_value (codes "coalesce_us") 0 station;
  overhead = overhead_in station;
  mpu = number_value (codes "mpu") 84 station;
}

abbrev pub station_plan_in : Members → StationPlan
station_plan_in station = record {
  len = len_in station;
  max_len = max_len_in station;
  bypass = flag_at (codes "bypass") true station;
  params = params_in (least_burst station) station;
  queues = number_value (codes "queues") 1 station;
  card = if has_card station then Some (card_as station) else None;
}

-- of an event that has these keys; a required key has no default, so those that stand here for one are never read
abbrev pub kind_as : Option EventWord → Members → EventKind
kind_as (Some word.Up) event = Up
kind_as (Some word.Resize) event = Resize (number_value (codes "len") 1 event)
kind_as (Some word.TxQueueLen) event = TxQueueLen (number_value (codes "len") 1 event)
kind_as (Some word.Swap) event = Swap (params_in 0 event)
kind_as _ event = Down

-- the stations of the group that it is, which are all alike
abbrev pub children_in : Members → List StationPlan
children_in station = replicate (mq_in station) (station_plan_in station)

-- an event, where the stations of the text are these groups
abbrev pub event_in : List ℕ → Members → EventPlan
event_in groups event = record {
  before = number_value (codes "before") 0 event;
  station = first_at groups (group_in event);
  mq = mq_at groups (group_in event);
  kind = kind_as (event_word_in event) event;
}

abbrev pub split_in : Members → Split
split_in root = unwrap_or (option_and_then (split_of true) (text_at (codes "split") root)) Round

abbrev pub spread_in : Members → Spread
spread_in root = unwrap_or (option_and_then (spread_of true) (text_at (codes "spread") root)) Bytes

abbrev pub classify_in : Members → Classify
classify_in root = unwrap_or (option_and_then (classify_of true) (text_at (codes "classify") root)) Tos

-- by time where it says a period
abbrev pub irq_in : Members → Irq
irq_in root = if is_some (get_member (codes "irq_us") root) then Period (number_value (codes "irq_us") 1 root) else Every (number_value (codes "irq_every") 1 root)

abbrev pub plan_in : Document → Plan
plan_in d = record {
  version = version_in d.root;
  senders = number_value (codes "senders") 1 d.root;
  split = split_in d.root;
  spread = spread_in d.root;
  classify = classify_in d.root;
  irq = irq_in d.root;
  stations = flat_map children_in d.stations;
  groups = map mq_in d.stations;
  events = map (event_in (map mq_in d.stations)) d.events;
}

-- WHY IT IS NO PLAN
--
-- The reason with the least number of those that apply.

-- it has too many stations, or an event swaps the device of a group of several
abbrev pub has_group_fault : Plan → Bool
has_group_fault plan = nat_lt max_stations (length plan.stations) || list_any (λ event. is_swap event && nat_lt 1 event.mq) plan.events

-- it says both how many packets and how many microseconds there are from one opening of the stopped queues to the next
abbrev pub has_two_irqs : Members → Bool
has_two_irqs root = is_some (get_member (codes "irq_every") root) && is_some (get_member (codes "irq_us") root)

-- a card opens the queue: nothing else does, and its device isn't swapped
abbrev pub has_card_fault : Document → Bool
has_card_fault d =
    list_any has_card d.stations && ((is_some (get_member (codes "irq_every") d.root) || is_some (get_member (codes "irq_us") d.root))
    || list_any (λ event. is_swap_kind (kind_as (event_word_in event) event)) d.events)

-- a limit of descriptors and one of bytes
abbrev pub has_two_limits : Members → Bool
has_two_limits station = is_some (get_member (codes "ring") station) && nat_lt 0 (number_value (codes "bql") 0 station)

-- there is a card, and its station has several queues or isn't the only one
abbrev pub has_many_links : List StationPlan → Bool
has_many_links stations = list_any (λ s. is_some s.card && (nat_lt 1 s.queues || nat_lt 1 (length stations))) stations

-- of the reasons 2 to 5, by the keys of a version
abbrev pub first_fault : Version → Document → Option PlanReason
first_fault version d =
    if has_fault_in version UnknownKey d then Some reason.UnknownKey
    else if has_fault_in version MissingKey d then Some reason.Missing
    else if has_fault_in version WrongKind d then Some reason.Kind
    else if has_fault_in version OutOfRange d || (has_group_fault (plan_in d) || (has_two_irqs d.root || has_card_fault d)) then Some reason.Range else None

-- of the others
abbrev pub last_fault : Document → Option PlanReason
last_fault d =
    if is_out_of_order (plan_in d).events then Some reason.EventOrder
    else if list_any has_two_limits d.stations then Some reason.TwoLimits
    else if has_many_links (plan_in d).stations then Some reason.OneLink else None

-- the plan that the document at a root is, if it has none of these faults
abbrev pub plan_by : Version → Members → Result Plan PlanReason
plan_by version root =
    let d = document_of root in option_map_or Err (first_fault version d) (option_map_or Err (last_fault d) (Ok (plan_in d)))

-- the root of the document that a text is
abbrev pub root_of : List ℕ → Option Members
root_of bytes = if is_utf8 bytes then parse_document bytes else None

-- by the keys of the version that it says
unfoldable pub plan_of : List ℕ → Result Plan PlanReason
plan_of bytes = option_map_or (λ root. plan_by (version_of root) root) (root_of bytes) (Err reason.NotToml)

-- WHAT READING ANSWERS

-- a refusal is that of the definition, or want of memory
abbrev pub IsPlanRefusal : {T : Type 0} → Result T PlanReason → PlanRefusal → Type 0
IsPlanRefusal answer NoMemory = Unit {0}
IsPlanRefusal answer (Refused cause) = answer ≡ Err cause

-- an event of one of so many groups, whose rings have at most 65,536 slots
pub record IsEventSmall (groups : ℕ) (event : Members) : Type 0 where
  pub before : number_value (codes "before") 0 event ≤ 1000000
  pub group : group_in event < groups
  pub kind : IsKindWithin 65536 (kind_as (event_word_in event) event)
