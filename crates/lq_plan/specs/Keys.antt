-- The keys of a plan: whether each may or has to be there, and what its value may be. As a table of docs/FORMATS.md.
use Rattle.std.specs.Prelude.{ℕ, ◌-◌, ◌==◌, Bool, nat_lt, if◌then◌else◌, codes, List, [], ◌∷◌, length, map, Option, Some, None, is_some, slice_get}
use Rattle.std.specs.Option.{option_map_or, option_and_then}
use Rattle.toml.specs.Data.{Members, get_member}
use Rattle.lq_plan.specs.Limits.{version_1, version_2, version_3, version_4, version_5}
use Rattle.lq_plan.specs.Values.{number_value, text_at, event_word_of}
use Rattle.lq_plan.specs.declared.keys.Key.{Key as CodeKey}
use Rattle.lq_plan.specs.declared.keys.Presence.{Presence}
use Rattle.lq_plan.specs.declared.keys.Presence.TheVariants.{Required, Optional, Unknown}
use Rattle.lq_plan.specs.declared.keys.Rule.{Rule}
use Rattle.lq_plan.specs.declared.keys.Rule.TheVariants.{Number, Flag, SplitText, SpreadText, ClassifyText, EventText, Tables}
use Rattle.lq_plan.specs.declared.keys.Version.{Version}
use Rattle.lq_plan.specs.declared.values.EventWord.{EventWord}
use Rattle.lq_plan.specs.declared.values.EventWord.TheVariants.{Resize, TxQueueLen, Swap}

pub record Key : Type 0 where
  pub name : List ℕ
  pub presence : Presence
  pub rule : Rule

abbrev pub key : List ℕ → Presence → Rule → Key
key name presence rule = record { name = name; presence = presence; rule = rule }

-- the keys that a table of the code has
abbrev pub key_view : CodeKey → Key
key_view k = key k.name.now k.presence k.rule

abbrev pub keys_view : List CodeKey → List Key
keys_view = map key_view

-- VERSIONS

-- the number that the document at this root says
abbrev pub version_in : Members → ℕ
version_in root = number_value (codes "version") 1 root

-- its version: 5, 4, 3 or 2 where it says so, else 1
abbrev pub version_of : Members → Version
version_of root =
    let number = version_in root in
    if number == 5 then version_5 else if number == 4 then version_4 else if number == 3 then version_3 else if number == 2 then version_2 else version_1

-- THE ROOT

unfoldable pub root_keys : Version → List Key
root_keys version =
    key (codes "version") Optional (Number 1 version.number)
    ∷ key (codes "senders") Optional (Number 1 version.max_senders)
    ∷ key (codes "split") Optional (SplitText version.flow)
    ∷ key (codes "spread") version.spread (SpreadText version.flow)
    ∷ key (codes "classify") version.link (ClassifyText version.never)
    ∷ key (codes "irq_every") Optional (Number 1 1000)
    ∷ key (codes "irq_us") version.irq_us (Number 1 version.max_irq_us)
    ∷ key (codes "station") Required (Tables 1 8)
    ∷ key (codes "event") Optional (Tables 0 64)
    ∷ []

-- STATIONS

abbrev pub len_in : Members → ℕ
len_in station = number_value (codes "len") 1000 station

abbrev pub max_len_in : Members → ℕ
max_len_in station = number_value (codes "max_len") (len_in station) station

-- of how many stations it is the group
abbrev pub mq_in : Members → ℕ
mq_in station = number_value (codes "mq") 1 station

-- whether a card on a wire opens its queue
abbrev pub has_card : Members → Bool
has_card station = is_some (get_member (codes "rate_kbit") station)

-- a number of a card, without which it may not be there
abbrev pub card_number : Members → ℕ → ℕ → Rule
card_number station low high = if has_card station then Number low high else Number 1 0

abbrev pub overhead_in : Members → ℕ
overhead_in station = number_value (codes "overhead") 24 station

-- the least `burst`, which is its default: the device of a card stops its queue at each packet
abbrev pub least_burst : Members → ℕ
least_burst station = if has_card station then 1 else 0

-- the greatest number of a rule by which its device answers; with a card it is this
abbrev pub most_with : ℕ → Members → ℕ
most_with number station = if has_card station then number else 1000000

-- Each station of a group of several has one queue. The device of a card is never busy and never hangs, and some byte of a frame takes a time.
unfoldable pub station_keys : Version → Members → List Key
station_keys version station =
    key (codes "len") Optional (Number 1 version.max_len)
    ∷ key (codes "max_len") Optional (Number (len_in station) version.max_len)
    ∷ key (codes "bypass") Optional Flag
    ∷ key (codes "queues") version.queues (Number 1 (if nat_lt 1 (mq_in station) then 1 else version.max_queues))
    ∷ key (codes "mq") version.mq (Number 1 version.max_mq)
    ∷ key (codes "rate_kbit") version.link (Number 1 version.max_rate)
    ∷ key (codes "ring") version.link (card_number station 1 65536)
    ∷ key (codes "bql") version.link (card_number station 0 1000000000)
    ∷ key (codes "coalesce_us") version.link (card_number station 0 1000000)
    ∷ key (codes "overhead") version.link (card_number station 0 1000)
    ∷ key (codes "mpu") version.link (card_number station (1 - overhead_in station) 1000)
    ∷ key (codes "burst") Optional (Number (least_burst station) (most_with 1 station))
    ∷ key (codes "busy_every") Optional (Number 0 (most_with 0 station))
    ∷ key (codes "busy_limit") Optional (Number 0 1000000)
    ∷ key (codes "hang_after") Optional (Number 0 (most_with 0 station))
    ∷ []

-- EVENTS

-- what an event does; None where that is none of the five
abbrev pub event_word_in : Members → Option EventWord
event_word_in event = option_and_then event_word_of (text_at (codes "kind") event)

abbrev pub len_presence : Option EventWord → Presence
len_presence None = Optional
len_presence (Some Resize) = Required
len_presence (Some TxQueueLen) = Required
len_presence _ = Unknown

abbrev pub params_presence : Option EventWord → Presence
params_presence None = Optional
params_presence (Some Swap) = Optional
params_presence _ = Unknown

-- the station of the text to which an event is done
abbrev pub group_in : Members → ℕ
group_in event = number_value (codes "station") 0 event

-- its greatest length; 0 where there is no such station
abbrev pub max_len_for : List Members → Members → ℕ
max_len_for stations event = option_map_or max_len_in (slice_get stations (group_in event)) 0

-- how its new device answers
abbrev pub params_keys : Presence → List Key
params_keys presence =
    map (λ name. key name presence (Number 0 1000000)) (codes "burst" ∷ codes "busy_every" ∷ codes "busy_limit" ∷ codes "hang_after" ∷ [])

unfoldable pub event_keys : List Members → Members → List Key
event_keys stations event =
    key (codes "before") Required (Number 0 1000000)
    ∷ key (codes "kind") Required EventText
    ∷ key (codes "station") Required (Number 0 (length stations - 1))
    ∷ key (codes "len") (len_presence (event_word_in event)) (Number 1 (max_len_for stations event))
    ∷ params_keys (params_presence (event_word_in event))
