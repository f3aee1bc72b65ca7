-- A plan that is read from a document without faults is within its limits.
use Rattle.std.proofs.Common.{◌≡◌, ℕ, zero, suc, ◌+◌, ◌-◌, ◌<◌, ◌≤◌, Bool, true, false, ◌||◌, ◌&&◌, ◌==◌, if◌then◌else◌, codes, List, [], ◌∷◌, length, map, get_or, Option, Some, None, is_none, is_some, option_map, slice_get, refl, ap, ◌∙◌, sym, subst, arith, inl, inr}
use Rattle.std.specs.Prelude.{nat_lt, sum}
use Rattle.std.proofs.lemmas.Bool.{cases_Bool, false≢true, ltb-false, ltb-true, or_parts}
use Rattle.std.proofs.lemmas.List.{length-map}
use Rattle.std.proofs.lemmas.Option.{same_Some, slice_get-map, slice_get-get_or}
use Rattle.std.specs.List.{flat_map, list_any}
use Rattle.std.specs.Option.{option_map_or}
use Rattle.toml.specs.Data.{Members, no_members, get_member}
use Rattle.lq_model.proofs.Reach.{at-within, reach-few}
use Rattle.lq_model.specs.Plan.{Plan, first_at, is_at, is_swap, is_swap_kind, mq_at}
use Rattle.lq_model.specs.declared.plan.Card.{Card}
use Rattle.lq_model.specs.declared.plan.Classify.{Classify}
use Rattle.lq_model.specs.declared.plan.Classify.TheVariants.{Never, Tos}
use Rattle.lq_model.specs.declared.plan.EventPlan.{EventPlan}
use Rattle.lq_model.specs.declared.plan.Irq.{Irq}
use Rattle.lq_model.specs.declared.plan.Irq.TheVariants.{Every, Period}
use Rattle.lq_model.specs.declared.plan.Limit.TheVariants.{Bql, Ring}
use Rattle.lq_model.specs.declared.plan.Split.{Split}
use Rattle.lq_model.specs.declared.plan.Split.TheVariants as split
use Rattle.lq_model.specs.declared.plan.Spread.{Spread}
use Rattle.lq_model.specs.declared.plan.Spread.TheVariants as spread
use Rattle.lq_model.specs.declared.plan.StationPlan.{StationPlan}
use Rattle.lq_plan.specs.Document.{Document, document_of, has_fault_in}
use Rattle.lq_plan.specs.Faults.{has_fault, has_kind, is_required, is_within, value_fails}
use Rattle.lq_plan.specs.Keys.{Key, key, card_number, event_keys, event_word_in, group_in, has_card, least_burst, len_in, len_presence, max_len_for, max_len_in, most_with, mq_in, overhead_in, params_presence, root_keys, station_keys, version_in, version_of}
use Rattle.lq_plan.specs.Limits.{AreParamsWithin, IsCardOf, IsClassifyOf, IsEventOfGroup, IsEventWithin, IsIrqOf, IsKindWithin, IsLimitWithin, IsPlanOf, IsSplitOf, IsSpreadOf, IsStationOf, StopsAtEach, is_out_of_order, max_len_at, version_1, version_2, version_3, version_4, version_5}
use Rattle.lq_plan.specs.Reading.{IsEventSmall, card_as, children_in, classify_in, event_in, first_fault, has_card_fault, has_group_fault, has_many_links, has_two_irqs, irq_in, kind_as, params_in, plan_in, split_in, spread_in, station_plan_in}
use Rattle.lq_plan.specs.Values.{number_value}
use Rattle.lq_plan.specs.declared.faults.Fault.{Fault}
use Rattle.lq_plan.specs.declared.faults.Fault.TheVariants.{UnknownKey, MissingKey, WrongKind, OutOfRange}
use Rattle.lq_plan.specs.declared.keys.Presence.TheVariants.{Required, Optional}
use Rattle.lq_plan.specs.declared.keys.Rule.{Rule}
use Rattle.lq_plan.specs.declared.keys.Rule.TheVariants.{Number, SplitText, SpreadText, ClassifyText, Tables}
use Rattle.lq_plan.specs.declared.keys.Version.{Version}
use Rattle.lq_plan.specs.declared.values.EventWord.{EventWord}
use Rattle.lq_plan.specs.declared.values.EventWord.TheVariants as word
use Rattle.lq_plan.proofs.Groups.{child-at, each-child, group-within, length-children}
use Rattle.lq_plan.proofs.Ranges.{at_false, in_range, number_there, tables_few, tables_some}
use Rattle.lq_plan.proofs.Words.{classify_within, irq_within, split_within, spread_within}

-- VERSIONS

-- each limit of one version is within that of another
pub record IsNarrower (narrow wide : Version) : Type 0 where
  pub number : narrow.number ≤ wide.number
  pub senders : narrow.max_senders ≤ wide.max_senders
  pub len : narrow.max_len ≤ wide.max_len
  pub queues : narrow.max_queues ≤ wide.max_queues
  pub mq : narrow.max_mq ≤ wide.max_mq
  pub irq_us : narrow.max_irq_us ≤ wide.max_irq_us
  pub flow : narrow.flow ≡ true → wide.flow ≡ true
  pub rate : narrow.max_rate ≤ wide.max_rate
  pub never : narrow.never ≡ true → wide.never ≡ true

-- the defaults are within the limits of a version, and these within those of the latest
pub record IsVersion (version : Version) : Type 0 where
  pub some_number : 1 ≤ version.number
  pub some_senders : 1 ≤ version.max_senders
  pub some_len : 1000 ≤ version.max_len
  pub some_queues : 1 ≤ version.max_queues
  pub some_mq : 1 ≤ version.max_mq
  pub narrower : IsNarrower version version_5

narrower-1-5 : IsNarrower version_1 version_5
narrower-1-5 = record { number = omega arith; senders = omega arith; len = omega arith; queues = omega arith; mq = omega arith; irq_us = omega arith; flow = λ e. refl; rate = omega arith; never = λ e. refl }

narrower-2-5 : IsNarrower version_2 version_5
narrower-2-5 = record { number = omega arith; senders = omega arith; len = omega arith; queues = omega arith; mq = omega arith; irq_us = omega arith; flow = λ e. refl; rate = omega arith; never = λ e. refl }

narrower-3-5 : IsNarrower version_3 version_5
narrower-3-5 = record { number = omega arith; senders = omega arith; len = omega arith; queues = omega arith; mq = omega arith; irq_us = omega arith; flow = λ e. refl; rate = omega arith; never = λ e. refl }

narrower-4-5 : IsNarrower version_4 version_5
narrower-4-5 = record { number = omega arith; senders = omega arith; len = omega arith; queues = omega arith; mq = omega arith; irq_us = omega arith; flow = λ e. e; rate = omega arith; never = λ e. refl }

narrower-5-5 : IsNarrower version_5 version_5
narrower-5-5 = record { number = omega arith; senders = omega arith; len = omega arith; queues = omega arith; mq = omega arith; irq_us = omega arith; flow = λ e. e; rate = omega arith; never = λ e. e }

pub narrower-1-2 : IsNarrower version_1 version_2
narrower-1-2 = record { number = omega arith; senders = omega arith; len = omega arith; queues = omega arith; mq = omega arith; irq_us = omega arith; flow = λ e. e; rate = omega arith; never = λ e. e }

pub narrower-1-3 : IsNarrower version_1 version_3
narrower-1-3 = record { number = omega arith; senders = omega arith; len = omega arith; queues = omega arith; mq = omega arith; irq_us = omega arith; flow = λ e. e; rate = omega arith; never = λ e. e }

pub narrower-2-3 : IsNarrower version_2 version_3
narrower-2-3 = record { number = omega arith; senders = omega arith; len = omega arith; queues = omega arith; mq = omega arith; irq_us = omega arith; flow = λ e. e; rate = omega arith; never = λ e. e }

pub narrower-1-4 : IsNarrower version_1 version_4
narrower-1-4 = record { number = omega arith; senders = omega arith; len = omega arith; queues = omega arith; mq = omega arith; irq_us = omega arith; flow = λ e. refl; rate = omega arith; never = λ e. e }

pub narrower-2-4 : IsNarrower version_2 version_4
narrower-2-4 = record { number = omega arith; senders = omega arith; len = omega arith; queues = omega arith; mq = omega arith; irq_us = omega arith; flow = λ e. refl; rate = omega arith; never = λ e. e }

pub narrower-3-4 : IsNarrower version_3 version_4
narrower-3-4 = record { number = omega arith; senders = omega arith; len = omega arith; queues = omega arith; mq = omega arith; irq_us = omega arith; flow = λ e. refl; rate = omega arith; never = λ e. e }

pub is-version_1 : IsVersion version_1
is-version_1 = record { some_number = omega arith; some_senders = omega arith; some_len = omega arith; some_queues = omega arith; some_mq = omega arith; narrower = narrower-1-5 }

pub is-version_2 : IsVersion version_2
is-version_2 = record { some_number = omega arith; some_senders = omega arith; some_len = omega arith; some_queues = omega arith; some_mq = omega arith; narrower = narrower-2-5 }

pub is-version_3 : IsVersion version_3
is-version_3 = record { some_number = omega arith; some_senders = omega arith; some_len = omega arith; some_queues = omega arith; some_mq = omega arith; narrower = narrower-3-5 }

pub is-version_4 : IsVersion version_4
is-version_4 = record { some_number = omega arith; some_senders = omega arith; some_len = omega arith; some_queues = omega arith; some_mq = omega arith; narrower = narrower-4-5 }

pub is-version_5 : IsVersion version_5
is-version_5 = record { some_number = omega arith; some_senders = omega arith; some_len = omega arith; some_queues = omega arith; some_mq = omega arith; narrower = narrower-5-5 }

of-version : (is_5 is_4 is_3 is_2 : Bool) → IsVersion (if is_5 then version_5 else if is_4 then version_4 else if is_3 then version_3 else if is_2 then version_2 else version_1)
of-version true is_4 is_3 is_2 = is-version_5
of-version false true is_3 is_2 = is-version_4
of-version false false true is_2 = is-version_3
of-version false false false true = is-version_2
of-version false false false false = is-version_1

pub is-version : (root : Members) → IsVersion (version_of root)
is-version root = of-version (version_in root == 5) (version_in root == 4) (version_in root == 3) (version_in root == 2)

-- A STATION

-- the queues that a station may have
some-queues : (version : Version) → IsVersion version → (several : Bool) → (1 ≤ (if several then 1 else version.max_queues)) × ((if several then 1 else version.max_queues) ≤ version.max_queues)
some-queues version is true = (omega arith, is.some_queues)
some-queues version is false = (is.some_queues, omega arith)

pub mq_within : (version : Version) → IsVersion version → (t : Members) → has_fault OutOfRange (station_keys version t) t ≡ false → (1 ≤ mq_in t) × (mq_in t ≤ version.max_mq)
unfolding station_keys
mq_within version is t h = in_range t (station_keys version t) 4 (codes "mq") version.mq 1 version.max_mq 1 h refl (omega arith) is.some_mq

-- the rules of its device, without a card and with one
params_of : (card : Bool) (burst busy_every busy_limit hang_after : ℕ) → burst ≤ (if card then 1 else 1000000) → busy_every ≤ (if card then 0 else 1000000) → busy_limit ≤ 1000000
    → hang_after ≤ (if card then 0 else 1000000) → AreParamsWithin (record { burst = burst; busy_every = busy_every; busy_limit = busy_limit; hang_after = hang_after })
params_of true b e l h burst every limit hang = record { burst = omega (arith, burst); busy_every = omega (arith, every); busy_limit = limit; hang_after = omega (arith, hang) }
params_of false b e l h burst every limit hang = record { burst = burst; busy_every = every; busy_limit = limit; hang_after = hang }

-- `burst` without a card and with one
some-burst : (card : Bool) → (if card then 1 else 0) ≤ (if card then 1 else 1000000)
some-burst true = omega arith
some-burst false = omega arith

record ParamsFacts (t : Members) : Type 0 where
  burst : (least_burst t ≤ number_value (codes "burst") (least_burst t) t) × (number_value (codes "burst") (least_burst t) t ≤ most_with 1 t)
  busy_every : number_value (codes "busy_every") 0 t ≤ most_with 0 t
  busy_limit : number_value (codes "busy_limit") 0 t ≤ 1000000
  hang_after : number_value (codes "hang_after") 0 t ≤ most_with 0 t

params_facts : (version : Version) (t : Members) → has_fault OutOfRange (station_keys version t) t ≡ false → ParamsFacts t
unfolding station_keys
params_facts version t h =
    let keys = station_keys version t in
    record {
      burst = in_range t keys 11 (codes "burst") Optional (least_burst t) (most_with 1 t) (least_burst t) h refl (omega arith) (some-burst (has_card t));
      busy_every = (in_range t keys 12 (codes "busy_every") Optional 0 (most_with 0 t) 0 h refl (omega arith) (omega arith)).1;
      busy_limit = (in_range t keys 13 (codes "busy_limit") Optional 0 1000000 0 h refl (omega arith) (omega arith)).1;
      hang_after = (in_range t keys 14 (codes "hang_after") Optional 0 (most_with 0 t) 0 h refl (omega arith) (omega arith)).1;
    }

-- the device of a card
stops : (t : Members) → ParamsFacts t → has_card t ≡ true → StopsAtEach (params_in (least_burst t) t)
stops t facts has =
    let least : least_burst t ≡ 1 = ap (λ card. if card then 1 else 0) has in
    let most : most_with 1 t ≡ 1 = ap (λ card. if card then 1 else 1000000) has in
    let none : most_with 0 t ≡ 0 = ap (λ card. if card then 0 else 1000000) has in
    record { burst = omega (arith, facts.burst.0, facts.burst.1, least, most); never_busy = omega (arith, facts.busy_every, none); never_hangs = omega (arith, facts.hang_after, none) }

limit_within : (bytes descriptors : ℕ) (some : Bool) → nat_lt 0 bytes ≡ some → bytes ≤ 1000000000 → (1 ≤ descriptors) × (descriptors ≤ 65536) → IsLimitWithin (if some then Bql bytes else Ring descriptors)
limit_within bytes descriptors true is few ring = (ltb-true 0 bytes is, few)
limit_within bytes descriptors false is few ring = ring

card_within : (version : Version) (t : Members) → has_fault OutOfRange (station_keys version t) t ≡ false → has_fault WrongKind (station_keys version t) t ≡ false → has_card t ≡ true → IsCardOf version (card_as t)
unfolding station_keys
card_within version t h kinds has =
    let keys = station_keys version t in
    let numbers : (low high : ℕ) → card_number t low high ≡ Number low high = λ low high. ap (λ card. if card then Number low high else Number 1 0) has in
    let at : (name : List ℕ) (low high : ℕ) → Some (key name version.link (card_number t low high)) ≡ Some (key name version.link (Number low high)) = λ name low high. ap (λ (rule : Rule). Some (key name version.link rule)) (numbers low high) in
    let rate = number_there 1 version.max_rate 1 (get_member (codes "rate_kbit") t) has (at_false (value_fails has_kind t) keys 5 (key (codes "rate_kbit") version.link (Number 1 version.max_rate)) kinds refl) (at_false (value_fails is_within t) keys 5 (key (codes "rate_kbit") version.link (Number 1 version.max_rate)) h refl) in
    let ring = in_range t keys 6 (codes "ring") version.link 1 65536 256 h (at (codes "ring") 1 65536) (omega arith) (omega arith) in
    let bql = in_range t keys 7 (codes "bql") version.link 0 1000000000 0 h (at (codes "bql") 0 1000000000) (omega arith) (omega arith) in
    let overhead = in_range t keys 9 (codes "overhead") version.link 0 1000 24 h (at (codes "overhead") 0 1000) (omega arith) (omega arith) in
    let mpu = in_range t keys 10 (codes "mpu") version.link (1 - overhead_in t) 1000 84 h (at (codes "mpu") (1 - overhead_in t) 1000) (omega arith) (omega arith) in
    record {
      some = rate.0;
      rate = rate.1;
      limit = limit_within (number_value (codes "bql") 0 t) (number_value (codes "ring") 256 t) (nat_lt 0 (number_value (codes "bql") 0 t)) refl bql.1 ring;
      coalesce = (in_range t keys 8 (codes "coalesce_us") version.link 0 1000000 0 h (at (codes "coalesce_us") 0 1000000) (omega arith) (omega arith)).1;
      overhead = overhead.1;
      mpu = mpu.1;
      some_bytes = omega (arith, mpu.0);
    }

-- a station's card is that of its keys
card-is : (t : Members) (has : Bool) (card : Card) → has_card t ≡ has → (if has then Some (card_as t) else None) ≡ Some card → (has_card t ≡ true) × (card_as t ≡ card)
card-is t true card is same = (is, same_Some (card_as t) card same)
card-is t false card is same = cc

pub station_within : (version : Version) → IsVersion version → (t : Members) → has_fault OutOfRange (station_keys version t) t ≡ false → has_fault WrongKind (station_keys version t) t ≡ false
    → IsStationOf version (station_plan_in t)
unfolding station_keys
station_within version is t h kinds =
    let keys = station_keys version t in
    let len = in_range t keys 0 (codes "len") Optional 1 version.max_len 1000 h refl (omega arith) is.some_len in
    let max_len = in_range t keys 1 (codes "max_len") Optional (len_in t) version.max_len (len_in t) h refl (omega arith) len.1 in
    let most = some-queues version is (nat_lt 1 (mq_in t)) in
    let queues = in_range t keys 3 (codes "queues") version.queues 1 (if nat_lt 1 (mq_in t) then 1 else version.max_queues) 1 h refl (omega arith) most.0 in
    let params = params_facts version t h in
    record {
      some = len.0;
      len = max_len.0;
      max_len = max_len.1;
      params = params_of (has_card t) _ _ _ _ params.burst.1 params.busy_every params.busy_limit params.hang_after;
      has_queue = queues.0;
      queues = omega (arith, queues.1, most.1);
      card = λ card same. let own = card-is t (has_card t) card refl same in
          (subst (IsCardOf version) own.1 (card_within version t h kinds own.0), stops t params own.0);
    }

-- a plan within the limits of a version is within those of a wider one
card-widened : (narrow wide : Version) → IsNarrower narrow wide → (c : Card) → IsCardOf narrow c → IsCardOf wide c
card-widened narrow wide less c of = record {
  some = of.some;
  rate = omega (arith, of.rate, less.rate);
  limit = of.limit;
  coalesce = of.coalesce;
  overhead = of.overhead;
  mpu = of.mpu;
  some_bytes = of.some_bytes;
}

station-widened : (narrow wide : Version) → IsNarrower narrow wide → (s : StationPlan) → IsStationOf narrow s → IsStationOf wide s
station-widened narrow wide less s within = record {
  some = within.some;
  len = within.len;
  max_len = omega (arith, within.max_len, less.len);
  params = within.params;
  has_queue = within.has_queue;
  queues = omega (arith, within.queues, less.queues);
  card = λ card is. let own = within.card card is in (card-widened narrow wide less card own.0, own.1);
}

split-widened : (narrow wide : Version) → IsNarrower narrow wide → (s : Split) → IsSplitOf narrow s → IsSplitOf wide s
split-widened narrow wide less split.Round of = tt
split-widened narrow wide less split.Source of = tt
split-widened narrow wide less split.Flow of = less.flow of

spread-widened : (narrow wide : Version) → IsNarrower narrow wide → (s : Spread) → IsSpreadOf narrow s → IsSpreadOf wide s
spread-widened narrow wide less spread.Bytes of = tt
spread-widened narrow wide less spread.Flow of = less.flow of

classify-widened : (narrow wide : Version) → IsNarrower narrow wide → (c : Classify) → IsClassifyOf narrow c → IsClassifyOf wide c
classify-widened narrow wide less Tos of = tt
classify-widened narrow wide less Never of = less.never of

pub irq-widened : (narrow wide : Version) → IsNarrower narrow wide → (irq : Irq) → IsIrqOf narrow irq → IsIrqOf wide irq
irq-widened narrow wide less (Every packets) of = of
irq-widened narrow wide less (Period microseconds) of = (of.0, omega (arith, of.1, less.irq_us))

pub widened : (narrow wide : Version) → IsNarrower narrow wide → (p : Plan) → IsPlanOf narrow p → IsPlanOf wide p
widened narrow wide less p within = record {
  has_version = within.has_version;
  of_version = omega (arith, within.of_version, less.number);
  has_sender = within.has_sender;
  senders = omega (arith, within.senders, less.senders);
  split = split-widened narrow wide less p.split within.split;
  spread = spread-widened narrow wide less p.spread within.spread;
  classify = classify-widened narrow wide less p.classify within.classify;
  irq = irq-widened narrow wide less p.irq within.irq;
  has_station = within.has_station;
  stations = within.stations;
  has_group = within.has_group;
  children = within.children;
  each_group = λ j mq at. let each = within.each_group j mq at in (each.0, omega (arith, each.1, less.mq));
  events = within.events;
  each_station = λ j station at. station-widened narrow wide less station (within.each_station j station at);
  each_event = within.each_event;
  each_reach = within.each_reach;
  order = within.order;
  link = within.link;
}

-- AN EVENT

kind_within : (found : Option EventWord) (t : Members) (max_len : ℕ) → (0 < number_value (codes "len") 1 t) × (number_value (codes "len") 1 t ≤ max_len) → AreParamsWithin (params_in 0 t)
    → IsKindWithin max_len (kind_as found t)
kind_within None t max_len len params = tt
kind_within (Some word.Down) t max_len len params = tt
kind_within (Some word.Up) t max_len len params = tt
kind_within (Some word.Resize) t max_len len params = len
kind_within (Some word.TxQueueLen) t max_len len params = len
kind_within (Some word.Swap) t max_len len params = params

record EventFacts (stations : List Members) (t : Members) : Type 0 where
  before : number_value (codes "before") 0 t ≤ 1000000
  station : number_value (codes "station") 0 t ≤ length stations - 1
  len : (1 ≤ max_len_for stations t) → (1 ≤ number_value (codes "len") 1 t) × (number_value (codes "len") 1 t ≤ max_len_for stations t)
  params : AreParamsWithin (params_in 0 t)

event_facts : (stations : List Members) (t : Members) → has_fault OutOfRange (event_keys stations t) t ≡ false → EventFacts stations t
unfolding event_keys
event_facts stations t h =
    let keys = event_keys stations t in
    let presence = params_presence (event_word_in t) in
    let burst = in_range t keys 4 (codes "burst") presence 0 1000000 0 h refl (omega arith) (omega arith) in
    let busy_every = in_range t keys 5 (codes "busy_every") presence 0 1000000 0 h refl (omega arith) (omega arith) in
    let busy_limit = in_range t keys 6 (codes "busy_limit") presence 0 1000000 0 h refl (omega arith) (omega arith) in
    let hang_after = in_range t keys 7 (codes "hang_after") presence 0 1000000 0 h refl (omega arith) (omega arith) in
    record {
      before = (in_range t keys 0 (codes "before") Required 0 1000000 0 h refl (omega arith) (omega arith)).1;
      station = (in_range t keys 2 (codes "station") Required 0 (length stations - 1) 0 h refl (omega arith) (omega arith)).1;
      len = λ some. in_range t keys 3 (codes "len") (len_presence (event_word_in t)) 1 (max_len_for stations t) 1 h refl (omega arith) some;
      params = record { burst = burst.1; busy_every = busy_every.1; busy_limit = busy_limit.1; hang_after = hang_after.1 };
    }

abbrev pub AreStationsOf : Version → List Members → Type 0
AreStationsOf version stations = (j : ℕ) (t : Members) → slice_get stations j ≡ Some t → IsStationOf version (station_plan_in t)

abbrev pub AreStationsWithin : List Members → Type 0
AreStationsWithin stations = AreStationsOf version_5 stations

-- each group is of some stations
abbrev pub AreGroupsWithin : List Members → Type 0
AreGroupsWithin stations = (j : ℕ) (t : Members) → slice_get stations j ≡ Some t → 0 < mq_in t

-- the station of an event, if there is one
max_len_bounds : (stations : List Members) (t : Members) → AreStationsWithin stations → number_value (codes "station") 0 t < length stations
    → (1 ≤ max_len_for stations t) × (max_len_for stations t ≤ 65536)
max_len_bounds stations t within there =
    let j = number_value (codes "station") 0 t in
    let at = slice_get-get_or stations j no_members there in
    let ok = within j (get_or stations j no_members) at in
    let same : max_len_for stations t ≡ max_len_in (get_or stations j no_members) = ap (λ o. option_map_or max_len_in o 0) at in
    (omega arith, omega arith)

-- a station that an event is done to is a child of the event's group
child-of : (mq first c : ℕ) (event : EventPlan) → event.station ≡ first → event.mq ≡ mq → 0 < mq → is_at c event ≡ true → (i : ℕ) × (i < mq) × (c ≡ first + i)
child-of mq first c event is_first is_mq some at =
    let within = at-within c event at in let few = reach-few event (omega arith) in (c - first, omega arith, omega arith)

pub event_within : (stations : List Members) (t : Members) → AreStationsWithin stations → AreGroupsWithin stations → 0 < length stations → has_fault OutOfRange (event_keys stations t) t ≡ false
    → IsEventWithin (flat_map children_in stations) (event_in (map mq_in stations) t)
event_within stations t within some_mq some h =
    let facts = event_facts stations t h in
    let j = group_in t in
    let groups = map mq_in stations in
    let there : j < length stations = omega (arith, facts.station) in
    let long = length-map stations mq_in in
    let below : j < length groups = omega arith in
    let bounds = max_len_bounds stations t within there in
    let s = get_or stations j no_members in
    let at = slice_get-get_or stations j no_members there in
    let mq : mq_at groups j ≡ mq_in s = ap (λ o. option_map_or (λ mq. mq) o 0) (slice_get-map mq_in stations j ∙ ap (option_map mq_in) at) in
    let has : 0 < mq_at groups j = let known = some_mq j s at in omega arith in
    let inside = group-within groups j below in
    let all = length-children stations in
    record {
      before = facts.before;
      station = omega arith;
      some = has;
      within = omega arith;
      kind = λ c at-c. let child = child-of (mq_at groups j) (first_at groups j) c (event_in groups t) refl refl has at-c in
          let is : max_len_at (flat_map children_in stations) c ≡ max_len_for stations t =
          ap (max_len_at (flat_map children_in stations)) child.2 ∙ (ap (λ o. option_map_or (λ (x : StationPlan). x.max_len) o 0) (child-at stations j child.0 s at (omega arith))
          ∙ sym (ap (λ o. option_map_or max_len_in o 0) at)) in
          subst (λ most. IsKindWithin most (kind_as (event_word_in t) t)) (sym is) (kind_within (event_word_in t) t (max_len_for stations t) (facts.len bounds.0) facts.params);
    }

pub event_group : (stations : List Members) (t : Members) → 0 < length stations → has_fault OutOfRange (event_keys stations t) t ≡ false → IsEventOfGroup (map mq_in stations) (event_in (map mq_in stations) t)
event_group stations t some h =
    let facts = event_facts stations t h in let long = length-map stations mq_in in
    record { group = group_in t; there = omega (arith, facts.station); first = refl; children = refl }

pub event_small : (stations : List Members) (t : Members) → AreStationsWithin stations → 0 < length stations
    → has_fault OutOfRange (event_keys stations t) t ≡ false → IsEventSmall (length (map mq_in stations)) t
event_small stations t within some h =
    let facts = event_facts stations t h in
    let there : group_in t < length stations = omega (arith, facts.station) in
    let bounds = max_len_bounds stations t within there in
    let len = facts.len bounds.0 in
    let long = length-map stations mq_in in
    record {
      before = facts.before;
      group = omega arith;
      kind = kind_within (event_word_in t) t 65536 (len.0, omega arith) facts.params;
    }

-- A DOCUMENT WITHOUT FAULTS

first_of_four : {X : Type 0} (a b c d : Bool) (w x y z : X) → None ≡ (if a then Some w else if b then Some x else if c then Some y else if d then Some z else None)
    → (a ≡ false) × (b ≡ false) × (c ≡ false) × (d ≡ false)
first_of_four true b c d w x y z h = cc
first_of_four false true c d w x y z h = cc
first_of_four false false true d w x y z h = cc
first_of_four false false false true w x y z h = cc
first_of_four false false false false w x y z h = (refl, refl, refl, refl)

record NoFault (version : Version) (fault : Fault) (d : Document) : Type 0 where
  root : has_fault fault (root_keys version) d.root ≡ false
  stations : list_any (λ s. has_fault fault (station_keys version s) s) d.stations ≡ false
  events : list_any (λ e. has_fault fault (event_keys d.stations e) e) d.events ≡ false

no_fault : (version : Version) (fault : Fault) (d : Document) → has_fault_in version fault d ≡ false → NoFault version fault d
no_fault version fault d h =
    let stations_fault = list_any (λ s. has_fault fault (station_keys version s) s) d.stations in
    let events_fault = list_any (λ e. has_fault fault (event_keys d.stations e) e) d.events in
    let parts = or_parts (has_fault fault (root_keys version) d.root) (stations_fault || events_fault) h in
    let more = or_parts stations_fault events_fault parts.1 in
    record { root = parts.0; stations = more.0; events = more.1 }

pub record Facts (limits : Version) (root : Members) (d : Document) : Type 0 where
  pub version : (1 ≤ version_in root) × (version_in root ≤ limits.number)
  pub senders : (1 ≤ number_value (codes "senders") 1 root) × (number_value (codes "senders") 1 root ≤ limits.max_senders)
  pub split : IsSplitOf limits (split_in root)
  pub spread : IsSpreadOf limits (spread_in root)
  pub classify : IsClassifyOf limits (classify_in root)
  pub irq : IsIrqOf limits (irq_in root)
  pub has_station : 0 < length d.stations
  pub few_stations : length d.stations ≤ 8
  pub few_events : length d.events ≤ 64
  pub stations : AreStationsOf limits d.stations
  pub mq : (j : ℕ) (t : Members) → slice_get d.stations j ≡ Some t → (1 ≤ mq_in t) × (mq_in t ≤ limits.max_mq)
  pub few_children : sum (map mq_in d.stations) ≤ 8
  pub events : (e : ℕ) (t : Members) → slice_get d.events e ≡ Some t → has_fault OutOfRange (event_keys d.stations t) t ≡ false
  pub no_card_fault : has_card_fault d ≡ false
  pub is : IsVersion limits

pub root_facts : (version : Version) → IsVersion version → (root : Members) → None ≡ first_fault version (document_of root) → Facts version root (document_of root)
unfolding root_keys
root_facts version is root h =
    let d = document_of root in
    let none = first_of_four (has_fault_in version UnknownKey d) (has_fault_in version MissingKey d) (has_fault_in version WrongKind d) (has_fault_in version OutOfRange d || (has_group_fault (plan_in d) || (has_two_irqs d.root || has_card_fault d))) _ _ _ _ h in
    let limits = or_parts (has_fault_in version OutOfRange d) (has_group_fault (plan_in d) || (has_two_irqs d.root || has_card_fault d)) none.3 in
    let whole = or_parts (has_group_fault (plan_in d)) (has_two_irqs d.root || has_card_fault d) limits.1 in
    let missing = no_fault version MissingKey d none.1 in
    let kinds = no_fault version WrongKind d none.2 in
    let ranges = no_fault version OutOfRange d limits.0 in
    let groups = or_parts (nat_lt 8 (length (flat_map children_in d.stations))) _ whole.0 in
    let keys = root_keys version in
    let station = key (codes "station") Required (Tables 1 8) in
    let event = key (codes "event") Optional (Tables 0 64) in
    let irq_us = key (codes "irq_us") version.irq_us (Number 1 version.max_irq_us) in
    record {
      version = in_range root keys 0 (codes "version") Optional 1 version.number 1 ranges.root refl (omega arith) is.some_number;
      senders = in_range root keys 1 (codes "senders") Optional 1 version.max_senders 1 ranges.root refl (omega arith) is.some_senders;
      split = split_within version (get_member (codes "split") root) (at_false (value_fails is_within root) keys 2 (key (codes "split") Optional (SplitText version.flow)) ranges.root refl);
      spread = spread_within version (get_member (codes "spread") root) (at_false (value_fails is_within root) keys 3 (key (codes "spread") version.spread (SpreadText version.flow)) ranges.root refl);
      classify = classify_within version (get_member (codes "classify") root) (at_false (value_fails is_within root) keys 4 (key (codes "classify") version.link (ClassifyText version.never)) ranges.root refl);
      irq = irq_within version (number_value (codes "irq_every") 1 root) (get_member (codes "irq_us") root) (in_range root keys 5 (codes "irq_every") Optional 1 1000 1 ranges.root refl (omega arith) (omega arith)) (at_false (value_fails has_kind root) keys 6 irq_us kinds.root refl) (at_false (value_fails is_within root) keys 6 irq_us ranges.root refl);
      has_station = tables_some 1 8 (get_member (codes "station") root) (at_false (λ (key : Key). is_required key.presence && is_none (get_member key.name root)) keys 7 station missing.root refl) (at_false (value_fails has_kind root) keys 7 station kinds.root refl) (at_false (value_fails is_within root) keys 7 station ranges.root refl);
      few_stations = tables_few 1 8 (get_member (codes "station") root) (at_false (value_fails is_within root) keys 7 station ranges.root refl);
      few_events = tables_few 0 64 (get_member (codes "event") root) (at_false (value_fails is_within root) keys 8 event ranges.root refl);
      stations = λ j t at. station_within version is t (at_false (λ s. has_fault OutOfRange (station_keys version s) s) d.stations j t ranges.stations at) (at_false (λ s. has_fault WrongKind (station_keys version s) s) d.stations j t kinds.stations at);
      mq = λ j t at. mq_within version is t (at_false (λ s. has_fault OutOfRange (station_keys version s) s) d.stations j t ranges.stations at);
      few_children = omega (arith, ltb-false 8 (length (flat_map children_in d.stations)) groups.0, length-children d.stations);
      events = λ e t at. at_false (λ x. has_fault OutOfRange (event_keys d.stations x) x) d.events e t ranges.events at;
      no_card_fault = (or_parts (has_two_irqs d.root) (has_card_fault d) whole.1).1;
      is = is;
    }

pub facts : (root : Members) (d : Document) → d ≡ document_of root → None ≡ first_fault (version_of d.root) d → Facts (version_of root) root d
facts root d same h = rw same (root_facts (version_of root) (is-version root) root (h ∙ ap (λ (x : Document). first_fault (version_of x.root) x) same))

-- what the groups of a document without faults are
pub few-mq : (root : Members) (d : Document) → d ≡ document_of root → None ≡ first_fault (version_of d.root) d → (j : ℕ) (t : Members) → slice_get d.stations j ≡ Some t → mq_in t ≤ 8
few-mq root d same h j t at = let all = facts root d same h in let mq = all.mq j t at in omega (arith, mq.1, all.is.narrower.mq)

pub stations-within : (version : Version) (root : Members) (d : Document) → Facts version root d → AreStationsWithin d.stations
stations-within version root d all = λ j t at. station-widened version version_5 all.is.narrower (station_plan_in t) (all.stations j t at)

-- THE PLAN

seen_through : {X Y : Type 0} (f : X → Y) (o : Option X) (y : Y) → option_map f o ≡ Some y → (x : X) × (o ≡ Some x) × (y ≡ f x)
seen_through f None y h = cc
seen_through f (Some x) y h = (x, refl, cc)

mapped : {X Y : Type 0} (f : X → Y) (xs : List X) (j : ℕ) (y : Y) → slice_get (map f xs) j ≡ Some y → (x : X) × (slice_get xs j ≡ Some x) × (y ≡ f x)
mapped f xs j y at = seen_through f (slice_get xs j) y (sym (slice_get-map f xs j) ∙ at)

pub groups-within : (version : Version) (root : Members) (d : Document) → Facts version root d → AreGroupsWithin d.stations
groups-within version root d all = λ j t at. let mq = all.mq j t at in omega (arith, mq.0)

-- some stations are some children
some-children : (version : Version) (root : Members) (d : Document) → Facts version root d → 0 < sum (map mq_in d.stations)
some-children version root d all =
    let long = length-map d.stations mq_in in let has = all.has_station in let first : 0 < length (map mq_in d.stations) = omega arith in
    let at = slice_get-get_or d.stations 0 no_members has in
    let mq : mq_at (map mq_in d.stations) 0 ≡ mq_in (get_or d.stations 0 no_members) = ap (λ o. option_map_or (λ mq. mq) o 0) (slice_get-map mq_in d.stations 0 ∙ ap (option_map mq_in) at) in
    let some = groups-within version root d all 0 (get_or d.stations 0 no_members) at in let inside = group-within (map mq_in d.stations) 0 first in omega arith

-- a station with a card, where there are no many links
one_station : (stations : List StationPlan) (j : ℕ) (s : StationPlan) → slice_get stations j ≡ Some s → length stations ≤ 1 → stations ≡ s ∷ []
one_station [] j s at few = cc
one_station (x ∷ []) zero s at few = ap (λ (y : StationPlan). y ∷ []) (same_Some x s at)
one_station (x ∷ []) (suc j) s at few = cc
one_station (x ∷ y ∷ rest) j s at few = absurd (omega (arith, few))

one_link : (stations : List StationPlan) (j : ℕ) (s : StationPlan) (card : Card) → has_many_links stations ≡ false → slice_get stations j ≡ Some s → s.card ≡ Some card
    → (stations ≡ s ∷ []) × (s.queues ≤ 1)
one_link stations j s card few at is =
    let several = nat_lt 1 s.queues || nat_lt 1 (length stations) in
    let none : several ≡ false =
    ap (λ (o : Option Card). is_some o && several) (sym is) ∙ at_false (λ (x : StationPlan). is_some x.card && (nat_lt 1 x.queues || nat_lt 1 (length stations))) stations j s few at in
    let parts = or_parts (nat_lt 1 s.queues) (nat_lt 1 (length stations)) none in
    (one_station stations j s at (ltb-false 1 (length stations) parts.1), ltb-false 1 s.queues parts.0)

-- an event swaps a device
abbrev swaps_device : Members → Bool
swaps_device event = is_swap_kind (kind_as (event_word_in event) event)

-- where a station has a card, none does
keeps_device : (d : Document) (j : ℕ) (t : Members) (card : Card) → has_card_fault d ≡ false → slice_get d.stations j ≡ Some t → (station_plan_in t).card ≡ Some card → list_any swaps_device d.events ≡ false
keeps_device d j t card none at is =
    let irq = is_some (get_member (codes "irq_every") d.root) || is_some (get_member (codes "irq_us") d.root) in
    let has = (card-is t (has_card t) card refl is).0 in
    elim (cases_Bool (list_any has_card d.stations)) [
      | inl some ↦ (or_parts irq (list_any swaps_device d.events) (ap (λ b. b && (irq || list_any swaps_device d.events)) (sym some) ∙ none)).1
      | inr without ↦ absurd (false≢true (sym (at_false has_card d.stations j t without at) ∙ has))
    ]

pub of_version : (version : Version) (root : Members) (d : Document) (p : Plan) → Facts version root d → is_out_of_order (map (event_in (map mq_in d.stations)) d.events) ≡ false → has_many_links (flat_map children_in d.stations) ≡ false → p.version ≡ version_in root → p.senders ≡ number_value (codes "senders") 1 root
    → p.split ≡ split_in root → p.spread ≡ spread_in root → p.classify ≡ classify_in root → p.irq ≡ irq_in root → p.stations ≡ flat_map children_in d.stations → p.groups ≡ map mq_in d.stations → p.events ≡ map (event_in (map mq_in d.stations)) d.events → IsPlanOf version p
of_version version root d p all in_order few_links number senders split spread classify irq stations groups events =
    let count = length-children d.stations in record {
      has_version = omega (arith, all.version.0);
      of_version = omega (arith, all.version.1);
      has_sender = omega (arith, all.senders.0);
      senders = omega (arith, all.senders.1);
      split = rw split all.split;
      spread = rw spread all.spread;
      classify = rw classify all.classify;
      irq = rw irq all.irq;
      has_station = rw stations (omega (arith, count, some-children version root d all));
      stations = rw stations (omega (arith, count, all.few_children));
      has_group = rw groups (omega (arith, length-map d.stations mq_in, all.has_station));
      children = rw (groups, stations) (sym count);
      each_group = λ j mq at.
          let found = mapped mq_in d.stations j mq (ap (λ gs. slice_get gs j) (sym groups) ∙ at) in
          let known = all.mq j found.0 found.1 in (omega (arith, found.2, known.0), omega (arith, found.2, known.1));
      events = rw events (omega (arith, length-map d.events (event_in (map mq_in d.stations)), all.few_events));
      each_station = λ j station at.
          let found = each-child d.stations j station (ap (λ ss. slice_get ss j) (sym stations) ∙ at) in
          rw found.2 (all.stations found.1.0 found.0 found.1.1);
      each_event = λ e event at.
          let found = mapped (event_in (map mq_in d.stations)) d.events e event (ap (λ es. slice_get es e) (sym events) ∙ at) in
          rw (stations, found.2) (event_within d.stations found.0 (stations-within version root d all) (groups-within version root d all) all.has_station (all.events e found.0 found.1));
      each_reach = λ e event at.
          let found = mapped (event_in (map mq_in d.stations)) d.events e event (ap (λ es. slice_get es e) (sym events) ∙ at) in
          rw (groups, found.2) (event_group d.stations found.0 all.has_station (all.events e found.0 found.1));
      order = rw events in_order;
      link = λ j station card at is.
          let there = ap (λ ss. slice_get ss j) (sym stations) ∙ at in let found = each-child d.stations j station there in
          let lone = one_link (flat_map children_in d.stations) j station card few_links there is in
          record {
            alone = stations ∙ lone.0;
            queues = let some = (all.stations found.1.0 found.0 found.1.1).has_queue in let same = ap (λ (s : StationPlan). s.queues) found.2 in omega (arith, lone.1, some, same);
            no_swap = λ e event at-e.
                let own = mapped (event_in (map mq_in d.stations)) d.events e event (ap (λ es. slice_get es e) (sym events) ∙ at-e) in
                ap is_swap own.2 ∙ at_false swaps_device d.events e own.0 (keeps_device d found.1.0 found.0 card all.no_card_fault found.1.1 (ap (λ (s : StationPlan). s.card) (sym found.2) ∙ is)) own.1;
          };
    }
