-- Small runs of one sender, and their fates.
use Rattle.std.specs.Prelude.{◌≡◌, ◌*◌, ◌/◌, ℕ, Bool, true, List, [], ◌∷◌, length, map, slice_index, None, Some}
use Rattle.lq_model.specs.Alone.{alone}
use Rattle.lq_model.specs.Capture.{Packets}
use Rattle.lq_model.specs.Numbers.{first_numbers}
use Rattle.lq_model.specs.Openings.{openings}
use Rattle.lq_model.specs.Plan.{Plan}
use Rattle.lq_model.specs.Texts.{times_text}
use Rattle.lq_model.specs.Wire.{flights_of_card, openings_of_card}
use Rattle.lq_model.specs.declared.device.Params.{Params}
use Rattle.lq_model.specs.declared.fate.Fate.{Fate}
use Rattle.lq_model.specs.declared.fate.Info.{Info}
use Rattle.lq_model.specs.declared.plan.Card.{Card}
use Rattle.lq_model.specs.declared.plan.Classify.TheVariants.{Tos}
use Rattle.lq_model.specs.declared.plan.EventKind.{EventKind}
use Rattle.lq_model.specs.declared.plan.EventPlan.{EventPlan}
use Rattle.lq_model.specs.declared.plan.Irq.TheVariants.{Every}
use Rattle.lq_model.specs.declared.plan.Limit.{Limit}
use Rattle.lq_model.specs.declared.plan.Limit.TheVariants.{Ring}
use Rattle.lq_model.specs.declared.plan.Split.TheVariants.{Round}
use Rattle.lq_model.specs.declared.plan.Spread.TheVariants.{Bytes}
use Rattle.lq_model.specs.declared.plan.StationPlan.{StationPlan}

-- packets of one station, by their bands; and by their queues and bands
abbrev pub packet_on : ℕ → ℕ → Info
packet_on queue band = record { owner = 0; station = 0; band = band; queue = queue; rank = 0 }

abbrev pub packets_in_bands : List ℕ → List Info
packets_in_bands bands = map (packet_on 0) bands

abbrev pub packets_on : List (ℕ × ℕ) → List Info
packets_on packets = map (λ p. packet_on p.0 p.1) packets

-- packets of band 1, by their stations
abbrev pub packets_to : List ℕ → List Info
packets_to stations = map (λ station. record { owner = 0; station = station; band = 1; queue = 0; rank = 0 }) stations

-- a station with one queue
abbrev pub station : ℕ → Bool → Params → StationPlan
station len bypass params = record { len = len; max_len = len; bypass = bypass; params = params; queues = 1; card = None }

-- a plan of these stations
abbrev pub plan_of_stations : ℕ → List StationPlan → List EventPlan → Plan
plan_of_stations irq_every stations events = record {
  version = 1;
  senders = 1;
  split = Round;
  spread = Bytes;
  classify = Tos;
  irq = Every irq_every;
  stations = stations;
  groups = map (λ s. 1) stations;
  events = events;
}

-- a plan of one group of two of these stations
abbrev pub group_of_two : StationPlan → List EventPlan → Plan
group_of_two s events = record (plan_of_stations 1 (s ∷ s ∷ []) events) { groups = 2 ∷ [] }

abbrev pub one_station : ℕ → ℕ → Bool → Params → List EventPlan → Plan
one_station irq_every len bypass params events = plan_of_stations irq_every (station len bypass params ∷ []) events

abbrev pub with_burst : ℕ → Params
with_burst burst = record { burst = burst; busy_every = 0; busy_limit = 0; hang_after = 0 }

abbrev pub event_at : ℕ → EventKind → EventPlan
event_at before kind = record { before = before; station = 0; mq = 1; kind = kind }

-- the same of both stations of a group
abbrev pub group_event_at : ℕ → EventKind → EventPlan
group_event_at before kind = record (event_at before kind) { mq = 2 }

abbrev pub no_rules : Params
no_rules = with_burst 0

-- packets without bytes that have these times
abbrev pub packets_at : List ℕ → Packets
packets_at times = record { count = length times; link = λ n. 0; frame = λ n. []; time = slice_index times; length = λ n. 0 }

-- the plan and the packets, which have these times, have just these fates
abbrev pub HaveFatesBy : List ℕ → Plan → List Info → List Fate → Type 0
HaveFatesBy times plan infos fates = alone plan infos (openings plan (packets_at times)) ≡ map (λ fate. Some fate) fates

-- so they have where times don't matter
abbrev pub HaveFates : Plan → List Info → List Fate → Type 0
HaveFates plan infos fates = HaveFatesBy (map (λ info. 0) infos) plan infos fates

-- how often the queues are opened after each packet, where the packets have these times
abbrev pub HasOpenings : Plan → List ℕ → List ℕ → Type 0
HasOpenings plan times opens = map (openings plan (packets_at times)) (first_numbers (length times)) ≡ opens

-- LINKS

-- packets of Ethernet without bytes that have these times and lengths
abbrev pub packets_on_wire : List ℕ → List ℕ → Packets
packets_on_wire times lengths = record { count = length times; link = λ n. 1; frame = λ n. []; time = slice_index times; length = slice_index lengths }

-- a card on a wire of so many kbit/s; of 8,000, a byte takes a microsecond
abbrev pub card_at : ℕ → Limit → ℕ → Card
card_at rate_kbit limit coalesce_us = record { rate_kbit = rate_kbit; limit = limit; coalesce_us = coalesce_us; overhead = 24; mpu = 84 }

abbrev pub card_with : Limit → ℕ → Card
card_with limit coalesce_us = card_at 8000 limit coalesce_us

-- the station of a card
abbrev pub carded : ℕ → Bool → List EventPlan → Plan
carded len bypass events = one_station 1 len bypass (with_burst 1) events

abbrev pub in_nanoseconds : List ℕ → List ℕ
in_nanoseconds times = map (λ t. t * 1000) times

-- a packet that is sent: its number, when it is accepted, and when its frame ends, in microseconds
abbrev pub Passage : Type 0
Passage = ℕ × (ℕ × ℕ)

-- with this card the packets of these bands, times in microseconds and lengths pass so, and the queue is opened so often after each
pub record Pass (card : Card) (plan : Plan) (bands times lengths : List ℕ) (passages : List Passage) (opens : List ℕ) : Type 0 where
  pub passed : map (λ f. (f.number, (f.accepted / (card.rate_kbit * 1000), f.ends / (card.rate_kbit * 1000)))) (flights_of_card card plan (packets_on_wire (in_nanoseconds times) lengths) (packets_in_bands bands)) ≡ passages
  pub opened : map (openings_of_card card plan (packets_on_wire (in_nanoseconds times) lengths) (packets_in_bands bands)) (first_numbers (length times)) ≡ opens

-- when their frames end, all in nanoseconds
abbrev pub HaveEnds : Card → Plan → List ℕ → List ℕ → List ℕ → Type 0
HaveEnds card plan times lengths ends =
    map (λ f. f.ends / card.rate_kbit) (flights_of_card card plan (packets_on_wire times lengths) (packets_in_bands (map (λ t. 1) times))) ≡ ends

-- the text of two packets' times, in nanoseconds at 1 kbit/s
abbrev pub HaveTimesText : (ℕ × ℕ) → (ℕ × ℕ) → List ℕ → Type 0
HaveTimesText first second text =
    times_text (card_at 1 (Ring 1) 0) (record { number = 0; accepted = first.0; begins = first.0; ends = first.1; length = 0 } ∷ record { number = 1; accepted = second.0; begins = second.0; ends = second.1; length = 0 } ∷ []) ≡ text
