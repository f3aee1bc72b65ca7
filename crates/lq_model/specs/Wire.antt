-- A card on a wire: when the queue of its station is opened, and when each frame leaves. A frame takes the time of its bytes, the driver has room for
-- so many packets or bytes, and its interrupt comes some microseconds after a frame has left.
--
-- Times are scaled: nanoseconds times the rate in thousand bits a second. So a byte takes 8,000,000, and nothing is rounded.
use Rattle.std.specs.Prelude.{ℕ, zero, suc, ◌+◌, ◌-◌, ◌*◌, max, min, Bool, true, ◌&&◌, not, nat_lt, nat_le, ◌==◌, if◌then◌else◌, List, [], ◌∷◌, ◌++◌, length, drop, slice_get}
use Rattle.std.specs.List.{sum_by}
use Rattle.std.specs.Option.{option_map_or}
use Rattle.lq_model.specs.Account.{held, is_open}
use Rattle.lq_model.specs.Alone.{RunningStation, brought_in, bypass_of, changed, events_after, events_before, new_station, opened, served}
use Rattle.lq_model.specs.Capture.{Packets}
use Rattle.lq_model.specs.Plan.{Plan}
use Rattle.lq_model.specs.declared.fate.Info.{Info}
use Rattle.lq_model.specs.declared.flight.Flight.{Flight}
use Rattle.lq_model.specs.declared.plan.Card.{Card}
use Rattle.lq_model.specs.declared.plan.Limit.{Limit}
use Rattle.lq_model.specs.declared.plan.Limit.TheVariants.{Ring, Bql}
use Rattle.lq_model.specs.declared.plan.StationPlan.{StationPlan}

-- FRAMES AND TIME

-- the length of a packet's frame; one of raw IP has no header of Ethernet, and gets one; 0 of no packet
abbrev pub frame_length : Packets → ℕ → ℕ
frame_length packets n = if nat_lt n packets.count then packets.length n + (if packets.link n == 101 then 14 else 0) else 0

-- how long it is on the wire
abbrev pub wire_time : Card → ℕ → ℕ
wire_time card length = 8000000 * max (length + card.overhead) card.mpu

-- when packet n comes; a time of 2^64 nanoseconds or more, after the year 2554, counts as the greatest below
abbrev pub moment : Card → Packets → ℕ → ℕ
moment card packets n = min (packets.time n) 0xffff_ffff_ffff_ffff * card.rate_kbit

-- how long after a frame has left its interrupt comes
abbrev pub delay : Card → ℕ
delay card = card.coalesce_us * 1000 * card.rate_kbit

-- THE CARD

-- the station, the packets that the driver hasn't taken back, when the wire is free, and all packets that were accepted
pub record Wired : Type 0 where
  pub station : RunningStation
  pub ring : List Flight
  pub free : ℕ
  pub flights : List Flight

abbrev pub limit_has_room : Limit → List Flight → Bool
limit_has_room (Ring descriptors) ring = nat_lt (length ring) descriptors
limit_has_room (Bql bytes) ring = nat_le (sum_by (λ flight. flight.length) ring) bytes

abbrev pub ring_has_room : Card → List Flight → Bool
ring_has_room card ring = limit_has_room card.limit ring

-- packet n accepted at a moment: its frame begins when the wire is free
abbrev pub flight_of : Card → Packets → ℕ → ℕ → ℕ → Flight
flight_of card packets now free n = record {
  number = n;
  accepted = now;
  begins = max now free;
  ends = max now free + wire_time card (frame_length packets n);
  length = frame_length packets n;
}

abbrev pub with_flight : Card → Packets → ℕ → ℕ → Wired → Wired
with_flight card packets now n w =
    let flight = flight_of card packets now w.free n in
    record w { ring = w.ring ++ flight ∷ []; free = flight.ends; flights = w.flights ++ flight ∷ [] }

abbrev pub with_flights : Card → Packets → ℕ → List ℕ → Wired → Wired
with_flights card packets now [] w = w
with_flights card packets now (n ∷ ns) w = with_flights card packets now ns (with_flight card packets now n w)

-- the packets that the present unit has sent, and those that it sent since
abbrev pub sent_now : RunningStation → List ℕ
sent_now s = s.account.sent s.account.unit

abbrev pub newly_sent : RunningStation → RunningStation → List ℕ
newly_sent old new = drop (length (sent_now old)) (sent_now new)

-- a step of the station at a moment
abbrev pub made_at : Card → Packets → ℕ → (RunningStation → RunningStation) → Wired → Wired
made_at card packets now step w = with_flights card packets now (newly_sent w.station (step w.station)) (record w { station = step w.station })

-- what has left the wire by a moment is taken back
abbrev pub left_at : ℕ → List Flight → List Flight
left_at now [] = []
left_at now (flight ∷ ring) = if nat_le flight.ends now then left_at now ring else flight ∷ ring

-- OPENINGS

-- how often the queue was opened so far, and what that left
pub record OpenedSoFar : Type 0 where
  pub times : ℕ
  pub wired : Wired

abbrev pub is_shut : RunningStation → Bool
is_shut s = not (is_open s.account 0)

-- opened as often as the queue is stopped and there is room, so many times at most
abbrev pub opened_while : Card → Packets → List Info → ℕ → ℕ → OpenedSoFar → OpenedSoFar
opened_while card packets infos now zero o = o
opened_while card packets infos now (suc more) o =
    if is_shut o.wired.station && ring_has_room card o.wired.ring
    then opened_while card packets infos now more (record { times = o.times + 1; wired = made_at card packets now (λ s. served infos (opened s)) o.wired })
    else o

-- so many times are enough: each but the last sends a packet that is held
abbrev pub opened_at : Card → Packets → List Info → ℕ → OpenedSoFar → OpenedSoFar
opened_at card packets infos now o = opened_while card packets infos now (length (held o.wired.station.account) + 1) o

-- the interrupt that comes at a moment
abbrev pub interrupted : Card → Packets → List Info → ℕ → OpenedSoFar → OpenedSoFar
interrupted card packets infos now o = opened_at card packets infos now (record o { wired = record o.wired { ring = left_at now o.wired.ring } })

-- the next interrupt follows the end of the oldest frame of the ring; it comes where its moment is due
abbrev pub next_interrupt : Card → Packets → List Info → (ℕ → Bool) → (OpenedSoFar → OpenedSoFar) → List Flight → OpenedSoFar → OpenedSoFar
next_interrupt card packets infos due go_on [] o = o
next_interrupt card packets infos due go_on (flight ∷ ring) o =
    if due (flight.ends + delay card) then go_on (interrupted card packets infos (flight.ends + delay card) o) else o

-- the interrupts that are due, so many at most
abbrev pub interrupted_while : Card → Packets → List Info → (ℕ → Bool) → ℕ → OpenedSoFar → OpenedSoFar
interrupted_while card packets infos due zero o = o
interrupted_while card packets infos due (suc more) o =
    next_interrupt card packets infos due (interrupted_while card packets infos due more) o.wired.ring o

-- so many are enough: each takes a packet back that is in the ring or held
abbrev pub all_interrupted : Card → Packets → List Info → (ℕ → Bool) → OpenedSoFar → OpenedSoFar
all_interrupted card packets infos due o = interrupted_while card packets infos due (length o.wired.ring + length (held o.wired.station.account)) o

-- THE RUN

-- the plan's events, after each of which the station is served
abbrev pub with_changes : Plan → List Info → List ℕ → RunningStation → RunningStation
with_changes plan infos [] s = s
with_changes plan infos (event ∷ events) s =
    with_changes plan infos events (option_map_or (λ e. served infos (changed plan event e.kind s)) (slice_get plan.events event) s)

abbrev pub served_with : Plan → List Info → ℕ → RunningStation → RunningStation
served_with plan infos n s = served infos (brought_in infos (bypass_of plan 0) n s)

-- packet n comes, behind the events before it
abbrev pub wired_with : Card → Plan → Packets → List Info → ℕ → Wired → Wired
wired_with card plan packets infos n w =
    made_at card packets (moment card packets n) (λ s. served_with plan infos n (with_changes plan infos (events_before plan n) s)) w

-- packet n comes, and at its moment the queue is opened while there is room
abbrev pub come : Card → Plan → Packets → List Info → ℕ → Wired → OpenedSoFar
come card plan packets infos n w = opened_at card packets infos (moment card packets n) (record { times = 0; wired = wired_with card plan packets infos n w })

-- packet n and what follows it up to the moment of the next one, that moment's interrupts included
abbrev pub turned : Card → Plan → Packets → List Info → ℕ → Wired → OpenedSoFar
turned card plan packets infos n w = all_interrupted card packets infos (λ now. nat_le now (moment card packets (n + 1))) (come card plan packets infos n w)

abbrev pub first_wired : StationPlan → Wired
first_wired s = record { station = new_station 0 s; ring = []; free = 0; flights = [] }

-- the first so many packets and what followed each
abbrev pub after_wired : Card → Plan → Packets → List Info → Wired → ℕ → Wired
after_wired card plan packets infos start zero = start
after_wired card plan packets infos start (suc n) = (turned card plan packets infos n (after_wired card plan packets infos start n)).wired

-- packet n, which is the last one: at its moment the events that are left come; and then all interrupts, until nothing is held
abbrev pub finished_wired : Card → Plan → Packets → List Info → ℕ → Wired → Wired
finished_wired card plan packets infos n w =
    let left = made_at card packets (moment card packets n) (with_changes plan infos (events_after plan packets.count)) (come card plan packets infos n w).wired in
    (all_interrupted card packets infos (λ now. true) (record { times = 0; wired = left })).wired

-- WHAT A PLAN AND ITS PACKETS GIVE

-- how often the queue is opened after packet n, before the next one comes
unfoldable pub openings_of_card : Card → Plan → Packets → List Info → ℕ → ℕ
openings_of_card card plan packets infos n =
    if nat_lt (n + 1) packets.count
    then option_map_or (λ s. (turned card plan packets infos n (after_wired card plan packets infos (first_wired s) n)).times) (slice_get plan.stations 0) 0
    else 0

-- the packets that were accepted, in that order
abbrev pub flights_of : Card → Plan → Packets → List Info → Wired → List Flight
flights_of card plan packets infos start =
    if packets.count == 0 then []
    else (finished_wired card plan packets infos (packets.count - 1) (after_wired card plan packets infos start (packets.count - 1))).flights

unfoldable pub flights_of_card : Card → Plan → Packets → List Info → List Flight
flights_of_card card plan packets infos = option_map_or (λ s. flights_of card plan packets infos (first_wired s)) (slice_get plan.stations 0) []
