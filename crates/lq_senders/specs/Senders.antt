-- A sender's seats, one at each station.
use Rattle.std.specs.Prelude.{◌≡◌, ◌≢◌, ◌<◌, ◌≤◌, ℕ, zero, suc, ◌+◌, ◌*◌, ◌⊎◌, All, Bool, true, false, List, [], ◌∷◌, length, slice_get, slice_index, slice_set, Some}
use Rattle.lq_account_laws.specs.Progress.{start_of}
use Rattle.lq_control.specs.Finish.{AreRanks, count_below}
use Rattle.lq_model.specs.Alone.{RunningStation, after_packets, events_after, with_events}
use Rattle.lq_model.specs.Device.{DeviceState}
use Rattle.lq_model.specs.Plan.{Plan, is_at, owner_in, queues_at, station_in}
use Rattle.lq_model.specs.declared.fate.Info.{Info}
use Rattle.lq_model.specs.declared.plan.EventPlan.{EventPlan}
use Rattle.lq_plan.specs.Openings.{opens_while_stopped}
use Rattle.lq_plan.specs.Packets.{IsInfoWithin}
use Rattle.lq_qdisc.specs.Alone.{IsAlone, running}
use Rattle.lq_seat.specs.Calls.{DoesEvent, Drains, SendsPacket, WakesQueues}
use Rattle.lq_seat.specs.State.{SeatState, TableState, IsHere, IsTableOf, solo_of, times, AreInfos}
use Rattle.lq_senders.specs.Seats.{Keeps, KeepsSeat}
use Rattle.lq_senders.specs.Units.{DevicesStand, DoTell}
use Rattle.lq_senders.specs.Way.{IsOnWay, StandEarlier}
use Rattle.lq_senders.specs.Woken.{PlanCalls, count_sent}
use Rattle.lq_senders.specs.declared.sender.Sender.{Sender}

-- ONE SEAT

-- a sender's seat at a station, where its packets below n were sent and the first so many events of the plan done
pub record StandsInRun (plan : Plan) (infos : List Info) (sender station count n : ℕ) (v : SeatState) : Type 0 where
  pub is_sender : sender < plan.senders
  pub owner : 0 < times sender v.owners
  pub wide : length v.turns ≡ plan.senders
  pub turn : slice_index v.turns sender ≡ 2 * count_below infos sender station n
  pub raised : v.raised ≡ false
  -- control is the first sender's
  pub way : sender ≡ 0 → (v.first ≡ true) × IsOnWay plan station count v.trail

-- all packets are the first sender's
abbrev pub AllOwn : List Info → Type 0
AllOwn infos = (m : ℕ) → m < length infos → owner_in infos m ≡ 0

pub record StandsAt (plan : Plan) (infos : List Info) (sender count n j : ℕ) (t : TableState) (c : SeatState) : Type 0 where
  pub table : IsTableOf plan infos j t
  pub seat : IsHere t c
  pub stands : StandsInRun plan infos sender j count n c

-- ALL SEATS OF A SENDER

pub record SenderStands (plan : Plan) (infos : List Info) (sender count n : ℕ) (tables : List TableState) (seats : List SeatState) : Type 0 where
  pub long : length seats ≡ length tables
  pub all : length tables ≡ length plan.stations
  pub each : (j : ℕ) (t : TableState) (c : SeatState) → slice_get tables j ≡ Some t → slice_get seats j ≡ Some c → StandsAt plan infos sender count n j t c

-- the seats are the same, with the same devices
pub record KeepAll (old new : List SeatState) : Type 0 where
  pub long : length new ≡ length old
  pub each : (j : ℕ) (c c' : SeatState) → slice_get old j ≡ Some c → slice_get new j ≡ Some c' → Keeps c c'

-- the same, where the devices of some may have been swapped
pub record KeepSeats (old new : List SeatState) : Type 0 where
  pub long : length new ≡ length old
  pub each : (j : ℕ) (c c' : SeatState) → slice_get old j ≡ Some c → slice_get new j ≡ Some c' → KeepsSeat c c'

-- each seat has its table alone and its device tells, and these are the stations of the run of one sender
abbrev pub AreRunAlone : Plan → List Info → List SeatState → List RunningStation → Type 0
AreRunAlone plan infos seats stations = (j : ℕ) (c : SeatState) → slice_get seats j ≡ Some c → IsAlone infos (start_of plan j) (solo_of c) × (slice_get stations j ≡ Some (running (start_of plan j) (solo_of c)))

-- IN TURN AT ALL STATIONS

-- each seat is one of its table
pub record AreSeats (tables : List TableState) (seats : List SeatState) : Type 0 where
  pub long : length seats ≡ length tables
  pub each : (j : ℕ) (t : TableState) (c : SeatState) → slice_get tables j ≡ Some t → slice_get seats j ≡ Some c → IsHere t c

-- the first so many seats did something, and the others are as they were
pub record FirstDid (R : SeatState → SeatState → Type 0) (count : ℕ) (old new : List SeatState) : Type 0 where
  pub long : length new ≡ length old
  pub done : (j : ℕ) (c c' : SeatState) → j < count → slice_get old j ≡ Some c → slice_get new j ≡ Some c' → R c c'
  pub rest : (j : ℕ) → count ≤ j → slice_get new j ≡ slice_get old j

pub record AllDid (R : SeatState → SeatState → Type 0) (old new : List SeatState) : Type 0 where
  pub long : length new ≡ length old
  pub each : (j : ℕ) (c c' : SeatState) → slice_get old j ≡ Some c → slice_get new j ≡ Some c' → R c c'

-- OPENINGS

-- the queues of a seat's station were woken, whether or not one was opened
abbrev pub IsWoken : SeatState → SeatState → Type 0
IsWoken old new = (opened : Bool) × WakesQueues opened old new

-- whether a queue of one of them was opened
abbrev pub WasOpened : Bool → List SeatState → List SeatState → Type 0
WasOpened true old new = (j : ℕ) × (c : SeatState) × (c' : SeatState) × (slice_get old j ≡ Some c) × (slice_get new j ≡ Some c') × WakesQueues true c c'
WasOpened false old new = AllDid (WakesQueues false) old new

-- an opening: the stopped queues of all were opened, if there were any, and then soft interrupts done
pub record AllOpened (opened : Bool) (old new : List SeatState) : Type 0 where
  pub woken : List SeatState
  pub wakes : AllDid IsWoken old woken
  pub was : WasOpened opened old woken
  pub drains : AllDid Drains woken new

-- so many openings, one after the other; if they are made only while a queue is stopped, each opened one
abbrev pub OpenedTimes : Bool → ℕ → List SeatState → List SeatState → Type 0
OpenedTimes only zero old new = new ≡ old
OpenedTimes only (suc count) old new =
    (now : List SeatState) × (opened : Bool) × OpenedTimes only count old now × AllOpened opened now new × (only ≡ true → opened ≡ true)

-- the openings after a packet: so many; or, if they are made only while a queue is stopped, fewer, of which the last opened none
abbrev pub OpenedAfter : Bool → ℕ → List SeatState → List SeatState → Type 0
OpenedAfter only times old new =
    OpenedTimes only times old new
    ⊎ ((only ≡ true) × (count : ℕ) × (now : List SeatState) × (count < times) × OpenedTimes only count old now × AllOpened false now new)

-- an event of the plan was done, if it is one of the seat's station
abbrev pub DoesEventAt : ℕ → EventPlan → SeatState → SeatState → Type 0
DoesEventAt e event old new = ((is_at old.made.station event ≡ true) × ((plan : Plan) → DoesEvent plan e event.kind old new)) ⊎ ((is_at old.made.station event ≡ false) × (new ≡ old))

-- THE CALLS OF A SENDER, in the order in which it makes them

-- the first sender did events of the plan, and every other did nothing
abbrev pub DidEvents : ℕ → List SeatState → List SeatState → Type 0
DidEvents sender old new = AllDid PlanCalls old new × (sender ≢ 0 → new ≡ old)

-- packet n was sent at the seat of its station, and nothing was done at the others
pub record SentPacket (infos : List Info) (n : ℕ) (old new : List SeatState) : Type 0 where
  pub before : SeatState
  pub after : SeatState
  pub there : slice_get old (station_in infos n) ≡ Some before
  pub sends : SendsPacket n before after
  pub laid : new ≡ slice_set old (station_in infos n) after

-- A sender's own packet n: the events before it, the packet, and then the openings after it.
pub record SendsAndOpens (infos : List Info) (only : Bool) (sender n times : ℕ) (old new : List SeatState) : Type 0 where
  pub ready : List SeatState
  pub sent : List SeatState
  pub events : DidEvents sender old ready
  pub packet : SentPacket infos n ready sent
  pub opened : OpenedAfter only times sent new

-- So it came past the packets below n: past each of its own in this way, and past another's without a call.
abbrev pub ComesPast : List Info → Bool → (ℕ → ℕ) → ℕ → ℕ → List SeatState → List SeatState → Type 0
ComesPast infos only opens sender zero old new = new ≡ old
ComesPast infos only opens sender (suc n) old new = (now : List SeatState) × (ComesPast infos only opens sender n old now
    × ((owner_in infos n ≡ sender → SendsAndOpens infos only sender n (opens n) now new) × (owner_in infos n ≢ sender → new ≡ now)))

-- past all packets, and then through the events that are left
abbrev pub SendsAll : List Info → Bool → (ℕ → ℕ) → ℕ → List SeatState → List SeatState → Type 0
SendsAll infos only opens sender old new = (now : List SeatState) × (ComesPast infos only opens sender (length infos) old now × DidEvents sender now new)

-- ON THE WAY THROUGH THE PACKETS

-- A sender is before packet n: it sent its k packets below that, opened the queues after each of them as often as `opens` says, and did
-- the events before `next`, each of which stands before a lower packet.
pub record IsSending (plan : Plan) (infos : List Info) (opens : ℕ → ℕ) (tables : List TableState) (sender n k next : ℕ) (start : List SeatState) (brought : List DeviceState) (now : List SeatState) (spares : List DeviceState) : Type 0 where
  pub within : next ≤ length plan.events
  pub few : k ≤ n
  pub sent : k ≡ count_sent infos sender n
  pub came : ComesPast infos (opens_while_stopped plan) opens sender n start now
  pub stands : SenderStands plan infos sender next n tables now
  pub earlier : StandEarlier plan next n
  pub keeps : KeepSeats start now
  pub devices : (units : List DeviceState) → DevicesStand plan infos units 0 start brought → DevicesStand plan infos units next now spares
  -- where all packets are the first sender's, and the devices that swaps bring tell, its seats are the stations of the run of
  -- one sender
  pub alone : (units : List DeviceState) → DevicesStand plan infos units 0 start brought → DoTell plan units → sender ≡ 0 → AllOwn infos → (from : List RunningStation) → AreRunAlone plan infos start from
      → (k ≡ n) × ((j : ℕ) (event : EventPlan) → next ≤ j → slice_get plan.events j ≡ Some event → n ≤ event.before) × AreRunAlone plan infos now (after_packets plan infos opens (λ n. true) from n)

-- SENDERS

-- all of the plan's events were done, and all packets sent
abbrev pub SenderAtEnd : Plan → List Info → ℕ → List TableState → List SeatState → Type 0
SenderAtEnd plan infos sender tables seats = SenderStands plan infos sender (length plan.events) (length infos) tables seats

-- the seats of a sender that isn't the first: each has one share and this owner
abbrev pub AreOthers : ℕ → List SeatState → Type 0
AreOthers owner seats = (j : ℕ) (c : SeatState) → slice_get seats j ≡ Some c → (c.shares ≡ 1) × (c.owners ≡ owner ∷ []) × (c.first ≡ false)

-- the sender at this place among the others, before the run and after it: its number is one more
pub record IsReadySender (plan : Plan) (infos : List Info) (tables : List TableState) (place owner : ℕ) (seats : List SeatState) : Type 0 where
  pub owner_is : owner ≡ place + 1
  pub stands : SenderStands plan infos owner 0 0 tables seats
  pub others : AreOthers owner seats

pub record IsDoneSender (plan : Plan) (infos : List Info) (tables : List TableState) (place owner : ℕ) (seats : List SeatState) : Type 0 where
  pub owner_is : owner ≡ place + 1
  pub stands : SenderAtEnd plan infos owner tables seats
  pub others : AreOthers owner seats

abbrev pub AreReadySenders : {D : Type 0} → Plan → List Info → List TableState → List (Sender D) → Type 0
AreReadySenders {D} plan infos tables others = (i : ℕ) (l : Sender D) → slice_get others i ≡ Some l → IsReadySender plan infos tables i l.owner l.seats.items

abbrev pub AreDoneSenders : {D : Type 0} → Plan → List Info → List TableState → List (Sender D) → Type 0
AreDoneSenders {D} plan infos tables others = (i : ℕ) (l : Sender D) → slice_get others i ≡ Some l → IsDoneSender plan infos tables i l.owner l.seats.items

-- the sender at each place sent all its packets, and opened the queues after each
abbrev pub EachSendsAll : {D : Type 0} → List Info → Bool → (ℕ → ℕ) → List (Sender D) → List (Sender D) → Type 0
EachSendsAll {D} infos only opens old new = (i : ℕ) (l l' : Sender D) → slice_get old i ≡ Some l → slice_get new i ≡ Some l' → SendsAll infos only opens l.owner l.seats.items l'.seats.items

-- packets of the plan's stations and senders, numbered by rank
pub record IsSendable (plan : Plan) (infos : List Info) : Type 0 where
  pub few : length infos ≤ 1000000
  pub within : All (IsInfoWithin plan) infos
  pub made : (j : ℕ) → j < length plan.stations → AreInfos infos j plan.senders (queues_at plan.stations j)
  pub ranks : AreRanks infos

-- the stations of the run of one sender after all packets and events
abbrev pub after_sending : Plan → List Info → (ℕ → ℕ) → List RunningStation → List RunningStation
after_sending plan infos opens from = with_events plan infos (events_after plan (length infos)) (after_packets plan infos opens (λ n. true) from (length infos))
