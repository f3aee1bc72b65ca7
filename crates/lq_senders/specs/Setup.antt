-- What a run begins with: its packets, its stations over their devices, and a seat there for each sender.
use Rattle.std.specs.Prelude.{All, ◌≡◌, ◌<◌, ◌≤◌, ℕ, ◌+◌, true, false, List, [], length, map, take, drop, count_by, slice_get, slice_index, Some, vec_capacity}
use Rattle.lq_device.specs.Station.{StationState}
use Rattle.lq_device.specs.declared.device.TxDevice.{Ghosts}
use Rattle.lq_model.specs.Capture.{Packets}
use Rattle.lq_model.specs.Device.{DeviceState, IsConfigured}
use Rattle.lq_model.specs.Plan.{Plan, infos_of, is_swap, unit_count, unit_of_swap}
use Rattle.lq_model.specs.declared.fate.Info.{Info}
use Rattle.lq_model.specs.declared.device.Params.{Params}
use Rattle.lq_model.specs.declared.plan.EventKind.TheVariants as kind
use Rattle.lq_model.specs.declared.plan.EventPlan.{EventPlan}
use Rattle.lq_model.specs.declared.plan.StationPlan.{StationPlan}
use Rattle.lq_plan.specs.Packets.{IsInfoWithin}
use Rattle.lq_seat.specs.Ends.{MayCloseBy}
use Rattle.lq_seat.specs.State.{new_seat, SeatState, TableState, IsTableOf, setup_of, IsHere, station_count, times}
use Rattle.lq_senders.specs.Ends.{ClosedState}
use Rattle.lq_senders.specs.declared.ready.Units.{Units}
use Rattle.lq_senders.specs.declared.room.Room.{Room}
use Rattle.lq_senders.specs.declared.sender.Sender.{Sender}

-- PACKETS

-- these are the packets of a capture under the plan
pub record IsRunBy (plan : Plan) (infos : List Info) : Type 0 where
  pub packets : Packets
  pub infos_are : infos ≡ infos_of plan packets
  pub within : All (IsInfoWithin plan) infos
  pub few : length infos ≤ 1000000

-- DEVICES

-- the first so many devices were configured, each as its station says and with room for the station's packets
pub record AreConfigured (plan : Plan) (infos : List Info) (count : ℕ) (before after : List DeviceState) : Type 0 where
  pub same_length : length after ≡ length before
  pub configured : (station : ℕ) (s : StationPlan) (old new : DeviceState) → station < count → slice_get plan.stations station ≡ Some s
      → slice_get before station ≡ Some old → slice_get after station ≡ Some new → IsConfigured s.params (station_count infos station) old new

-- the devices that the first so many events bring were configured, each as its swap says and with room for its station's packets
pub record AreSparesConfigured (plan : Plan) (infos : List Info) (count : ℕ) (before after : List DeviceState) : Type 0 where
  pub same_length : length after ≡ length before
  pub apart : (unit : ℕ) → unit < length plan.stations → slice_get after unit ≡ slice_get before unit
  pub later : (unit : ℕ) → unit_of_swap plan count ≤ unit → slice_get after unit ≡ slice_get before unit
  pub configured : (e : ℕ) (event : EventPlan) (params : Params) (old new : DeviceState) → e < count → slice_get plan.events e ≡ Some event → event.kind ≡ kind.Swap params
      → slice_get before (unit_of_swap plan e) ≡ Some old → slice_get after (unit_of_swap plan e) ≡ Some new → IsConfigured params (station_count infos event.station) old new

-- each device that an event of the plan brings was configured so
abbrev pub AreBroughtAsConfigured : Plan → List Info → List DeviceState → List DeviceState → Type 0
AreBroughtAsConfigured plan infos before after = (e : ℕ) (event : EventPlan) (params : Params) (old new : DeviceState) → slice_get plan.events e ≡ Some event → event.kind ≡ kind.Swap params
    → slice_get before (unit_of_swap plan e) ≡ Some old → slice_get after (unit_of_swap plan e) ≡ Some new → IsConfigured params (station_count infos event.station) old new

-- the device that this event brings was configured so, if it brings one, and all others are as they were
pub record ConfiguresSpare (plan : Plan) (infos : List Info) (e : ℕ) (before after : List DeviceState) : Type 0 where
  pub same_length : length after ≡ length before
  pub configured : (event : EventPlan) (params : Params) (old new : DeviceState) → slice_get plan.events e ≡ Some event → event.kind ≡ kind.Swap params
      → slice_get before (unit_of_swap plan e) ≡ Some old → slice_get after (unit_of_swap plan e) ≡ Some new → IsConfigured params (station_count infos event.station) old new
  pub below : (unit : ℕ) → unit < unit_of_swap plan e → slice_get after unit ≡ slice_get before unit
  pub from_there : (unit : ℕ) → unit_of_swap plan (e + 1) ≤ unit → slice_get after unit ≡ slice_get before unit

-- STATIONS

-- the station's table is new, over its device of the bench
pub record IsOpenedAt (plan : Plan) (infos : List Info) (devices : List DeviceState) (j : ℕ) (t : TableState) (c : SeatState) : Type 0 where
  pub table : IsTableOf plan infos j t
  pub seat : IsHere t c
  pub device : slice_get devices j ≡ Some c.origin
  pub view_is : c ≡ new_seat c.table (setup_of plan infos j) c.origin

pub record AreOpened (plan : Plan) (infos : List Info) (devices : List DeviceState) (tables : List TableState) (seats : List SeatState) : Type 0 where
  pub long : length seats ≡ length tables
  pub each : (j : ℕ) (t : TableState) (c : SeatState) → slice_get tables j ≡ Some t → slice_get seats j ≡ Some c → IsOpenedAt plan infos devices j t c

-- each table has one seat alone, which is in no call and may end it
pub record HasOneSeat (t : TableState) (c : SeatState) : Type 0 where
  pub seat : IsHere t c
  pub may : MayCloseBy c

pub record AreWhole (tables : List TableState) (seats : List SeatState) : Type 0 where
  pub long : length seats ≡ length tables
  pub each : (j : ℕ) (t : TableState) (c : SeatState) → slice_get tables j ≡ Some t → slice_get seats j ≡ Some c → HasOneSeat t c

-- which devices came to the seats' stations
abbrev pub origins_of : List SeatState → List ℕ
origins_of seats = map (λ (c : SeatState). c.origin.identity) seats

-- SENDERS

-- the first sender's seat, from which those of the senders from `next` on are still to be split off
pub record IsSplitting (plan : Plan) (next : ℕ) (v : SeatState) : Type 0 where
  pub shares : v.shares + next ≡ 1025
  pub own : 0 < times 0 v.owners
  pub rest : (owner : ℕ) → next ≤ owner → owner < plan.senders → 0 < times owner v.owners
  pub wide : length v.turns ≡ plan.senders
  pub turns : (owner : ℕ) → slice_index v.turns owner ≡ 0
  pub first : v.first ≡ true
  pub raised : v.raised ≡ false
  pub trail : v.trail ≡ []
  pub told : v.told ≡ true

pub record SplitsAt (plan : Plan) (infos : List Info) (next j : ℕ) (t : TableState) (c : SeatState) : Type 0 where
  pub table : IsTableOf plan infos j t
  pub seat : IsHere t c
  pub splitting : IsSplitting plan next c

pub record AreSplitting (plan : Plan) (infos : List Info) (next : ℕ) (tables : List TableState) (seats : List SeatState) : Type 0 where
  pub long : length seats ≡ length tables
  pub all : length tables ≡ length plan.stations
  pub each : (j : ℕ) (t : TableState) (c : SeatState) → slice_get tables j ≡ Some t → slice_get seats j ≡ Some c → SplitsAt plan infos next j t c

-- the sender at this place among the others has no seat yet, and room for one at each station
pub record HasNoSeats {D : Type 0} (plan : Plan) (place : ℕ) (l : Sender D) : Type 0 where
  pub owner_is : l.owner ≡ place + 1
  pub none_yet : l.seats.items ≡ []
  pub room : length plan.stations ≤ vec_capacity l.seats

-- one for each sender but the first
pub record HaveNoSeats {D : Type 0} (plan : Plan) (others : List (Sender D)) : Type 0 where
  pub one_each : length others + 1 ≡ plan.senders
  pub each : (i : ℕ) (l : Sender D) → slice_get others i ≡ Some l → HasNoSeats plan i l

-- ROOM

-- empty lists, with room for the seats of the other senders and the stations
pub record HasRoomForRun {D : Type 0} {g : Ghosts D} (plan : Plan) (room : Room D g) : Type 0 where
  pub others : HaveNoSeats plan room.others.items
  pub none_closed : room.closed.items ≡ []
  pub no_home : room.homes.items ≡ []
  pub none_ended : room.ended.items ≡ []
  pub closed : length plan.stations ≤ vec_capacity room.closed
  pub homes : length plan.stations ≤ vec_capacity room.homes
  pub ended : length plan.stations ≤ vec_capacity room.ended

-- no unit's device, with room for all of them
pub record HasRoomForUnits {D : Type 0} (plan : Plan) (units : Units D) : Type 0 where
  pub no_table : units.stations.tables.items ≡ []
  pub no_seat : units.stations.seats.items ≡ []
  pub no_spare : units.spares.items ≡ []
  pub tables : length plan.stations ≤ vec_capacity units.stations.tables
  pub seats : length plan.stations ≤ vec_capacity units.stations.seats
  pub spares : count_by is_swap plan.events ≤ vec_capacity units.spares

-- A RUN THAT MAY BEGIN

-- The tables are new, over the devices of a bench, which were configured as they stood there; those that swaps bring are
-- to spare.
pub record AreTablesReady (plan : Plan) (infos : List Info) (before : List DeviceState) (tables : List TableState) (seats : List SeatState) (spares : List DeviceState) : Type 0 where
  pub devices : List DeviceState
  pub units : unit_count plan ≤ length before
  pub configured : AreConfigured plan infos (length plan.stations) before devices
  pub brought : AreBroughtAsConfigured plan infos before devices
  pub opened : AreOpened plan infos devices tables seats
  pub all : length tables ≡ length plan.stations
  pub spares_are : spares ≡ take (count_by is_swap plan.events) (drop (length plan.stations) devices)

-- the same of the devices of all units, each seen by its state
abbrev pub AreUnitsReady : {D : Type 0} → (D → DeviceState) → Plan → List Info → List DeviceState → Units D → Type 0
AreUnitsReady state plan infos before units =
    AreTablesReady plan infos before units.stations.tables.items units.stations.seats.items (map state units.spares.items)

-- WHAT COMES BACK

-- each station lies in its closed table
abbrev pub AreAtHome : List ClosedState → Type 0
AreAtHome closed = (j : ℕ) (x : ClosedState) → slice_get closed j ≡ Some x → (st : StationState) × (x.home ≡ Some st)
