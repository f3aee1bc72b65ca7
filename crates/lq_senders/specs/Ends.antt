-- What a run leaves at its end.
use Rattle.std.specs.Option.{option_map, option_map_or}
use Rattle.std.specs.Prelude.{◌≡◌, ◌<◌, ◌≤◌, ℕ, true, false, List, length, map, slice_get, slice_index, Option, Some, All}
use Rattle.lq_account_laws.specs.Progress.{start_of}
use Rattle.lq_account_laws.specs.Trail.{IsTrail, HaveCome, down_of}
use Rattle.lq_device.specs.Station.{StationState}
use Rattle.lq_device.specs.declared.device.TxDevice.{Ghosts}
use Rattle.lq_model.specs.Alone.{RunningStation, after_run, fate_in, finished, new_stations}
use Rattle.lq_model.specs.Device.{DeviceState, IsConfigured, Telling, told_params}
use Rattle.lq_model.specs.Plan.{Plan, queue_in, queues_at, station_in, unit_count}
use Rattle.lq_model.specs.Settled.{IsConfiguredWith, IsUnitOf}
use Rattle.lq_model.specs.Words.{IsWordOf}
use Rattle.lq_model.specs.declared.device.Params.{Params}
use Rattle.lq_model.specs.declared.fate.Fate.{Fate}
use Rattle.lq_model.specs.declared.fate.Info.{Info}
use Rattle.lq_plan.specs.Limits.{IsWithinLimits}
use Rattle.lq_table.specs.declared.ended.Closed.{Closed}
use Rattle.lq_seat.specs.Ends.{HasDecidedAll, PurgesHungOnly, HungOnly, IsSoundAtClose}
use Rattle.lq_seat.specs.State.{new_seat, SeatState, TableState, IsTableOf, setup_of, IsHere, HasAllOf, seat_account, no_station, HangsWhere, IsCallOf, latest_unit, units_of, closed_home}
use Rattle.lq_senders.specs.Fates.{AllTell}
use Rattle.lq_table.specs.Ended.{EndedState, ended_state}
use Rattle.lq_senders.specs.Senders.{AllOwn, AreRunAlone, after_sending}
use Rattle.lq_senders.specs.Units.{DevicesStand, DoTell, by_unit, unit_at}
use Rattle.lq_senders.specs.Way.{down_after_events}

-- A STATION AT ITS END

-- a finished station's sole seat, which may be closed
pub record MayClose (plan : Plan) (infos : List Info) (station : ℕ) (v : SeatState) : Type 0 where
  pub sole : HasAllOf v
  pub first : v.first ≡ true
  pub raised : v.raised ≡ false
  pub finished : HasDecidedAll v
  pub hung : PurgesHungOnly v
  pub trail : IsTrail plan station v.trail
  pub come : HaveCome plan station (length plan.events) v.trail
  pub down : down_of v.trail ≡ down_after_events plan station (length plan.events)
  pub unit : latest_unit station (units_of v.trail) ≡ unit_at plan station (length plan.events)

-- what the sole seat of a finished station knows at the close
pub record EndsAt (plan : Plan) (infos : List Info) (station : ℕ) (v : SeatState) : Type 0 where
  pub about : v.made ≡ setup_of plan infos station
  pub sound : IsSoundAtClose infos station (start_of plan station) v
  pub finished : HasDecidedAll v
  pub hung : HungOnly v
  pub trail : IsTrail plan station v.trail
  pub come : HaveCome plan station (length plan.events) v.trail
  pub down : down_of v.trail ≡ down_after_events plan station (length plan.events)
  pub unit : latest_unit station (units_of v.trail) ≡ unit_at plan station (length plan.events)

pub record MayCloseAt (plan : Plan) (infos : List Info) (j : ℕ) (t : TableState) (c : SeatState) : Type 0 where
  pub table : IsTableOf plan infos j t
  pub seat : IsHere t c
  pub may : MayClose plan infos j c

pub record AllMayClose (plan : Plan) (infos : List Info) (tables : List TableState) (seats : List SeatState) : Type 0 where
  pub long : length seats ≡ length tables
  pub all : length tables ≡ length plan.stations
  pub each : (j : ℕ) (t : TableState) (c : SeatState) → slice_get tables j ≡ Some t → slice_get seats j ≡ Some c → MayCloseAt plan infos j t c

-- CLOSED TABLES

-- what stays of the station, and the station as it lies in the closed table
pub record ClosedState : Type 0 where
  pub ended : EndedState
  pub home : Option StationState

module _ {D : Type 0} {g : Ghosts D} where
  abbrev pub closed_state : Closed D g → ClosedState
  closed_state c = record { ended = ended_state c.ended; home = closed_home c }

abbrev pub home_device : ClosedState → DeviceState
home_device x = option_map_or (λ st. st.device) x.home no_station.device

-- the closed table of a station of the plan, as its seat knew it
pub record IsClosedStation (plan : Plan) (infos : List Info) (station : ℕ) (v : SeatState) (c : ClosedState) : Type 0 where
  pub number_is : c.ended.number ≡ station
  pub plan_is : slice_get plan.stations station ≡ Some c.ended.plan
  pub packets_are : c.ended.packets ≡ length infos
  pub fates : (n : ℕ) (fate : Fate) → n < length infos → station_in infos n ≡ station → (seat_account v).fates n ≡ Some fate → IsWordOf fate (slice_index c.ended.words n)
  pub at_home : (st : StationState) × (c.home ≡ Some st) × (st.device ≡ v.whole.device)
  pub ends : EndsAt plan infos station v

-- the first so many stations are closed
pub record FirstClosed (plan : Plan) (infos : List Info) (count : ℕ) (seats : List SeatState) (closed : List ClosedState) : Type 0 where
  pub so_many : length closed ≡ count
  pub each : (j : ℕ) (c : SeatState) (x : ClosedState) → slice_get seats j ≡ Some c → slice_get closed j ≡ Some x → IsClosedStation plan infos j c x

-- the accounts of these stations have the fates that those of the run of one sender have
abbrev pub HaveFatesAlone : List SeatState → List RunningStation → Type 0
HaveFatesAlone seats stations = (j : ℕ) (c : SeatState) → slice_get seats j ≡ Some c → (s : RunningStation) × (slice_get stations j ≡ Some s) × ((seat_account c).fates ≡ s.account.fates)

-- All packets were sent, with so many openings of the queues after each, and each station was closed: the first sender began with these
-- seats and spare devices, and those are the spare devices that it ended with.
pub record HasSentAll (plan : Plan) (infos : List Info) (opens : ℕ → ℕ) (others : ℕ) (start : List SeatState) (brought : List DeviceState) (closed : List ClosedState) (spares : List DeviceState) : Type 0 where
  pub limits : IsWithinLimits plan
  pub long : length start ≡ length plan.stations
  pub seats : List SeatState
  pub one_each : length seats ≡ length plan.stations
  pub closed_are : FirstClosed plan infos (length plan.stations) seats closed
  pub devices : (units : List DeviceState) → DevicesStand plan infos units 0 start brought → DevicesStand plan infos units (length plan.events) seats spares
  pub alone : others ≡ 0 → AllOwn infos → (units : List DeviceState) → DevicesStand plan infos units 0 start brought → DoTell plan units
      → (from : List RunningStation) → AreRunAlone plan infos start from → HaveFatesAlone seats (map (finished infos) (after_sending plan infos opens from))

-- READING

-- each packet has a fate in the closed table of its station
pub record IsReadable (infos : List Info) (closed : List ClosedState) : Type 0 where
  pub stations : (n : ℕ) → n < length infos → station_in infos n < length closed
  pub packets : (n : ℕ) (x : ClosedState) → n < length infos → slice_get closed (station_in infos n) ≡ Some x → n < x.ended.packets
  pub each : (n : ℕ) (x : ClosedState) → n < length infos → slice_get closed (station_in infos n) ≡ Some x → (fate : Fate) × IsWordOf fate (slice_index x.ended.words n)

-- the fates of the first so many packets were read
pub record FatesRead (infos : List Info) (closed : List ClosedState) (count : ℕ) (fates : List Fate) : Type 0 where
  pub so_many : length fates ≡ count
  pub each : (n : ℕ) (x : ClosedState) (fate : Fate) → slice_get closed (station_in infos n) ≡ Some x → slice_get fates n ≡ Some fate → IsWordOf fate (slice_index x.ended.words n)

-- THE WHOLE RUN

-- the devices of a bench before the run were configured as the plan has it, and the seats are over these, with those of the
-- swaps to spare; where there is one sender, nothing was split off
pub record AreOver (plan : Plan) (infos : List Info) (before : List DeviceState) (others : ℕ) (start : List SeatState) (brought : List DeviceState) : Type 0 where
  pub bench : unit_count plan ≤ length before
  pub units : List DeviceState
  pub configured : (unit : ℕ) (params : Params) (old new : DeviceState) → IsConfiguredWith plan unit params → slice_get before unit ≡ Some old → slice_get units unit ≡ Some new
      → (room : ℕ) × IsConfigured params room old new
  pub stand : DevicesStand plan infos units 0 start brought
  pub alone : plan.senders ≡ 1 → (others ≡ 0) × ((j : ℕ) (c : SeatState) → slice_get start j ≡ Some c → c ≡ new_seat c.table (setup_of plan infos j) c.origin)

-- the devices of the closed tables and the spare ones are back in the bench, each at the place of its unit
abbrev pub AreBack : Plan → List ClosedState → List DeviceState → List DeviceState → Type 0
AreBack plan closed spares after = (unit : ℕ) (device : DeviceState) → slice_get (by_unit plan (map home_device closed) spares) unit ≡ Some device → slice_get after unit ≡ Some device

-- each unit's device is the one that stood there before
abbrev pub SameBoxes : Plan → List DeviceState → List DeviceState → Type 0
SameBoxes plan before after = (unit : ℕ) (old new : DeviceState) → unit < unit_count plan → slice_get before unit ≡ Some old → slice_get after unit ≡ Some new
    → new.identity ≡ old.identity

-- What is known of a unit's device after the run: the unit is one of a station, whose account has that it sent what the device
-- accepted; the device was asked for nothing but packets of the station, and hangs as it tells.
pub record UnitEnds (plan : Plan) (infos : List Info) (after : List DeviceState) (views : ℕ → SeatState) (unit : ℕ) : Type 0 where
  pub station : ℕ
  pub within : station < length plan.stations
  pub of_station : IsUnitOf plan station unit
  pub device : DeviceState
  pub there : slice_get after unit ≡ Some device
  pub sent : (seat_account (views station)).sent unit ≡ device.accepted
  pub asked : All (IsCallOf infos station) device.asked
  pub hangs : (t : Telling) → device.told ≡ Some t → HangsWhere t.params device

-- the run came to its end: what is known of all stations, and of the devices in the bench
pub record RunEnds (plan : Plan) (infos : List Info) (opens : ℕ → ℕ) (before after : List DeviceState) (views : ℕ → SeatState) (fates : List Fate) : Type 0 where
  pub of_plan : (n : ℕ) → n < length infos → station_in infos n < length plan.stations
  pub queues : (n : ℕ) → n < length infos → queue_in infos n < queues_at plan.stations (station_in infos n)
  pub one_each : length fates ≡ length infos
  pub bench : unit_count plan ≤ length before
  pub each : (station : ℕ) → station < length plan.stations → EndsAt plan infos station (views station)
  pub fates_are : (n : ℕ) → n < length infos → slice_get fates n ≡ (seat_account (views (station_in infos n))).fates n
  pub units : (unit : ℕ) → unit < unit_count plan → UnitEnds plan infos after views unit
  -- each station's device stands at the place of its latest unit
  pub present : (station : ℕ) → station < length plan.stations → slice_get after (seat_account (views station)).unit ≡ Some (views station).whole.device
  -- each unit's device tells what the plan configures it with, where it told anything before
  pub tells : (unit : ℕ) (params : Params) (old device : DeviceState) → IsConfiguredWith plan unit params → slice_get before unit ≡ Some old → slice_get after unit ≡ Some device
      → told_params device ≡ option_map (λ _. params) old.told
  -- where the devices tell and there is one sender, each packet's fate is that of the run of one sender
  pub alone : AllTell (unit_count plan) before → plan.senders ≡ 1 → (n : ℕ) → n < length infos
      → fate_in (after_run plan infos opens (λ n. true) (new_stations 0 plan.stations)) infos n ≡ (seat_account (views (station_in infos n))).fates n
