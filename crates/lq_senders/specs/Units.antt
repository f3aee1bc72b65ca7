-- Which unit a station has, where its device is swapped, and where the devices of the other units are.
use Rattle.std.specs.Prelude.{◌≡◌, ◌<◌, ◌≤◌, ℕ, zero, suc, true, false, if◌then◌else◌, List, [], ◌++◌, take, drop, length, count_by, slice_get, slice_set, Option, Some, None, Contains}
use Rattle.lq_model.specs.Alone.{new_device}
use Rattle.lq_model.specs.Device.{DeviceState}
use Rattle.lq_model.specs.Plan.{Plan, after_events, is_swap, unit_count, unit_of_swap}
use Rattle.lq_model.specs.declared.device.Params.{Params}
use Rattle.lq_model.specs.declared.fate.Info.{Info}
use Rattle.lq_model.specs.declared.plan.EventKind.TheVariants as kind
use Rattle.lq_model.specs.declared.plan.EventPlan.{EventPlan}
use Rattle.lq_seat.specs.State.{SeatState, HasServed, station_count}

-- UNITS

-- the station's unit after the first so many events of the plan
abbrev pub unit_at : Plan → ℕ → ℕ → ℕ
unit_at plan station count = after_events (λ e event unit. if is_swap event then unit_of_swap plan e else unit) station (take count plan.events) 0 station

-- how many of the first so many events swap a device
abbrev pub swaps_before : Plan → ℕ → ℕ
swaps_before plan count = count_by is_swap (take count plan.events)

-- DEVICES

-- a device that may come to the station: it was just configured, and has room for all of its packets
pub record MayBeBrought (infos : List Info) (station : ℕ) (device : DeviceState) : Type 0 where
  pub accepted : device.accepted ≡ []
  pub asked : device.asked ≡ []
  pub hung : device.hung ≡ false
  pub room : station_count infos station ≤ device.spare

-- the devices of the plan's units, as they come
pub record AreUnits (plan : Plan) (infos : List Info) (units : List DeviceState) : Type 0 where
  pub long : length units ≡ unit_count plan
  pub may_come : (e : ℕ) (event : EventPlan) (device : DeviceState) → slice_get plan.events e ≡ Some event → is_swap event ≡ true → slice_get units (unit_of_swap plan e) ≡ Some device
      → MayBeBrought infos event.station device

-- those that swaps bring tell what the plan configures them with
abbrev pub DoTell : Plan → List DeviceState → Type 0
DoTell plan units = (e : ℕ) (event : EventPlan) (params : Params) (device : DeviceState) → slice_get plan.events e ≡ Some event → event.kind ≡ kind.Swap params
    → slice_get units (unit_of_swap plan e) ≡ Some device → device.told ≡ Some (new_device params)

-- the device that the swap numbered e took away: its unit came to the station as this one, and its seat knows what it sent
pub record IsTaken (plan : Plan) (infos : List Info) (units taken : List DeviceState) (seats : List SeatState) (e : ℕ) (event : EventPlan) : Type 0 where
  pub origin : DeviceState
  pub device : DeviceState
  pub came : slice_get units (unit_at plan event.station e) ≡ Some origin
  pub went : slice_get taken (swaps_before plan e) ≡ Some device
  pub has_served : HasServed infos event.station origin device
  pub gone : (c : SeatState) → slice_get seats event.station ≡ Some c → Contains c.gone (unit_at plan event.station e, device.accepted)

-- After the first so many events each station has its unit's device, and the spare devices are those of the swaps that are
-- left, in order, and then those that the others took away.
pub record DevicesStand (plan : Plan) (infos : List Info) (units : List DeviceState) (count : ℕ) (seats : List SeatState) (spares : List DeviceState) : Type 0 where
  pub units_are : AreUnits plan infos units
  pub home : (j : ℕ) (c : SeatState) → slice_get seats j ≡ Some c → slice_get units (unit_at plan j count) ≡ Some c.origin
  pub taken : List DeviceState
  pub so_many : length taken ≡ swaps_before plan count
  pub spares_are : spares ≡ drop (unit_of_swap plan count) units ++ taken
  pub each : (e : ℕ) (event : EventPlan) → e < count → slice_get plan.events e ≡ Some event → is_swap event ≡ true → IsTaken plan infos units taken seats e event

-- the devices that came to the seats' stations are the same, and those that went
pub record SameDevices (old new : List SeatState) : Type 0 where
  pub long : length new ≡ length old
  pub each : (j : ℕ) (c c' : SeatState) → slice_get old j ≡ Some c → slice_get new j ≡ Some c' → (c'.origin ≡ c.origin) × (c'.gone ≡ c.gone)

-- THE SWAPS UNDONE

-- two places are exchanged, where there are both
abbrev pub traded : {X : Type 0} → ℕ → List X → ℕ → List X → Option X → Option X → List X × List X
traded i xs k ys (Some x) (Some y) = (slice_set xs i y, slice_set ys k x)
traded i xs k ys x y = (xs, ys)

-- of devices by station, and those that swaps took away in order: a swap is undone
abbrev pub undone_event : {X : Type 0} → Plan → ℕ → Option EventPlan → List X → List X → List X × List X
undone_event plan e None homes spares = (homes, spares)
undone_event plan e (Some event) homes spares =
    if is_swap event then traded event.station homes (swaps_before plan e) spares (slice_get homes event.station) (slice_get spares (swaps_before plan e)) else (homes, spares)

-- those among the first so many events are, the latest first
abbrev pub undone : {X : Type 0} → Plan → ℕ → List X × List X → List X × List X
undone plan zero devices = devices
undone plan (suc e) devices = undone plan e (undone_event plan e (slice_get plan.events e) devices.0 devices.1)

-- all of the plan's are: the devices by unit
abbrev pub by_unit : {X : Type 0} → Plan → List X → List X → List X
by_unit plan homes spares = (undone plan (length plan.events) (homes, spares)).0 ++ (undone plan (length plan.events) (homes, spares)).1
