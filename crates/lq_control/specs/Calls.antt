-- What the calls of control require of the seat that makes them (`May..`), and what they ensure of it.
use Rattle.std.specs.Prelude.{◌≡◌, ℕ, ◌<◌, false, List, ◌++◌, [], ◌∷◌, ◌≤◌}
use Rattle.lq_model.specs.Account.{Event, Down, Purge}
use Rattle.lq_model.specs.Device.{DeviceState}
use Rattle.lq_model.specs.declared.fate.Cause.TheVariants as cause
use Rattle.lq_model.specs.declared.machine.Phase.{Phase}
use Rattle.lq_model.specs.declared.machine.Position.{Position}
use Rattle.lq_model.specs.declared.machine.Position.TheVariants.{Idle}
use Rattle.lq_model.specs.declared.plan.EventKind.TheVariants as kind
use Rattle.lq_ring.specs.StepLists.{MakesStepsFrom}
use Rattle.lq_qdisc.specs.Sends.{IsReadyToSend}
use Rattle.lq_table.specs.Rule.{station_count}
use Rattle.lq_table.specs.Sees.{view, position, IsSameSeat}
use Rattle.lq_table.specs.Step.{Standing, Step}
use Rattle.lq_table.specs.Views.{View, Setup}
use Rattle.lq_table.specs.declared.shared.Cpu.{Cpu}
use Rattle.lq_table.specs.declared.shared.Shared.{Shared}
use Rattle.lq_control.specs.Control.{IsAfterUnits, IsIn, IsKeptByControl, IsServed, KeepsDevice}
use Rattle.lq_control.specs.Finish.{AreFor, AreTurnsFrom}
use Rattle.lq_control.specs.Seats.{IsFirstReadyAt, IsReadyAt}

-- EVENTS OF THE PLAN

module _ {D : Type 0} where
  -- The first seat is at this position, with nothing in hand, and knows the station as in this phase.
  pub record MayControl (here : Position) (phase : Phase) (c : Cpu D) : Type 0 where
    pub at : IsFirstReadyAt here c
    pub in_phase : IsIn phase (view c)

  -- So it is, this unit is above every one that the station had, and the device is as new and has room for all packets of the station.
  pub record MaySwapAt (t : Shared D) (here : Position) (phase : Phase) (unit : ℕ) (device : DeviceState) (c : Cpu D) : Type 0 where
    pub at : IsFirstReadyAt here c
    pub in_phase : IsIn phase (view c)
    pub next : (unit < 256) × IsAfterUnits t.station (view c).trail unit
    pub fresh : (device.accepted ≡ []) × (device.hung ≡ false) × (station_count t.infos.now t.station ≤ device.spare) × (device.asked ≡ [])

  -- These events came on the trail, the latest first, by such steps; the seat is at this position, with nothing in hand, and knows the
  -- station as in this phase. A seat that has the table alone knows this.
  pub record ControlsStation (next : Position) (phase : Phase) (events : List Event) (such : Standing → List Step → Type 0) (told : View → View → Type 0) (b a : Cpu D) : Type 0 where
    pub same : IsSameSeat b a × IsKeptByControl (view b) (view a) × KeepsDevice (view b) (view a)
    pub at : IsReadyAt next phase a
    pub trail : (view a).trail ≡ events ++ (view b).trail
    pub makes : MakesStepsFrom such b a
    pub alone : told (view b) (view a)

  -- The same, where the device of the station was swapped.
  pub record SwapsUnderControl (next : Position) (phase : Phase) (events : List Event) (such : Standing → List Step → Type 0) (told : View → View → Type 0) (b a : Cpu D) : Type 0 where
    pub same : IsSameSeat b a × IsKeptByControl (view b) (view a)
    pub at : IsReadyAt next phase a
    pub trail : (view a).trail ≡ events ++ (view b).trail
    pub makes : MakesStepsFrom such b a
    pub alone : told (view b) (view a)

-- what a purge by an event brings to the trail: the latest first
abbrev pub deactivated_by : ℕ → List Event
deactivated_by event = Purge (cause.Event event) ∷ Down event ∷ []

-- SOFT INTERRUPTS

module _ {D : Type 0} where
  -- The seat did soft interrupts, by such steps; it is at this position, with nothing in hand. A seat that has the table alone knows this.
  pub record ServesInterrupts (next : Position) (such : Standing → List Step → Type 0) (told : View → View → Type 0) (b a : Cpu D) : Type 0 where
    pub same : IsSameSeat b a
    pub served : IsServed (view b) (view a)
    pub at : (position a ≡ next) × IsReadyToSend a
    pub makes : MakesStepsFrom such b a
    pub alone : told (view b) (view a)

-- THE END OF A STATION

module _ {D : Type 0} where
  -- The seat isn't raised and in no call, and each owner's packets below n were transmitted.
  pub record MaySendLeft (k : Setup) (n : ℕ) (c : Cpu D) : Type 0 where
    pub at : (position c ≡ Idle) × IsReadyToSend c
    pub raised : (view c).place.raised ≡ false
    pub made : AreFor k (view c)
    pub turns : AreTurnsFrom k n (view c).turns
