-- What holds of a seat between two calls, which no caller sees.
use Rattle.std.specs.Prelude.{◌≡◌, ℕ, ◌<◌, true, List, Contains, Option, None, Some}
use Rattle.lq_account_laws.specs.Trail.{down_of}
use Rattle.lq_control.specs.Control.{IsIn}
use Rattle.lq_model.specs.Account.{Event}
use Rattle.lq_model.specs.declared.machine.Phase.{Phase}
use Rattle.lq_model.specs.declared.machine.Phase.TheVariants.{Active, Purged}
use Rattle.lq_model.specs.declared.machine.Position.TheVariants.{Idle}
use Rattle.lq_qdisc.specs.Sends.{IsReadyToSend}
use Rattle.lq_seat.specs.State.{IsWellMade}
use Rattle.lq_table.specs.Rule.{units_of}
use Rattle.lq_table.specs.Sees.{view, position}
use Rattle.lq_table.specs.declared.shared.Cpu.{Cpu}

-- the phase of a station whose trail is this: deactivated and purged, or active
abbrev pub phase_by : Option ℕ → Phase
phase_by None = Active
phase_by (Some event) = Purged

abbrev pub phase_of : List Event → Phase
phase_of trail = phase_by (down_of trail)

-- the units of a station, which are its number and those that swaps brought, are numbers of 8 bits
pub record AreUnitsSmall (station : ℕ) (units : List ℕ) : Type 0 where
  pub first : station < 256
  pub later : (unit : ℕ) → Contains units unit → unit < 256

module _ {D : Type 0} where
  -- The seat isn't spent, is in no call and has nothing in hand. The first one knows the station's phase by its trail, and each unit on
  -- that has a word.
  pub record IsSeatBetween (c : Cpu D) : Type 0 where
    pub live : 0 < (view c).share.shares
    pub at : position c ≡ Idle
    pub ready : IsReadyToSend c
    pub phase : (view c).control.first ≡ true → IsIn (phase_of (view c).trail) (view c)
    pub units : (view c).control.first ≡ true → AreUnitsSmall (view c).share.about.station (units_of (view c).trail)
    pub made : IsWellMade (view c).share.about
