-- Whether somebody comes for a packet that waits.
use Rattle.std.specs.Prelude.{◌≡◌, ℕ, Bool, true, ◌||◌, if◌then◌else◌, nat_lt, Option, Some, None}
use Rattle.lq_model.specs.declared.machine.ControlStep.{ControlStep}
use Rattle.lq_model.specs.declared.machine.ControlStep.TheVariants.{Return, RunEnd, PurgeBand, PurgeMissed, PurgeDraining}
use Rattle.lq_model.specs.Machine.{Machine, Purge, seat_at}
use Rattle.lq_model.specs.Control.{Controls, is_control, holds_as_control}
use Rattle.lq_model.specs.Quiet.{Moves}
use Rattle.lq_run_core.specs.Progress.{cost_of}

-- a seat may make a step that costs nothing, or begin its soft interrupt
abbrev pub SomebodyMoves : Machine → Type 0
SomebodyMoves m = (n : Machine) × ((move : Moves m n) × (cost_of move ≡ 0))

-- the step by which a call of control comes nearer to its end: where it has the run lock the next one of a purge half done, or run end
abbrev pub next_of_purge : Option Purge → ControlStep
next_of_purge None = RunEnd
next_of_purge (Some u) = if nat_lt u.band 3 then PurgeBand else if u.missed then PurgeDraining else PurgeMissed

abbrev pub next_of_control : Bool → Option Purge → ControlStep
next_of_control holds purge = if holds then next_of_purge purge else Return

-- a seat is in a call of control, has the run lock or is raised, and may make that step
pub record ControlMoves (m : Machine) : Type 0 where
  pub i : ℕ
  pub control : is_control (seat_at m i).position ≡ true
  pub due : (holds_as_control (seat_at m i).position || (seat_at m i).raised) ≡ true
  pub next : Machine
  pub moves : Controls m i (next_of_control (holds_as_control (seat_at m i).position) m.qdisc.purge) next
