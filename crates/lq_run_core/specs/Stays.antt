-- What the steps with a mistake leave of the laws of progress.
use Rattle.std.specs.Prelude.{◌≡◌, ℕ, ◌+◌, ◌<◌, false, length}
use Rattle.lq_model.specs.declared.machine.Packet.{Packet}
use Rattle.lq_model.specs.declared.machine.Position.{Position}
use Rattle.lq_model.specs.declared.machine.Seat.{Seat}
use Rattle.lq_model.specs.Machine.{Machine, Qdisc, seat_at}
use Rattle.lq_model.specs.Steps.{After}
use Rattle.lq_model.specs.Kept.{OneHolder}
use Rattle.lq_run_core.specs.Waits.{WaitsOpen}
use Rattle.lq_run_core.specs.Comes.{ControlMoves, SomebodyMoves}
use Rattle.lq_run_core.specs.Measure.{ServesOpen, measure}
use Rattle.lq_run_core.specs.Mistakes.{after_step}

-- the packet waits in an active machine with all queues open, and nobody comes
pub record NobodyComes (m : Machine) (p : Packet) : Type 0 where
  pub active : m.qdisc.deactivated ≡ false
  pub waits : WaitsOpen p m
  pub nobody : SomebodyMoves m → ⊥
  pub no_control : ControlMoves m → ⊥

-- a step of a seat there makes the number less, but for so much at most
abbrev pub ComesNearer : Position → (Qdisc → Seat → After) → ℕ → Type 0
ComesNearer position step more =
    (m : Machine) (i : ℕ) → OneHolder m → i < length m.seats → (seat_at m i).position ≡ position → ServesOpen (after_step m i step)
    → measure (after_step m i step) < measure m + more
