-- What moves lead to, and the quiet machine.
use Rattle.std.specs.Prelude.{◌≡◌, ◌≢◌, ℕ, true, false, Some}
use Rattle.lq_model.specs.declared.machine.Packet.{Packet}
use Rattle.lq_model.specs.declared.machine.Answer.{Answer}
use Rattle.lq_model.specs.declared.machine.Beginning.{Beginning}
use Rattle.lq_model.specs.declared.machine.Beginning.TheVariants.{Transmits}
use Rattle.lq_model.specs.declared.machine.ControlStep.{ControlStep}
use Rattle.lq_model.specs.Machine.{Machine, is_queue_open, seat_at}
use Rattle.lq_model.specs.Steps.{is_idle, Steps, Begins}
use Rattle.lq_model.specs.Control.{Controls as ControlsTo}
use Rattle.lq_model.specs.Positions.{own_packet}

-- MOVES

-- a call of a seat may begin beside the others: of an owner one packet at a time is in a transmit
abbrev pub IsFree : Beginning → ℕ → Machine → Type 0
IsFree (Transmits p) i m = (j : ℕ) (r : Packet) → i ≢ j → own_packet (seat_at m j).position ≡ Some r → p.owner ≢ r.owner
IsFree _ i m = Unit {0}

-- what one step may leave: of a seat, of a start, or of control
pub data Moves (m m' : Machine) : Type 0 where
  steps : (i : ℕ) (answer : Answer) → Steps m i answer m' → Moves m m'
  begins : (i : ℕ) (b : Beginning) → IsFree b i m → Begins m i b m' → Moves m m'
  controls : (i : ℕ) (step : ControlStep) → ControlsTo m i step m' → Moves m m'

-- what moves lead to, one after the other
pub data Reaches (m : Machine) : Machine → Type 0 where
  no_move : Reaches m m
  one_more_move : (n n' : Machine) → Reaches m n → Moves n n' → Reaches m n'

-- QUIET

-- active, the lock free, none scheduled, no queue stopped, no seat in a call
pub record IsQuiet (m : Machine) : Type 0 where
  pub unlocked : m.qdisc.locked ≡ false
  pub unscheduled : m.qdisc.sched ≡ false
  pub active : m.qdisc.deactivated ≡ false
  pub queues_open : (queue : ℕ) → is_queue_open m.qdisc queue ≡ true
  pub all_idle : (i : ℕ) → is_idle (seat_at m i).position ≡ true
