-- Lists of moves: how many they are, what they cost, and which packets the device accepts by them.
use Rattle.std.specs.Prelude.{ℕ, ◌+◌, Bool, true, false, ◌||◌, List, [], ◌∷◌, ◌++◌}
use Rattle.lq_model.specs.declared.machine.Packet.{Packet}
use Rattle.lq_model.specs.declared.machine.Answer.{Answer}
use Rattle.lq_model.specs.declared.machine.Answer.TheVariants.{Plain, Stop, Hang, Busy}
use Rattle.lq_model.specs.declared.machine.Beginning.{Beginning}
use Rattle.lq_model.specs.declared.machine.Beginning.TheVariants.{Transmits, Interrupts, Wakes, Controls}
use Rattle.lq_model.specs.declared.machine.Position.{Position}
use Rattle.lq_model.specs.declared.machine.Position.TheVariants.{Xmit}
use Rattle.lq_model.specs.Machine.{Machine, seat_at}
use Rattle.lq_model.specs.Quiet.{Moves}
use Rattle.lq_model.specs.Quiet.Moves.{steps, begins, controls}

-- WHAT A MOVE COSTS: how many steps it may bring besides

-- a step brings none, unless the device is busy: then the packet is laid back, and its holder comes again
abbrev pub step_cost : Answer → ℕ
step_cost Busy = 19
step_cost _ = 0

-- a transmit brings a packet and a call; a soft interrupt was counted when its seat was raised
abbrev pub start_cost : Beginning → ℕ
start_cost (Transmits p) = 36
start_cost Interrupts = 0
start_cost (Wakes queue) = 18
start_cost Controls = 1

abbrev pub control_cost : ℕ
control_cost = 18

abbrev pub cost_of : {m n : Machine} → Moves m n → ℕ
cost_of (steps i answer step) = step_cost answer
cost_of (begins i b free begin) = start_cost b
cost_of (controls i step control) = control_cost

-- WHAT THE DEVICE ACCEPTS

-- at the device, with an answer by which it accepts
abbrev pub accepted_at : Position → Answer → List Packet
accepted_at (Xmit p direct) Plain = p ∷ []
accepted_at (Xmit p direct) Stop = p ∷ []
accepted_at (Xmit p direct) Hang = p ∷ []
accepted_at _ _ = []

abbrev pub accepted_by : {m n : Machine} → Moves m n → List Packet
accepted_by {m = m} (steps i answer step) = accepted_at (seat_at m i).position answer
accepted_by (begins i b free begin) = []
accepted_by (controls i step control) = []

abbrev pub is_of_control : {m n : Machine} → Moves m n → Bool
is_of_control (steps i answer step) = false
is_of_control (begins i b free begin) = false
is_of_control (controls i step control) = true

-- LISTS OF MOVES

-- what a list of moves comes to: how many they are, what they cost together, which packets the device accepted, the first one first,
-- and whether a step of control is among them
pub record Course : Type 0 where
  pub moves : ℕ
  pub cost : ℕ
  pub accepted : List Packet
  pub with_control : Bool

abbrev pub no_course : Course
no_course = record { moves = 0; cost = 0; accepted = []; with_control = false }

abbrev pub and_then : {m n : Machine} → Course → Moves m n → Course
and_then c move = record {
  moves = c.moves + 1;
  cost = c.cost + cost_of move;
  accepted = c.accepted ++ accepted_by move;
  with_control = c.with_control || is_of_control move;
}

-- moves lead from m to another machine by this course, and each machine on the way, the first and the last too, is such a one
pub data Goes (P : Machine → Type 0) (m : Machine) : Course → Machine → Type 0 where
  no_move : P m → Goes P m no_course m
  one_more_move : (c : Course) (n n' : Machine) → Goes P m c n → (move : Moves n n') → P n' → Goes P m (and_then c move) n'

-- any machine
abbrev pub IsAny : Machine → Type 0
IsAny m = Unit {0}
