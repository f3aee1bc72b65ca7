-- A machine that is run by numbers: its sends take the packet numbers in order, each seat is an owner.
use Rattle.std.specs.Prelude.{◌≡◌, ℕ, ◌+◌, ◌<◌, Bool, true, false, Option, Some, is_some, sum_by, length}
use Rattle.lq_model.specs.declared.machine.Packet.{Packet}
use Rattle.lq_model.specs.declared.machine.Beginning.{Beginning}
use Rattle.lq_model.specs.declared.machine.Beginning.TheVariants.{Transmits, Interrupts, Wakes}
use Rattle.lq_model.specs.Machine.{Qdisc, Machine, bit, seat_at}
use Rattle.lq_model.specs.Positions.{own_packet}
use Rattle.lq_model.specs.Kept.{IsInductive}
use Rattle.lq_model.specs.Steps.{call_begun}
use Rattle.lq_run_core.specs.declared.start.Start.{Start}
use Rattle.lq_run_core.specs.declared.start.Start.TheVariants.{Send, SoftIrq, Wake, SendOn, WakeOn}

pub record NumberedMachine : Type 0 where
  pub machine : Machine
  pub next : ℕ  -- the number of the next packet

-- the start that a seat is told, which owns the packet that it sends; where none is named the queue is 0
abbrev pub beginning_of : Start → ℕ → NumberedMachine → Beginning
beginning_of (Send band) seat r = Transmits (record { number = r.next; owner = seat; band = band; queue = 0 })
beginning_of SoftIrq seat r = Interrupts
beginning_of Wake seat r = Wakes 0
beginning_of (SendOn band queue) seat r = Transmits (record { number = r.next; owner = seat; band = band; queue = queue })
beginning_of (WakeOn queue) seat r = Wakes queue

-- its band and its queue are the machine's
abbrev pub IsInRange : Start → Machine → Type 0
IsInRange (Send band) m = band < 3
IsInRange SoftIrq m = Unit {0}
IsInRange Wake m = Unit {0}
IsInRange (SendOn band queue) m = (band < 3) × (queue < length m.qdisc.xoff)
IsInRange (WakeOn queue) m = queue < length m.qdisc.xoff

abbrev pub is_send : Start → Bool
is_send (Send band) = true
is_send (SendOn band queue) = true
is_send _ = false

-- after a start, where the seat can do it
abbrev pub begun_by : Start → ℕ → NumberedMachine → Option Machine
begun_by start seat r = call_begun r.machine seat (beginning_of start seat r)

abbrev pub packets_held : Qdisc → ℕ
packets_held q = sum_by (λ band. length band) q.bands + bit (is_some q.slot)

-- the packets that seats have in a transmit are their own
abbrev pub OwnersAreSeats : Machine → Type 0
OwnersAreSeats m = (i : ℕ) (p : Packet) → own_packet (seat_at m i).position ≡ Some p → p.owner ≡ i

-- it keeps the machine's invariant
pub record KeepsInvariant (r : NumberedMachine) : Type 0 where
  pub inductive : IsInductive r.machine
  pub owners : OwnersAreSeats r.machine
