-- Packets that wait to be sent.
use Rattle.std.specs.Prelude.{◌≡◌, ℕ, ◌+◌, Bool, true, false, List, length, sum_by, Option, Some, is_some, ◌⊎◌}
use Rattle.lq_model.specs.declared.machine.Packet.{Packet}
use Rattle.lq_model.specs.declared.machine.Call.TheVariants.{Transmit}
use Rattle.lq_model.specs.declared.machine.Attempt.{Attempt}
use Rattle.lq_model.specs.declared.machine.Attempt.TheVariants.{Direct}
use Rattle.lq_model.specs.declared.machine.Position.{Position}
use Rattle.lq_model.specs.declared.machine.Position.TheVariants.{Enter, Check, Put, Try1, Miss, Try2, Recheck}
use Rattle.lq_model.specs.Machine.{Machine, bit, is_queue_open, seat_at}
use Rattle.lq_model.specs.Positions.{Holds, in_hand}

-- the packet is held, in a band or in the requeue slot, or the holder of the run lock has it in hand
abbrev pub IsWaiting : Packet → Machine → Type 0
IsWaiting p m = Holds m p ⊎ ((i : ℕ) × (in_hand (seat_at m i).position ≡ Some p))

abbrev pub AllOpen : Machine → Type 0
AllOpen m = (queue : ℕ) → is_queue_open m.qdisc queue ≡ true

-- this packet waits, and all queues are open
pub record WaitsOpen (p : Packet) (m : Machine) : Type 0 where
  pub waits : IsWaiting p m
  pub queues_open : AllOpen m

-- HOW MANY

abbrev pub is_direct : Attempt → Bool
is_direct (Direct p) = true
is_direct _ = false

-- the seat has a packet: that of its own transmit until it is put, or the one in hand
abbrev pub carries : Position → Bool
carries (Enter (Transmit p)) = true
carries (Check p) = true
carries (Put p holds) = true
carries (Try1 attempt) = is_direct attempt
carries (Miss attempt) = is_direct attempt
carries (Try2 attempt) = is_direct attempt
carries (Recheck p) = true
carries position = is_some (in_hand position)

-- how many packets the requeue slot and the bands hold
abbrev pub held_packets : Option Packet → List (List Packet) → ℕ
held_packets slot bands = bit (is_some slot) + sum_by (λ band. length band) bands

-- how many are held, or with a seat
abbrev pub packets : Machine → ℕ
packets m = held_packets m.qdisc.slot m.qdisc.bands + sum_by (λ s. bit (carries s.position)) m.seats
