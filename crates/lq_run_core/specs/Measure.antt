-- How far a machine is from having sent what waits: a number that becomes less with each step, in whatever order, while a packet waits and
-- all queues are open.
use Rattle.std.specs.Prelude.{◌≡◌, ℕ, zero, suc, ◌+◌, ◌*◌, ◌-◌, Bool, true, false, ◌||◌, ◌&&◌, if◌then◌else◌, List, [], ◌∷◌, sum_by, slice_index_or, Option, is_some}
use Rattle.lq_model.specs.declared.machine.Packet.{Packet}
use Rattle.lq_model.specs.declared.machine.Call.TheVariants.{Transmit, SoftInterrupt}
use Rattle.lq_model.specs.declared.machine.Position.{Position}
use Rattle.lq_model.specs.declared.machine.Position.TheVariants.{Idle, Enter, Check, Put, Try1, Miss, Try2, Recheck, Gate, Xmit, StoreXoff, Post, Deq, Scan, Test, ClearMissed, ClearDraining, BlockedClear, BlockedLoad, BlockedMiss, BlockedDrain, Again, Quota, Unlock, Tail, Sched, Leave, Soft, SoftClear, Late, Wake, Control}
use Rattle.lq_model.specs.declared.machine.Seat.{Seat}
use Rattle.lq_model.specs.Machine.{Machine, bit}
use Rattle.lq_model.specs.Positions.{holds_lock, some_seat}
use Rattle.lq_run_core.specs.Waits.{AllOpen, carries, is_direct, packets}

-- WHAT LIES AHEAD

abbrev pub has_any : List Packet → Bool
has_any [] = false
has_any (p ∷ rest) = true

-- this band holds a packet
abbrev pub waits_in : ℕ → List (List Packet) → Bool
waits_in band bands = has_any (slice_index_or bands band [])

-- this band or a later one does
abbrev pub is_ahead : ℕ → List (List Packet) → Bool
is_ahead zero bands = waits_in 0 bands || (waits_in 1 bands || waits_in 2 bands)
is_ahead (suc zero) bands = waits_in 1 bands || waits_in 2 bands
is_ahead (suc (suc zero)) bands = waits_in 2 bands
is_ahead _ bands = false

-- the requeue slot or a band does
abbrev pub is_held : Option Packet → List (List Packet) → Bool
is_held slot bands = is_some slot || is_ahead 0 bands

-- a packet is held, or with the seat that has the run lock
abbrev pub serves : Machine → Bool
serves m = is_held m.qdisc.slot m.qdisc.bands || some_seat (λ position. holds_lock position && carries position) m

-- a packet is served, and all queues are open
pub record ServesOpen (m : Machine) : Type 0 where
  pub serves : serves m ≡ true
  pub queues_open : AllOpen m

-- THE WAY OF A SEAT

-- the steps that a holder may have before it besides where it looks at the bands and finds none to take: from the first look to the run's
-- end, by a second one; from the second look to it
abbrev pub first_look : ℕ
first_look = 22

abbrev pub second_look : ℕ
second_look = 16

abbrev pub unless_ahead : Bool → ℕ → ℕ
unless_ahead ahead more = if ahead then 0 else more

-- the steps that a seat may still make until it has sent a packet, or is idle
abbrev pub way : Option Packet → List (List Packet) → Position → ℕ
way slot bands Idle = 0
way slot bands (Enter (Transmit p)) = 15
way slot bands (Enter SoftInterrupt) = 13
way slot bands (Check p) = 14
way slot bands (Put p holds) = if holds then 7 else 10
way slot bands (Try1 attempt) = 9 + 4 * bit (is_direct attempt)
way slot bands (Miss attempt) = 8 + 4 * bit (is_direct attempt)
way slot bands (Try2 attempt) = 7 + 4 * bit (is_direct attempt)
way slot bands (Recheck p) = 8
way slot bands (Gate p direct) = 2
way slot bands (Xmit p direct) = 1
way slot bands (StoreXoff queue hung direct) = 20
way slot bands Post = 19
way slot bands Deq = 6 + unless_ahead (is_held slot bands) first_look
way slot bands (Scan band second) = 3 + (2 - band) + unless_ahead (is_ahead band bands) (if second then second_look else first_look)
way slot bands Test = 24
way slot bands ClearMissed = 23
way slot bands ClearDraining = 22
way slot bands (BlockedClear b) = 22
way slot bands (BlockedLoad b) = 21
way slot bands (BlockedMiss b) = 20
way slot bands (BlockedDrain b) = 20
way slot bands Again = 19
way slot bands Quota = 19
way slot bands Unlock = 18
way slot bands (Tail inside) = 17
way slot bands (Sched inside) = 16
way slot bands Leave = 1
way slot bands Soft = 12
way slot bands (SoftClear deactivated) = 11
way slot bands Late = 10
way slot bands (Wake queue) = 17
way slot bands (Control holds) = 0

-- a raised seat has a soft interrupt before it, from its start on
abbrev pub interrupt_pays : ℕ
interrupt_pays = 14

abbrev pub seat_way : Option Packet → List (List Packet) → Seat → ℕ
seat_way slot bands s = way slot bands s.position + interrupt_pays * bit s.raised

-- THE NUMBER

-- a packet pays for what its holder may do after it was sent
abbrev pub packet_pays : ℕ
packet_pays = 20

abbrev pub measure : Machine → ℕ
measure m = packet_pays * packets m + sum_by (λ s. seat_way m.qdisc.slot m.qdisc.bands s) m.seats
