-- Where seats stand, what is held and exposed, and which ways on there are.
use Rattle.std.specs.Prelude.{◌≡◌, ℕ, ◌+◌, ◌<◌, Bool, true, false, ◌||◌, ◌&&◌, not, if◌then◌else◌, ◌⊎◌, Contains, Option, Some, None, is_none, is_some}
use Rattle.std.specs.List.{list_any}
use Rattle.lq_model.specs.declared.machine.Packet.{Packet}
use Rattle.lq_model.specs.declared.machine.Call.TheVariants.{Transmit, SoftInterrupt}
use Rattle.lq_model.specs.declared.machine.Attempt.TheVariants.{Queued, Direct}
use Rattle.lq_model.specs.declared.machine.Blocked.{Blocked}
use Rattle.lq_model.specs.declared.machine.Blocked.TheVariants.{InHand, NoneTaken}
use Rattle.lq_model.specs.declared.machine.Position.{Position}
use Rattle.lq_model.specs.declared.machine.Position.TheVariants.{Idle, Enter, Check, Put, Try1, Miss, Try2, Recheck, Gate, Xmit, StoreXoff, Post, Scan, Test, ClearMissed, ClearDraining, BlockedClear, BlockedLoad, BlockedMiss, BlockedDrain, Unlock, Tail, Sched, Leave, Soft, SoftClear, Late, Wake, Control}
use Rattle.lq_model.specs.declared.machine.Seat.{Seat}
use Rattle.lq_model.specs.Machine.{Qdisc, Machine, Purge, bit, is_queue_open, has_several_queues, band_at, seat_at}
use Rattle.lq_model.specs.Steps.{queue_of_slot}

-- HELD AND EXPOSED

-- in a band or in the requeue slot
abbrev pub Holds : Machine → Packet → Type 0
Holds m p = (m.qdisc.slot ≡ Some p) ⊎ ((k : ℕ) × ((k < 3) × Contains (band_at m.qdisc k) p))

-- the packet of a transmit that has put it and hasn't yet got the run lock or set MISSED
abbrev pub hidden_packet : Position → Option Packet
hidden_packet (Try1 (Queued p)) = Some p
hidden_packet (Miss (Queued p)) = Some p
hidden_packet _ = None

abbrev pub IsHidden : Machine → Packet → Type 0
IsHidden m p = (i : ℕ) × (hidden_packet (seat_at m i).position ≡ Some p)

-- it is held, and no transmit of its own is still sure to look for it
abbrev pub Exposes : Machine → Packet → Type 0
Exposes m p = (m.qdisc.slot ≡ Some p) ⊎ ((k : ℕ) × ((k < 3) × (Contains (band_at m.qdisc k) p × (IsHidden m p → ⊥))))

-- nothing is exposed in the requeue slot, or in a band below this one
pub record ClearBelow (m : Machine) (band : ℕ) : Type 0 where
  pub slot : m.qdisc.slot ≡ None
  pub bands : (k : ℕ) → k < band → (p : Packet) → Contains (band_at m.qdisc k) p → IsHidden m p

-- nothing is exposed
abbrev pub IsClear : Machine → Type 0
IsClear m = ClearBelow m 3

-- neither MISSED nor DRAINING is set
pub record BitsClear (q : Qdisc) : Type 0 where
  pub missed : q.missed ≡ false
  pub draining : q.draining ≡ false

-- WHERE SEATS STAND

-- from the step that gets the run lock to the step that releases it
abbrev pub holds_lock : Position → Bool
holds_lock Idle = false
holds_lock (Enter call) = false
holds_lock (Check p) = false
holds_lock (Put p holds) = holds
holds_lock (Try1 attempt) = false
holds_lock (Miss attempt) = false
holds_lock (Try2 attempt) = false
holds_lock (Tail inside) = false
holds_lock (Sched inside) = false
holds_lock Leave = false
holds_lock Soft = false
holds_lock (SoftClear deactivated) = false
holds_lock Late = false
holds_lock (Wake queue) = false
holds_lock (Control holds) = holds
holds_lock _ = true

-- between its enter and its leave
abbrev pub is_inside : Position → Bool
is_inside Idle = false
is_inside (Enter call) = false
is_inside (Tail inside) = inside
is_inside (Sched inside) = inside
is_inside (Wake queue) = false
is_inside (Control holds) = false
is_inside _ = true

-- in a soft interrupt that hasn't yet cleared SCHED
abbrev pub is_due : Position → Bool
is_due (Enter SoftInterrupt) = true
is_due Soft = true
is_due (SoftClear deactivated) = true
is_due _ = false

-- how often SCHED is set for a seat
abbrev pub marks : Seat → ℕ
marks s = bit s.raised + bit (is_due s.position)

-- it will try the run lock, or look at MISSED
abbrev pub is_going : Position → Bool
is_going (Try1 attempt) = true
is_going (Try2 attempt) = true
is_going Late = true
is_going (Tail inside) = true
is_going (Sched inside) = true
is_going _ = false

-- it will try the run lock, set MISSED or schedule
abbrev pub is_on_way : Position → Bool
is_on_way (Try1 attempt) = true
is_on_way (Miss attempt) = true
is_on_way Late = true
is_on_way (Sched inside) = true
is_on_way _ = false

abbrev pub some_seat : (Position → Bool) → Machine → Bool
some_seat test m = list_any (λ s. test s.position) m.seats

-- below which band a holder has found all empty, where neither bit was set meanwhile
abbrev pub looked_below : Option Purge → Position → Option ℕ
looked_below purge (Recheck p) = Some 3
looked_below purge (Gate p direct) = if direct then Some 3 else None
looked_below purge (Xmit p direct) = if direct then Some 3 else None
looked_below purge (StoreXoff queue hung direct) = if direct then Some 3 else None
looked_below purge Post = Some 3
looked_below purge (Scan band second) = Some band
looked_below purge Test = Some 3
looked_below purge Unlock = Some 3
looked_below purge (Control holds) = if holds && is_none purge then Some 3 else None
looked_below purge _ = None

-- it is about to release the run lock
abbrev pub is_ending : Option Purge → Position → Bool
is_ending purge Unlock = true
is_ending purge (Control holds) = holds && is_none purge
is_ending purge _ = false

abbrev pub is_second_scan : Position → Bool
is_second_scan (Scan band second) = second
is_second_scan _ = false

-- where a seat may stand once the calls inside were loaded as 0 under DEACTIVATED
abbrev pub may_be_inside : Position → Bool
may_be_inside (Check p) = true
may_be_inside Soft = true
may_be_inside (SoftClear deactivated) = deactivated
may_be_inside Late = true
may_be_inside Leave = true
may_be_inside position = not (is_inside position)

-- WHAT A SEAT HAS

-- the packet that a holder takes past the bands
abbrev pub direct_packet : Position → Option Packet
direct_packet (Gate p direct) = if direct then Some p else None
direct_packet (Xmit p direct) = if direct then Some p else None
direct_packet (BlockedClear (InHand p direct)) = if direct then Some p else None
direct_packet (BlockedLoad (InHand p direct)) = if direct then Some p else None
direct_packet (BlockedMiss (InHand p direct)) = if direct then Some p else None
direct_packet (BlockedDrain (InHand p direct)) = if direct then Some p else None
direct_packet _ = None

-- the packet of a transmit, as long as its seat remembers it
abbrev pub own_packet : Position → Option Packet
own_packet (Enter (Transmit p)) = Some p
own_packet (Check p) = Some p
own_packet (Put p holds) = Some p
own_packet (Try1 (Queued p)) = Some p
own_packet (Try1 (Direct p)) = Some p
own_packet (Miss (Queued p)) = Some p
own_packet (Miss (Direct p)) = Some p
own_packet (Try2 (Queued p)) = Some p
own_packet (Try2 (Direct p)) = Some p
own_packet (Recheck p) = Some p
own_packet position = direct_packet position

-- what a holder has found stopped
abbrev pub blocked : Position → Option Blocked
blocked (BlockedClear b) = Some b
blocked (BlockedLoad b) = Some b
blocked (BlockedMiss b) = Some b
blocked (BlockedDrain b) = Some b
blocked _ = None

abbrev pub is_in_hand : Option Blocked → Bool
is_in_hand (Some (InHand p direct)) = true
is_in_hand _ = false

abbrev pub in_hand_of : Blocked → Option Packet
in_hand_of (InHand p direct) = Some p
in_hand_of (NoneTaken queue) = None

-- the packet that a holder has in hand: from the step that takes it until it is sent or laid back
abbrev pub in_hand : Position → Option Packet
in_hand (Gate p direct) = Some p
in_hand (Xmit p direct) = Some p
in_hand (BlockedClear b) = in_hand_of b
in_hand (BlockedLoad b) = in_hand_of b
in_hand (BlockedMiss b) = in_hand_of b
in_hand (BlockedDrain b) = in_hand_of b
in_hand _ = None

-- a holder that has a packet in hand, or goes on from an empty requeue slot
abbrev pub needs_slot : Position → Bool
needs_slot (Gate p direct) = true
needs_slot (Xmit p direct) = true
needs_slot (Scan band second) = true
needs_slot Test = true
needs_slot ClearMissed = true
needs_slot ClearDraining = true
needs_slot position = is_in_hand (blocked position)

-- its device hung in this call, and the stop words aren't all stored yet
abbrev pub is_hanging : Position → Bool
is_hanging (StoreXoff queue hung direct) = hung
is_hanging _ = false

-- A WAY ON

-- the queue that keeps the next packet from the device
abbrev pub blocking : Qdisc → Option ℕ
blocking q = if is_some q.slot then Some (queue_of_slot q.slot) else if has_several_queues q then None else Some 0

abbrev pub blocking_at : Blocked → Qdisc → Option ℕ
blocking_at (InHand p direct) q = Some p.queue
blocking_at (NoneTaken queue) q = blocking q

abbrev pub is_stopped : Qdisc → Option ℕ → Bool
is_stopped q (Some queue) = not (is_queue_open q queue)
is_stopped q None = false

-- DEACTIVATED, SCHED or a stop word is set, or a seat will try the run lock, set MISSED or schedule
abbrev pub has_way_on : Machine → Option ℕ → Bool
has_way_on m queue = m.qdisc.deactivated || m.qdisc.sched || is_stopped m.qdisc queue || some_seat is_on_way m

-- only DRAINING is set, and there is no way on
pub record IsStuck (m : Machine) : Type 0 where
  pub missed : m.qdisc.missed ≡ false
  pub draining : m.qdisc.draining ≡ true
  pub no_way : has_way_on m (blocking m.qdisc) ≡ false
