-- The invariant: what holds at every moment of the machine, so that no packet is left behind. `IsKept` has the sentences
-- that say so, and `IsInductive` those besides that make every move keep it.
use Rattle.std.specs.Prelude.{◌≡◌, ◌≢◌, ℕ, ◌<◌, Bool, true, false, ◌||◌, ◌⊎◌, length, sum_by, Contains, Some, None, is_some}
use Rattle.lq_model.specs.declared.machine.Packet.{Packet}
use Rattle.lq_model.specs.declared.machine.Blocked.{Blocked}
use Rattle.lq_model.specs.declared.machine.Blocked.TheVariants.{NoneTaken}
use Rattle.lq_model.specs.declared.machine.Phase.TheVariants.{Purged}
use Rattle.lq_model.specs.declared.machine.Position.TheVariants.{Xmit, Deq, BlockedDrain, Control}
use Rattle.lq_model.specs.Machine.{Machine, Purge, bit, is_queue_open, has_several_queues, is_closed, band_at, seat_at}
use Rattle.lq_model.specs.Steps.{queue_of_slot}
use Rattle.lq_model.specs.Control.{is_quiet}
use Rattle.lq_model.specs.Positions.{Holds, ClearBelow, IsClear, BitsClear, holds_lock, is_inside, marks, is_going, some_seat, looked_below, is_ending, is_second_scan, may_be_inside, own_packet, direct_packet, blocked, needs_slot, blocking_at, has_way_on, IsStuck}

-- THE SENTENCES

-- a free lock with MISSED set: SCHED or DEACTIVATED is set, or some seat will come
abbrev pub LockFreeMissed : Machine → Type 0
LockFreeMissed m = m.qdisc.locked ≡ false → m.qdisc.missed ≡ true → (m.qdisc.sched || m.qdisc.deactivated || some_seat is_going m) ≡ true

-- a free lock with neither bit set: nothing is exposed
abbrev pub LockFreeClear : Machine → Type 0
LockFreeClear m = m.qdisc.locked ≡ false → BitsClear m.qdisc → IsClear m

-- a free lock with DRAINING alone: nothing is exposed, unless there is a way on
abbrev pub LockFreeDraining : Machine → Type 0
LockFreeDraining m = m.qdisc.locked ≡ false → IsStuck m → IsClear m

-- the same where the holder is about to release the lock
abbrev pub EndingDraining : Machine → Type 0
EndingDraining m = (i : ℕ) → is_ending m.qdisc.purge (seat_at m i).position ≡ true → IsStuck m → IsClear m

-- where a holder is about to set DRAINING, MISSED is set or there is a way on
abbrev pub BlockedDraining : Machine → Type 0
BlockedDraining m = (i : ℕ) (b : Blocked) → (seat_at m i).position ≡ BlockedDrain b → (m.qdisc.missed || has_way_on m (blocking_at b m.qdisc)) ≡ true

-- what a holder has looked at, or goes past, is not exposed while neither bit is set
abbrev pub LookedClear : Machine → Type 0
LookedClear m = (i band : ℕ) → looked_below m.qdisc.purge (seat_at m i).position ≡ Some band → BitsClear m.qdisc → ClearBelow m band

-- the bands are looked at once more with DRAINING clear
abbrev pub SecondScan : Machine → Type 0
SecondScan m = (i : ℕ) → is_second_scan (seat_at m i).position ≡ true → m.qdisc.draining ≡ false

-- the requeue slot is empty where a packet in hand may need it, and where the bands are looked at
abbrev pub SlotFree : Machine → Type 0
SlotFree m = (i : ℕ) → needs_slot (seat_at m i).position ≡ true → m.qdisc.slot ≡ None

-- with nothing in hand the stopped queue is that of the packet in the requeue slot; with one queue there may be none
abbrev pub SlotWaits : Machine → Type 0
SlotWaits m =
    (i queue : ℕ) → blocked (seat_at m i).position ≡ Some (NoneTaken queue)
    → (queue ≡ queue_of_slot m.qdisc.slot) × (has_several_queues m.qdisc ≡ true → is_some m.qdisc.slot ≡ true)

-- the lock is 1 exactly where one seat stands as its holder; never more than one does
abbrev pub OneHolder : Machine → Type 0
OneHolder m = sum_by (λ s. bit (holds_lock s.position)) m.seats ≡ bit m.qdisc.locked

-- the calls inside are the seats between their enter and their leave
abbrev pub CallsInside : Machine → Type 0
CallsInside m = sum_by (λ s. bit (is_inside s.position)) m.seats ≡ m.qdisc.inside

-- SCHED is set exactly where one seat is raised, or in a soft interrupt that hasn't cleared it; never more than one is
abbrev pub OneScheduled : Machine → Type 0
OneScheduled m = sum_by marks m.seats ≡ bit m.qdisc.sched

-- once the calls inside were loaded as 0 under DEACTIVATED, each later call is on its way out
abbrev pub QuietInside : Machine → Type 0
QuietInside m = is_quiet m.qdisc.phase ≡ true → (i : ℕ) → may_be_inside (seat_at m i).position ≡ true

-- once the purge has ended, neither bit is set and nothing is held
abbrev pub PurgedHoldsNothing : Machine → Type 0
PurgedHoldsNothing m = m.qdisc.phase ≡ Purged → BitsClear m.qdisc × ((p : Packet) → Holds m p → ⊥)

pub record IsKept (m : Machine) : Type 0 where
  pub lock_free_missed : LockFreeMissed m
  pub lock_free_clear : LockFreeClear m
  pub lock_free_draining : LockFreeDraining m
  pub ending_draining : EndingDraining m
  pub blocked_draining : BlockedDraining m
  pub looked_clear : LookedClear m
  pub second_scan : SecondScan m
  pub slot_free : SlotFree m
  pub slot_waits : SlotWaits m
  pub one_holder : OneHolder m
  pub calls_inside : CallsInside m
  pub one_scheduled : OneScheduled m
  pub quiet_inside : QuietInside m
  pub purged_holds_nothing : PurgedHoldsNothing m

-- WHAT MAKES IT INDUCTIVE

-- of an owner one packet at a time is in a transmit
abbrev pub OwnersDiffer : Machine → Type 0
OwnersDiffer m =
    (i j : ℕ) (p r : Packet) → i ≢ j → own_packet (seat_at m i).position ≡ Some p → own_packet (seat_at m j).position ≡ Some r → p.owner ≢ r.owner

-- what a purge half done has left
pub record IsPurging (m : Machine) (u : Purge) : Type 0 where
  pub slot : m.qdisc.slot ≡ None
  pub bands : (k : ℕ) → k < u.band → (p : Packet) → Contains (band_at m.qdisc k) p → ⊥
  pub missed : u.missed ≡ true → m.qdisc.missed ≡ false
  pub draining : u.draining ≡ true → m.qdisc.draining ≡ false
  pub alone : (is_quiet m.qdisc.phase ≡ true) ⊎ ((i : ℕ) → i < length m.seats → (seat_at m i).position ≡ Control true)

-- a purge half done
abbrev pub Purging : Machine → Type 0
Purging m = (u : Purge) → m.qdisc.purge ≡ Some u → IsPurging m u

-- the device is called only for an open queue
abbrev pub DeviceOpen : Machine → Type 0
DeviceOpen m = (i : ℕ) (p : Packet) (direct : Bool) → (seat_at m i).position ≡ Xmit p direct → is_queue_open m.qdisc p.queue ≡ true

-- with several queues a dequeue begins at a stop word only where the requeue slot is full
abbrev pub DequeueWaits : Machine → Type 0
DequeueWaits m = (i : ℕ) → (seat_at m i).position ≡ Deq → has_several_queues m.qdisc ≡ true → is_some m.qdisc.slot ≡ true

-- no packet goes past the bands while one of the same owner is held
abbrev pub DirectAlone : Machine → Type 0
DirectAlone m = (i : ℕ) (p r : Packet) → direct_packet (seat_at m i).position ≡ Some p → Holds m r → r.owner ≢ p.owner

-- DEACTIVATED is set exactly where a deactivation is under way
abbrev pub Deactivation : Machine → Type 0
Deactivation m = m.qdisc.deactivated ≡ is_closed m.qdisc.phase

pub record IsInductive (m : Machine) : Type 0 where
  pub kept : IsKept m
  pub deactivation : Deactivation m
  pub purging : Purging m
  pub device_open : DeviceOpen m
  pub dequeue_waits : DequeueWaits m
  pub owners_differ : OwnersDiffer m
  pub direct_alone : DirectAlone m
