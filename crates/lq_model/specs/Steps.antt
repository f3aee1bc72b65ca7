-- The steps of a seat: what one atomic step does at each position, with each answer.
use Rattle.std.specs.Prelude.{◌≡◌, ℕ, ◌+◌, ◌-◌, Bool, true, false, ◌&&◌, not, nat_lt, nat_le, ◌==◌, if◌then◌else◌, List, [], ◌∷◌, ◌++◌, length, slice_index, slice_set, Option, Some, None, is_none}
use Rattle.lq_model.specs.declared.machine.Packet.{Packet}
use Rattle.lq_model.specs.declared.machine.Call.{Call}
use Rattle.lq_model.specs.declared.machine.Call.TheVariants.{Transmit, SoftInterrupt}
use Rattle.lq_model.specs.declared.machine.Attempt.{Attempt}
use Rattle.lq_model.specs.declared.machine.Attempt.TheVariants.{Queued, Direct, Interrupt}
use Rattle.lq_model.specs.declared.machine.Blocked.{Blocked}
use Rattle.lq_model.specs.declared.machine.Blocked.TheVariants.{InHand, NoneTaken}
use Rattle.lq_model.specs.declared.machine.Beginning.{Beginning}
use Rattle.lq_model.specs.declared.machine.Beginning.TheVariants.{Transmits, Interrupts, Wakes, Controls}
use Rattle.lq_model.specs.declared.machine.Answer.{Answer}
use Rattle.lq_model.specs.declared.machine.Answer.TheVariants.{Plain, FullSlot, Stop, Hang, Busy}
use Rattle.lq_model.specs.declared.machine.Position.{Position}
use Rattle.lq_model.specs.declared.machine.Position.TheVariants.{Idle, Enter, Check, Put, Try1, Miss, Try2, Recheck, Gate, Xmit, StoreXoff, Post, Deq, Scan, Test, ClearMissed, ClearDraining, BlockedClear, BlockedLoad, BlockedMiss, BlockedDrain, Again, Quota, Unlock, Tail, Sched, Leave, Soft, SoftClear, Late, Wake, Control}
use Rattle.lq_model.specs.declared.machine.Seat.{Seat}
use Rattle.lq_model.specs.Band.{batch}
use Rattle.lq_model.specs.Machine.{Qdisc, Machine, seat_at, is_non_empty, is_queue_open, has_several_queues, band_at}
use Rattle.lq_model.specs.declared.state.TheConstants.{QUOTA}

-- what a step leaves of the shared words and of the seat that made it; it touches no other seat
pub record After : Type 0 where
  pub qdisc : Qdisc
  pub seat : Seat

abbrev pub goes_to : Qdisc → Seat → Position → After
goes_to q s position = record { qdisc = q; seat = record s { position = position } }

-- a count stands still at the last value of its type
abbrev pub one_more : ℕ → ℕ
one_more n = if nat_lt n 18446744073709551615 then n + 1 else n

-- RUN BEGIN

-- where a dequeue begins: with one queue by its stop word, with several by the requeue slot
abbrev pub dequeue_begins : Qdisc → Position
dequeue_begins q = if has_several_queues q && is_none q.slot then Scan 0 false else Deq

-- a run begins, with nothing sent
abbrev pub run_begins : Qdisc → Seat → After
run_begins q s = record { qdisc = q; seat = record s { position = dequeue_begins q; run = 0 } }

abbrev pub lock_got : Attempt → Qdisc → Seat → After
lock_got (Direct p) q s = goes_to q s (Recheck p)
lock_got _ q s = run_begins q s

-- the answer is no: a packet that would go past the bands is put into its band
abbrev pub gives_up : Attempt → Position
gives_up (Direct p) = Put p false
gives_up _ = Leave

abbrev pub try_lock : Attempt → Position → Qdisc → Seat → After
try_lock attempt otherwise q s = if q.locked then goes_to q s otherwise else lock_got attempt (record q { locked = true }) s

abbrev pub miss : Attempt → Qdisc → Seat → After
miss attempt q s = if q.missed then goes_to q s (gives_up attempt) else goes_to (record q { missed = true }) s (Try2 attempt)

-- DEQUEUE

-- the queue whose stop word a dequeue loads first: that of the packet in the requeue slot, or the only one
abbrev pub queue_of_slot : Option Packet → ℕ
queue_of_slot (Some p) = p.queue
queue_of_slot None = 0

abbrev pub slot_taken : Option Packet → Qdisc → Seat → After
slot_taken (Some p) q s = goes_to (record q { slot = None }) s (Gate p false)
slot_taken None q s = goes_to q s (Scan 0 false)

abbrev pub deq : Qdisc → Seat → After
deq q s = if is_queue_open q (queue_of_slot q.slot) then slot_taken q.slot q s else goes_to q s (BlockedClear (NoneTaken (queue_of_slot q.slot)))

-- after the last band: the first time the state is looked at, the second time the run ends
abbrev pub after_band : ℕ → Bool → Position
after_band band second = if nat_lt band 2 then Scan (band + 1) second else if second then Unlock else Test

abbrev pub scan : List Packet → ℕ → Bool → Qdisc → Seat → After
scan [] band second q s = goes_to q s (after_band band second)
scan (p ∷ rest) band second q s = goes_to (record q { bands = slice_set q.bands band rest }) s (Gate p false)

-- MAYBE CLEAR MISSED

abbrev pub queue_of_blocked : Blocked → ℕ
queue_of_blocked (InHand p direct) = p.queue
queue_of_blocked (NoneTaken queue) = queue

-- a packet in hand goes to the requeue slot
abbrev pub requeues : Blocked → Qdisc → Seat → After
requeues (InHand p direct) q s = goes_to (record q { slot = Some p }) s Again
requeues (NoneTaken queue) q s = goes_to q s Unlock

-- DIRECT TRANSMIT AND RUN

-- how many packets the run has sent with one more, at most its quota
abbrev pub run_counted : ℕ → ℕ
run_counted n = if nat_lt n (QUOTA - 1) then n + 1 else QUOTA

abbrev pub accepted : Qdisc → Qdisc
accepted q = record q { sent = one_more q.sent }

abbrev pub counted : Seat → Seat
counted s = record s { run = run_counted s.run }

abbrev pub after_sent : Bool → Qdisc → Seat → Position
after_sent direct q s = if direct then Post else if s.run == QUOTA then Quota else dequeue_begins q

abbrev pub xmit : Answer → Packet → Bool → Qdisc → Seat → After
xmit Plain p direct q s = goes_to (accepted q) (counted s) (after_sent direct q (counted s))
xmit FullSlot p direct q s = goes_to q s (Xmit p direct)
xmit Stop p direct q s = goes_to (accepted q) (counted s) (StoreXoff p.queue false direct)
xmit Hang p direct q s = goes_to (accepted q) (counted s) (StoreXoff 0 true direct)
xmit Busy p direct q s = goes_to (record q { slot = Some p }) s Again

abbrev pub store_xoff : ℕ → Bool → Bool → Qdisc → Seat → After
store_xoff queue hung direct q s =
    goes_to (record q { xoff = slice_set q.xoff queue (if hung then 2 else 1) }) s
    (if hung && nat_lt (queue + 1) (length q.xoff) then StoreXoff (queue + 1) hung direct else after_sent direct q s)

-- TRANSMIT

abbrev pub check : Packet → Qdisc → Position
check p q = if q.deactivated then Leave else if q.bypass && not (is_non_empty q) then Try1 (Direct p) else Put p false

abbrev pub joined_band : Packet → Qdisc → Qdisc
joined_band p q = record q { bands = slice_set q.bands p.band (band_at q p.band ++ p ∷ []) }

abbrev pub put_answered : Answer → Packet → Qdisc → Qdisc
put_answered Plain p q = joined_band p q
put_answered FullSlot p q = record q { full = one_more q.full }
put_answered _ p q = q

abbrev pub after_put : Bool → Packet → Qdisc → Seat → After
after_put holds p q s = if holds then run_begins q s else goes_to q s (Try1 (Queued p))

-- RUN END, SCHEDULE AND SOFT INTERRUPT

abbrev pub call_ends : Bool → Position
call_ends inside = if inside then Leave else Idle

abbrev pub schedule : Bool → Qdisc → Seat → After
schedule inside q s =
    if q.sched then goes_to q s (call_ends inside)
    else record { qdisc = record q { sched = true }; seat = record s { position = call_ends inside; raised = true } }

abbrev pub enter : Call → Position
enter (Transmit p) = Check p
enter SoftInterrupt = Soft

-- STOP AND WAKE

abbrev pub wake : ℕ → Qdisc → Seat → After
wake queue q s = if slice_index q.xoff queue == 1 then goes_to (record q { xoff = slice_set q.xoff queue 0 }) s (Sched false) else goes_to q s Idle

-- THE STEP AT EACH POSITION

abbrev pub step_at : Position → Answer → Qdisc → Seat → After
step_at Idle answer q s = goes_to q s Idle
step_at (Enter call) answer q s = goes_to (record q { inside = q.inside + 1 }) s (enter call)
step_at (Check p) answer q s = goes_to q s (check p q)
step_at (Put p holds) answer q s = after_put holds p (put_answered answer p q) s
step_at (Try1 attempt) answer q s = try_lock attempt (Miss attempt) q s
step_at (Miss attempt) answer q s = miss attempt q s
step_at (Try2 attempt) answer q s = try_lock attempt (gives_up attempt) q s
step_at (Recheck p) answer q s = goes_to q s (if is_non_empty q then Put p true else Gate p true)
step_at (Gate p direct) answer q s = goes_to q s (if is_queue_open q p.queue then Xmit p direct else BlockedClear (InHand p direct))
step_at (Xmit p direct) answer q s = xmit answer p direct q s
step_at (StoreXoff queue hung direct) answer q s = store_xoff queue hung direct q s
step_at Post answer q s = if is_non_empty q then run_begins q s else goes_to q s Unlock
step_at Deq answer q s = deq q s
step_at (Scan band second) answer q s = scan (band_at q band) band second q s
step_at Test answer q s = goes_to q s (if is_non_empty q then ClearMissed else Unlock)
step_at ClearMissed answer q s = goes_to (record q { missed = false }) s ClearDraining
step_at ClearDraining answer q s = goes_to (record q { draining = false }) s (Scan 0 true)
step_at (BlockedClear b) answer q s = goes_to (record q { missed = false }) s (BlockedLoad b)
step_at (BlockedLoad b) answer q s = goes_to q s (if is_queue_open q (queue_of_blocked b) then BlockedMiss b else BlockedDrain b)
step_at (BlockedMiss b) answer q s = requeues b (record q { missed = true }) s
step_at (BlockedDrain b) answer q s = requeues b (record q { draining = true }) s
step_at Again answer q s = goes_to (record q { missed = true }) s Unlock
step_at Quota answer q s = goes_to (record q { missed = true }) s Unlock
step_at Unlock answer q s = goes_to (record q { locked = false }) s (Tail true)
step_at (Tail inside) answer q s = goes_to q s (if q.missed then Sched inside else call_ends inside)
step_at (Sched inside) answer q s = schedule inside q s
step_at Leave answer q s = goes_to (record q { inside = q.inside - 1 }) s Idle
step_at Soft answer q s = goes_to q s (SoftClear q.deactivated)
step_at (SoftClear deactivated) answer q s = goes_to (record q { sched = false }) s (if deactivated then Late else Try1 Interrupt)
step_at Late answer q s = goes_to q s (if q.deactivated then Leave else Try1 Interrupt)
step_at (Wake queue) answer q s = wake queue q s
step_at (Control holds) answer q s = goes_to q s (Control holds)

-- a seat that is idle or in a call of control does no step of its own
abbrev pub may_step : Position → Bool
may_step Idle = false
may_step (Control holds) = false
may_step _ = true

abbrev pub has_room : Position → Qdisc → Bool
has_room (Put p holds) q = nat_lt (length (band_at q p.band)) q.len
has_room _ q = true

abbrev pub may_be_full : Position → Qdisc → Bool
may_be_full (Put p holds) q = nat_le (q.len - batch q.len) (length (band_at q p.band))
may_be_full _ q = false

abbrev pub is_at_device : Position → Bool
is_at_device (Xmit p direct) = true
is_at_device _ = false

abbrev pub may_answer : Position → Answer → Qdisc → Bool
may_answer position Plain q = may_step position && has_room position q
may_answer position FullSlot q = may_be_full position q
may_answer position _ q = is_at_device position

-- STEPS OF THE MACHINE

abbrev pub with_seat : Machine → ℕ → After → Machine
with_seat m i a = record { qdisc = a.qdisc; seats = slice_set m.seats i a.seat }

-- what the step of seat i leaves, where it can do one with this answer
abbrev pub step_of : Machine → ℕ → Answer → Option Machine
step_of m i answer =
    if nat_lt i (length m.seats) && may_answer (seat_at m i).position answer m.qdisc
    then Some (with_seat m i (step_at (seat_at m i).position answer m.qdisc (seat_at m i))) else None

abbrev pub Steps : Machine → ℕ → Answer → Machine → Type 0
Steps m i answer m' = step_of m i answer ≡ Some m'

-- STARTS

abbrev pub is_idle : Position → Bool
is_idle Idle = true
is_idle _ = false

abbrev pub may_begin : Beginning → Seat → Bool
may_begin Interrupts s = is_idle s.position && s.raised
may_begin _ s = is_idle s.position

-- the raised mark is taken down as the soft interrupt begins
abbrev pub begun : Beginning → Seat → Seat
begun (Transmits p) s = record s { position = Enter (Transmit p) }
begun Interrupts s = record s { position = Enter SoftInterrupt; raised = false }
begun (Wakes queue) s = record s { position = Wake queue }
begun Controls s = record s { position = Control false }

-- what the start of a call on seat i leaves
abbrev pub call_begun : Machine → ℕ → Beginning → Option Machine
call_begun m i b =
    if nat_lt i (length m.seats) && may_begin b (seat_at m i)
    then Some (with_seat m i (record { qdisc = m.qdisc; seat = begun b (seat_at m i) })) else None

abbrev pub Begins : Machine → ℕ → Beginning → Machine → Type 0
Begins m i b m' = call_begun m i b ≡ Some m'
