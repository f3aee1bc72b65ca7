-- Each step, each start and each step of control has one of the outcomes.
use Rattle.std.proofs.Common.{◌≡◌, ℕ, ◌+◌, ◌<◌, Bool, true, false, List, [], ◌∷◌, Option, Some, None, length, refl, sym, subst}
use borrow.Author.Tests.{ltb-true}
use Rattle.std.specs.Prelude.{if◌then◌else◌, ◌||◌, ◌&&◌, not, nat_lt, ◌==◌, slice_set, is_none}
use Rattle.lq_model.specs.declared.machine.Packet.{Packet}
use Rattle.lq_model.specs.declared.machine.Call.TheVariants.{Transmit, SoftInterrupt}
use Rattle.lq_model.specs.declared.machine.Answer.{Answer}
use Rattle.lq_model.specs.declared.machine.Answer.TheVariants.{Plain, FullSlot, Stop, Hang, Busy}
use Rattle.lq_model.specs.declared.machine.Attempt.{Attempt}
use Rattle.lq_model.specs.declared.machine.Attempt.TheVariants.{Queued, Direct, Interrupt}
use Rattle.lq_model.specs.declared.machine.Blocked.TheVariants.{InHand, NoneTaken}
use Rattle.lq_model.specs.declared.machine.Beginning.{Beginning}
use Rattle.lq_model.specs.declared.machine.Beginning.TheVariants.{Transmits, Interrupts, Wakes, Controls}
use Rattle.lq_model.specs.declared.machine.Position.{Position}
use Rattle.lq_model.specs.declared.machine.Position.TheVariants.{Idle, Enter, Check, Put, Try1, Miss, Try2, Recheck, Gate, Xmit, StoreXoff, Post, Deq, Scan, Test, ClearMissed, ClearDraining, BlockedClear, BlockedLoad, BlockedMiss, BlockedDrain, Again, Quota, Unlock, Tail, Sched, Leave, Soft, SoftClear, Late, Wake, Control}
use Rattle.lq_model.specs.declared.machine.Seat.{Seat}
use Rattle.lq_model.specs.declared.machine.ControlStep.{ControlStep}
use Rattle.lq_model.specs.declared.machine.ControlStep.TheVariants.{Return, GetLock, RunEnd, Release, SetDeactivated, ClearDeactivated, LoadInside, PurgeSlot, PurgeBand, PurgeMissed, PurgeDraining, Resize, StoreOpen, OpenQueue}
use Rattle.lq_model.specs.declared.state.TheConstants.{QUOTA}
use Rattle.lq_model.specs.Control.{control_at, may_control, is_control, holds_as_control, is_sole, purge_band, purge_missed, purge_draining, looks_at_bands, is_after_bands, band_purged}
use Rattle.lq_model.specs.Quiet.{IsFree, Moves}
use Rattle.lq_model.specs.Quiet.Moves.{steps, begins, controls}
use Rattle.lq_model.specs.Machine.{Purge, Qdisc, Machine, seat_at, is_non_empty, is_queue_open, has_several_queues, band_at}
use Rattle.lq_model.specs.Steps.{is_idle, may_begin, begun, with_seat, After, goes_to, step_at, may_answer, check, dequeue_begins, after_sent, call_ends, gives_up, queue_of_slot, queue_of_blocked, accepted, slot_taken, scan, counted}
use Rattle.lq_run_laws.proofs.Local as local
use Rattle.lq_run_laws.proofs.Local.{Local, Dequeues, Sends, Puts}

-- a choice of two values, with what it was made by
pub if-cases : {A : Type 0} (P : A → Type 0) (b : Bool) (x y : A) → (b ≡ true → P x) → (b ≡ false → P y) → P (if b then x else y)
if-cases P true x y f g = f refl
if-cases P false x y f g = g refl

pub or-false : (a b : Bool) → (a || b) ≡ false → (a ≡ false) × (b ≡ false)
or-false true b e = cc
or-false false b e = (refl, e)

pub and-true : (a b : Bool) → (a && b) ≡ true → (a ≡ true) × (b ≡ true)
and-true true b e = (refl, e)
and-true false b e = cc

pub none-is : {A : Type 0} (o : Option A) → is_none o ≡ true → o ≡ None
none-is (Some x) e = cc
none-is None e = refl

pub dequeues : (q : Qdisc) → Dequeues q (dequeue_begins q)
dequeues q =
    if-cases (Dequeues q) (has_several_queues q && is_none q.slot) _ _
    (λ e. local.at_bands (none-is q.slot (and-true _ _ e).1))
    (λ e. local.at_stop_word (λ shared. first-true (has_several_queues q) (is_none q.slot) shared e))
  where
    first-true : (a b : Bool) → a ≡ true → (a && b) ≡ false → b ≡ false
    first-true true b _ e = e
    first-true false b h e = cc

pub sends : (q : Qdisc) (s : Seat) (direct : Bool) → Sends q direct (after_sent direct q s)
sends q s true = local.sent_directly
sends q s false = if-cases (Sends q false) (s.run == QUOTA) _ _ (λ _. local.sent_quota) (λ _. local.sent_on (dequeue_begins q) (dequeues q))

abbrev Leads : Bool → (Packet → Type 0) → Position → Qdisc → Seat → After → Type 0
Leads sole free position q s after = Local sole free q s position after

-- the outcomes of the choices inside a step
put-free : (sole : Bool) (free : Packet → Type 0) (q : Qdisc) (s : Seat) (p : Packet) (after : Qdisc) → Puts p q after
    → Leads sole free (Put p false) q s (goes_to after s (Try1 (Queued p)))
put-free sole free q s p _ local.put_joins = local.put_join p
put-free sole free q s p _ local.put_refused = local.put_full p

put-holding : (sole : Bool) (free : Packet → Type 0) (q : Qdisc) (s : Seat) (p : Packet) (after : Qdisc) (d : Position) → Puts p q after → Dequeues q d
    → Leads sole free (Put p true) q s (record { qdisc = after; seat = record s { position = d; run = 0 } })
put-holding sole free q s p _ _ local.put_joins (local.at_stop_word h) = local.put_join_word p 0 h
put-holding sole free q s p _ _ local.put_joins (local.at_bands h) = local.put_join_bands p 0 h
put-holding sole free q s p _ _ local.put_refused (local.at_stop_word h) = local.put_full_word p 0 h
put-holding sole free q s p _ _ local.put_refused (local.at_bands h) = local.put_full_bands p 0 h

try1-queued : (sole : Bool) (free : Packet → Type 0) (q : Qdisc) (s : Seat) (p : Packet) (d : Position) → q.locked ≡ false → Dequeues q d
    → Leads sole free (Try1 (Queued p)) q s (record { qdisc = record q { locked = true }; seat = record s { position = d; run = 0 } })
try1-queued sole free q s p _ e (local.at_stop_word h) = local.try1_queued_word p 0 e h
try1-queued sole free q s p _ e (local.at_bands h) = local.try1_queued_bands p 0 e h

try1-interrupt : (sole : Bool) (free : Packet → Type 0) (q : Qdisc) (s : Seat) (d : Position) → q.locked ≡ false → Dequeues q d
    → Leads sole free (Try1 Interrupt) q s (record { qdisc = record q { locked = true }; seat = record s { position = d; run = 0 } })
try1-interrupt sole free q s _ e (local.at_stop_word h) = local.try1_interrupt_word 0 e h
try1-interrupt sole free q s _ e (local.at_bands h) = local.try1_interrupt_bands 0 e h

try2-queued : (sole : Bool) (free : Packet → Type 0) (q : Qdisc) (s : Seat) (p : Packet) (d : Position) → q.locked ≡ false → Dequeues q d
    → Leads sole free (Try2 (Queued p)) q s (record { qdisc = record q { locked = true }; seat = record s { position = d; run = 0 } })
try2-queued sole free q s p _ e (local.at_stop_word h) = local.try2_queued_word p 0 e h
try2-queued sole free q s p _ e (local.at_bands h) = local.try2_queued_bands p 0 e h

try2-interrupt : (sole : Bool) (free : Packet → Type 0) (q : Qdisc) (s : Seat) (d : Position) → q.locked ≡ false → Dequeues q d
    → Leads sole free (Try2 Interrupt) q s (record { qdisc = record q { locked = true }; seat = record s { position = d; run = 0 } })
try2-interrupt sole free q s _ e (local.at_stop_word h) = local.try2_interrupt_word 0 e h
try2-interrupt sole free q s _ e (local.at_bands h) = local.try2_interrupt_bands 0 e h

miss-set : (sole : Bool) (free : Packet → Type 0) (q : Qdisc) (s : Seat) (attempt : Attempt) → q.missed ≡ true
    → Leads sole free (Miss attempt) q s (goes_to q s (gives_up attempt))
miss-set sole free q s (Direct p) e = local.miss_set_direct p e
miss-set sole free q s (Queued p) e = local.miss_set_queued p e
miss-set sole free q s Interrupt e = local.miss_set_interrupt e

try2-held : (sole : Bool) (free : Packet → Type 0) (q : Qdisc) (s : Seat) (attempt : Attempt) → q.locked ≡ true
    → Leads sole free (Try2 attempt) q s (goes_to q s (gives_up attempt))
try2-held sole free q s (Direct p) e = local.try2_held_direct p e
try2-held sole free q s (Queued p) e = local.try2_held_queued p e
try2-held sole free q s Interrupt e = local.try2_held_interrupt e

xmit-sent : (sole : Bool) (free : Packet → Type 0) (q : Qdisc) (s : Seat) (p : Packet) (direct : Bool) (d : Position) → Sends q direct d
    → Leads sole free (Xmit p direct) q s (goes_to (accepted q) (counted s) d)
xmit-sent sole free q s p _ _ local.sent_directly = local.xmit_sent_direct p
xmit-sent sole free q s p _ _ local.sent_quota = local.xmit_sent_quota p
xmit-sent sole free q s p _ _ (local.sent_on _ (local.at_stop_word h)) = local.xmit_sent_word p h
xmit-sent sole free q s p _ _ (local.sent_on _ (local.at_bands h)) = local.xmit_sent_bands p h

stop-last : (sole : Bool) (free : Packet → Type 0) (q : Qdisc) (s : Seat) (queue : ℕ) (hung direct : Bool) (v : ℕ) (d : Position) → Sends q direct d
    → Leads sole free (StoreXoff queue hung direct) q s (goes_to (record q { xoff = slice_set q.xoff queue v }) s d)
stop-last sole free q s queue hung _ v _ local.sent_directly = local.stop_last_direct queue hung v
stop-last sole free q s queue hung _ v _ local.sent_quota = local.stop_last_quota queue hung v
stop-last sole free q s queue hung _ v _ (local.sent_on _ (local.at_stop_word h)) = local.stop_last_word queue hung v h
stop-last sole free q s queue hung _ v _ (local.sent_on _ (local.at_bands h)) = local.stop_last_bands queue hung v h

post-goes-on : (sole : Bool) (free : Packet → Type 0) (q : Qdisc) (s : Seat) (d : Position) → Dequeues q d
    → Leads sole free Post q s (record { qdisc = q; seat = record s { position = d; run = 0 } })
post-goes-on sole free q s _ (local.at_stop_word h) = local.post_word 0 h
post-goes-on sole free q s _ (local.at_bands h) = local.post_bands 0 h

tail-clear : (sole : Bool) (free : Packet → Type 0) (q : Qdisc) (s : Seat) (inside : Bool) → q.missed ≡ false
    → Leads sole free (Tail inside) q s (goes_to q s (call_ends inside))
tail-clear sole free q s true e = local.tail_inside e
tail-clear sole free q s false e = local.tail_outside e

sched-set : (sole : Bool) (free : Packet → Type 0) (q : Qdisc) (s : Seat) (inside : Bool) → q.sched ≡ true
    → Leads sole free (Sched inside) q s (goes_to q s (call_ends inside))
sched-set sole free q s true e = local.sched_set_inside e
sched-set sole free q s false e = local.sched_set_outside e

sched-sets : (sole : Bool) (free : Packet → Type 0) (q : Qdisc) (s : Seat) (inside : Bool) → q.sched ≡ false
    → Leads sole free (Sched inside) q s (record { qdisc = record q { sched = true }; seat = record s { position = call_ends inside; raised = true } })
sched-sets sole free q s true e = local.sched_sets_inside e
sched-sets sole free q s false e = local.sched_sets_outside e

check-leads : (sole : Bool) (free : Packet → Type 0) (p : Packet) (q : Qdisc) (s : Seat) → Leads sole free (Check p) q s (goes_to q s (check p q))
check-leads sole free p q s =
    if-cases (λ d. Leads sole free (Check p) q s (goes_to q s d)) q.deactivated _ _
    (λ e. local.check_refused p e)
    (λ e. if-cases (λ d. Leads sole free (Check p) q s (goes_to q s d)) (q.bypass && not (is_non_empty q)) _ _
    (λ _. local.check_direct p e) (λ _. local.check_put p e))

put-leads : (sole : Bool) (free : Packet → Type 0) (p : Packet) (holds : Bool) (answer : Answer) (q : Qdisc) (s : Seat)
    → may_answer (Put p holds) answer q ≡ true → Leads sole free (Put p holds) q s (step_at (Put p holds) answer q s)
put-leads sole free p true Plain q s _ = put-holding sole free q s p _ _ local.put_joins (dequeues q)
put-leads sole free p true FullSlot q s _ = put-holding sole free q s p _ _ local.put_refused (dequeues q)
put-leads sole free p false Plain q s _ = put-free sole free q s p _ local.put_joins
put-leads sole free p false FullSlot q s _ = put-free sole free q s p _ local.put_refused
put-leads sole free p holds Stop q s e = cc
put-leads sole free p holds Hang q s e = cc
put-leads sole free p holds Busy q s e = cc

try1-leads : (sole : Bool) (free : Packet → Type 0) (attempt : Attempt) (answer : Answer) (q : Qdisc) (s : Seat)
    → Leads sole free (Try1 attempt) q s (step_at (Try1 attempt) answer q s)
try1-leads sole free (Direct p) answer q s =
    if-cases (Leads sole free (Try1 (Direct p)) q s) q.locked _ _ (λ e. local.try1_held _ e) (λ e. local.try1_direct p e)
try1-leads sole free (Queued p) answer q s =
    if-cases (Leads sole free (Try1 (Queued p)) q s) q.locked _ _ (λ e. local.try1_held _ e) (λ e. try1-queued sole free q s p _ e (dequeues q))
try1-leads sole free Interrupt answer q s =
    if-cases (Leads sole free (Try1 Interrupt) q s) q.locked _ _ (λ e. local.try1_held _ e) (λ e. try1-interrupt sole free q s _ e (dequeues q))

try2-leads : (sole : Bool) (free : Packet → Type 0) (attempt : Attempt) (answer : Answer) (q : Qdisc) (s : Seat)
    → Leads sole free (Try2 attempt) q s (step_at (Try2 attempt) answer q s)
try2-leads sole free (Direct p) answer q s =
    if-cases (Leads sole free (Try2 (Direct p)) q s) q.locked _ _ (λ e. try2-held sole free q s _ e) (λ e. local.try2_direct p e)
try2-leads sole free (Queued p) answer q s =
    if-cases (Leads sole free (Try2 (Queued p)) q s) q.locked _ _ (λ e. try2-held sole free q s _ e) (λ e. try2-queued sole free q s p _ e (dequeues q))
try2-leads sole free Interrupt answer q s =
    if-cases (Leads sole free (Try2 Interrupt) q s) q.locked _ _ (λ e. try2-held sole free q s _ e) (λ e. try2-interrupt sole free q s _ e (dequeues q))

slot-leads : (sole : Bool) (free : Packet → Type 0) (slot : Option Packet) (q : Qdisc) (s : Seat) → q.slot ≡ slot → Leads sole free Deq q s (slot_taken slot q s)
slot-leads sole free (Some p) q s e = local.deq_slot p
slot-leads sole free None q s e = local.deq_bands e

scan-leads : (sole : Bool) (free : Packet → Type 0) (items : List Packet) (band : ℕ) (second : Bool) (q : Qdisc) (s : Seat)
    → band_at q band ≡ items → Leads sole free (Scan band second) q s (scan items band second q s)
scan-leads sole free (p ∷ rest) band second q s e = local.scan_takes band second p rest e
scan-leads sole free [] band true q s e =
    if-cases (λ d. Leads sole free (Scan band true) q s (goes_to q s d)) (nat_lt band 2) _ _ (λ _. local.scan_next band true e) (λ last. local.scan_ends band e last)
scan-leads sole free [] band false q s e =
    if-cases (λ d. Leads sole free (Scan band false) q s (goes_to q s d)) (nat_lt band 2) _ _ (λ _. local.scan_next band false e) (λ last. local.scan_tests band e last)

xmit-leads : (sole : Bool) (free : Packet → Type 0) (p : Packet) (direct : Bool) (answer : Answer) (q : Qdisc) (s : Seat)
    → may_answer (Xmit p direct) answer q ≡ true → Leads sole free (Xmit p direct) q s (step_at (Xmit p direct) answer q s)
xmit-leads sole free p direct Plain q s _ = xmit-sent sole free q s p direct _ (sends q (counted s) direct)
xmit-leads sole free p direct FullSlot q s e = cc
xmit-leads sole free p direct Stop q s _ = local.xmit_stops p direct _ _
xmit-leads sole free p direct Hang q s _ = local.xmit_stops p direct _ _
xmit-leads sole free p direct Busy q s _ = local.xmit_busy p direct

-- the choices on the two bits
non-empty-leads : {A : Type 0} (P : A → Type 0) (q : Qdisc) (x y : A) → P x → (q.missed ≡ false → q.draining ≡ false → P y) → P (if is_non_empty q then x else y)
non-empty-leads P q x y f g = if-cases P (is_non_empty q) x y (λ _. f) (λ e. g (or-false _ _ e).0 (or-false _ _ e).1)

idle-waits : (answer : Answer) (q : Qdisc) → may_answer Idle answer q ≡ true → ⊥
idle-waits Plain q e = cc
idle-waits FullSlot q e = cc
idle-waits Stop q e = cc
idle-waits Hang q e = cc
idle-waits Busy q e = cc

control-waits : (holds : Bool) (answer : Answer) (q : Qdisc) → may_answer (Control holds) answer q ≡ true → ⊥
control-waits holds Plain q e = cc
control-waits holds FullSlot q e = cc
control-waits holds Stop q e = cc
control-waits holds Hang q e = cc
control-waits holds Busy q e = cc

pub step-leads : (sole : Bool) (free : Packet → Type 0) (position : Position) (answer : Answer) (q : Qdisc) (s : Seat)
    → may_answer position answer q ≡ true → Local sole free q s position (step_at position answer q s)
step-leads sole free Idle answer q s e = absurd (idle-waits answer q e)
step-leads sole free (Control holds) answer q s e = absurd (control-waits holds answer q e)
step-leads sole free (Enter (Transmit p)) answer q s _ = local.enter_transmit p
step-leads sole free (Enter SoftInterrupt) answer q s _ = local.enter_interrupt
step-leads sole free (Check p) answer q s _ = check-leads sole free p q s
step-leads sole free (Put p holds) answer q s e = put-leads sole free p holds answer q s e
step-leads sole free (Try1 attempt) answer q s _ = try1-leads sole free attempt answer q s
step-leads sole free (Miss attempt) answer q s _ =
    if-cases (Leads sole free (Miss attempt) q s) q.missed _ _ (λ e. miss-set sole free q s attempt e) (λ e. local.miss_sets _ e)
step-leads sole free (Try2 attempt) answer q s _ = try2-leads sole free attempt answer q s
step-leads sole free (Recheck p) answer q s _ =
    non-empty-leads (λ d. Leads sole free (Recheck p) q s (goes_to q s d)) q _ _ (local.recheck_non_empty p) (λ m d. local.recheck_clear p m d)
step-leads sole free (Gate p direct) answer q s _ =
    if-cases (λ d. Leads sole free (Gate p direct) q s (goes_to q s d)) (is_queue_open q p.queue) _ _ (λ e. local.gate_open p direct e) (λ _. local.gate_closed p direct)
step-leads sole free (Xmit p direct) answer q s e = xmit-leads sole free p direct answer q s e
step-leads sole free (StoreXoff queue hung direct) answer q s _ =
    if-cases (λ d. Leads sole free (StoreXoff queue hung direct) q s (goes_to (record q { xoff = slice_set q.xoff queue (if hung then 2 else 1) }) s d))
    (hung && nat_lt (queue + 1) (length q.xoff)) _ _ (λ _. local.stop_next queue hung direct _) (λ _. stop-last sole free q s queue hung direct _ _ (sends q s direct))
step-leads sole free Post answer q s _ =
    non-empty-leads (Leads sole free Post q s) q _ _ (post-goes-on sole free q s _ (dequeues q)) (λ m d. local.post_clear m d)
step-leads sole free Deq answer q s _ =
    if-cases (Leads sole free Deq q s) (is_queue_open q (queue_of_slot q.slot)) _ _ (λ _. slot-leads sole free q.slot q s refl) (λ _. local.deq_closed)
step-leads sole free (Scan band second) answer q s _ = scan-leads sole free (band_at q band) band second q s refl
step-leads sole free Test answer q s _ =
    non-empty-leads (λ d. Leads sole free Test q s (goes_to q s d)) q _ _ local.test_non_empty (λ m d. local.test_clear m d)
step-leads sole free ClearMissed answer q s _ = local.clear_missed
step-leads sole free ClearDraining answer q s _ = local.clear_draining
step-leads sole free (BlockedClear b) answer q s _ = local.blocked_clear b
step-leads sole free (BlockedLoad b) answer q s _ =
    if-cases (λ d. Leads sole free (BlockedLoad b) q s (goes_to q s d)) (is_queue_open q (queue_of_blocked b)) _ _ (λ _. local.blocked_open b) (λ e. local.blocked_closed b e)
step-leads sole free (BlockedMiss (InHand p direct)) answer q s _ = local.miss_back p direct
step-leads sole free (BlockedMiss (NoneTaken queue)) answer q s _ = local.miss_none queue
step-leads sole free (BlockedDrain (InHand p direct)) answer q s _ = local.drain_back p direct
step-leads sole free (BlockedDrain (NoneTaken queue)) answer q s _ = local.drain_none queue
step-leads sole free Again answer q s _ = local.again
step-leads sole free Quota answer q s _ = local.quota
step-leads sole free Unlock answer q s _ = local.unlock
step-leads sole free (Tail inside) answer q s _ =
    if-cases (λ d. Leads sole free (Tail inside) q s (goes_to q s d)) q.missed _ _ (λ _. local.tail_missed inside) (λ e. tail-clear sole free q s inside e)
step-leads sole free (Sched inside) answer q s _ =
    if-cases (Leads sole free (Sched inside) q s) q.sched _ _ (λ e. sched-set sole free q s inside e) (λ e. sched-sets sole free q s inside e)
step-leads sole free Leave answer q s _ = local.leave
step-leads sole free Soft answer q s _ =
    bool-cases (λ d. Leads sole free Soft q s (goes_to q s (SoftClear d))) q.deactivated (λ e. local.soft_deactivated e) (λ e. local.soft_active e)
  where
    bool-cases : (P : Bool → Type 0) (b : Bool) → (b ≡ true → P true) → (b ≡ false → P false) → P b
    bool-cases P true f g = f refl
    bool-cases P false f g = g refl
step-leads sole free (SoftClear true) answer q s _ = local.clears_late
step-leads sole free (SoftClear false) answer q s _ = local.clears
step-leads sole free Late answer q s _ =
    if-cases (λ d. Leads sole free Late q s (goes_to q s d)) q.deactivated _ _ (λ e. local.late_leaves e) (λ e. local.late_tries e)
step-leads sole free (Wake queue) answer q s _ =
    if-cases (Leads sole free (Wake queue) q s) _ _ _ (λ _. local.wake_opens queue) (λ _. local.wake_none queue)

-- STARTS

idle-is : (position : Position) → is_idle position ≡ true → position ≡ Idle
idle-is Idle e = refl
idle-is _ e = cc

-- the test of a start, whose first part is that the seat is idle
begins-idle : (b : Beginning) (s : Seat) → may_begin b s ≡ true → is_idle s.position ≡ true
begins-idle (Transmits p) s may = may
begins-idle Interrupts s may = (and-true _ _ may).0
begins-idle (Wakes queue) s may = may
begins-idle Controls s may = may

idle-leads : (sole : Bool) (free : Packet → Type 0) (b : Beginning) (q : Qdisc) (s : Seat)
    → may_begin b s ≡ true → ((p : Packet) → b ≡ Transmits p → free p) → Local sole free q s Idle (record { qdisc = q; seat = begun b s })
idle-leads sole free (Transmits p) q s may f = local.transmits p (f p refl)
idle-leads sole free Interrupts q s may f = local.interrupts (and-true _ _ may).1
idle-leads sole free (Wakes queue) q s may f = local.wakes queue
idle-leads sole free Controls q s may f = local.controls

pub start-leads : (sole : Bool) (free : Packet → Type 0) (b : Beginning) (q : Qdisc) (s : Seat)
    → may_begin b s ≡ true → ((p : Packet) → b ≡ Transmits p → free p) → Local sole free q s s.position (record { qdisc = q; seat = begun b s })
start-leads sole free b q s may f =
    subst (λ (d : Position). Local sole free q s d (record { qdisc = q; seat = begun b s }))
    (sym (idle-is s.position (begins-idle b s may))) (idle-leads sole free b q s may f)

-- CONTROL

not-true : (b : Bool) → not b ≡ true → b ≡ false
not-true true e = cc
not-true false e = refl

purge-band-leads : (sole : Bool) (free : Packet → Type 0) (purge : Option Purge) (q : Qdisc) (s : Seat)
    → q.purge ≡ purge → looks_at_bands purge ≡ true → Leads sole free (Control true) q s (goes_to (purge_band purge q) s (Control true))
purge-band-leads sole free None q s e may = cc
purge-band-leads sole free (Some u) q s e may = look (band_at q u.band) refl
  where
    look : (items : List Packet) → band_at q u.band ≡ items → Leads sole free (Control true) q s (goes_to (band_purged items u q) s (Control true))
    look [] empty = local.purge_next u e may empty
    look (p ∷ rest) is = local.purge_takes u p rest e may is

purge-missed-leads : (sole : Bool) (free : Packet → Type 0) (purge : Option Purge) (q : Qdisc) (s : Seat)
    → q.purge ≡ purge → is_after_bands purge ≡ true → Leads sole free (Control true) q s (goes_to (purge_missed purge q) s (Control true))
purge-missed-leads sole free None q s e may = cc
purge-missed-leads sole free (Some u) q s e may =
    if-cases (λ after. Leads sole free (Control true) q s (goes_to after s (Control true))) u.draining _ _
    (λ d. local.purge_missed_ends u e (not-true _ may) d) (λ d. local.purge_missed u e (not-true _ may) d)

purge-draining-leads : (sole : Bool) (free : Packet → Type 0) (purge : Option Purge) (q : Qdisc) (s : Seat)
    → q.purge ≡ purge → is_after_bands purge ≡ true → Leads sole free (Control true) q s (goes_to (purge_draining purge q) s (Control true))
purge-draining-leads sole free None q s e may = cc
purge-draining-leads sole free (Some u) q s e may =
    if-cases (λ after. Leads sole free (Control true) q s (goes_to after s (Control true))) (u.missed && true) _ _
    (λ d. local.purge_draining_ends u e (not-true _ may) (and-true _ _ d).0)
    (λ d. local.purge_draining u e (not-true _ may) (no-more _ d))
  where
    no-more : (b : Bool) → (b && true) ≡ false → b ≡ false
    no-more true h = cc
    no-more false h = refl

pub control-leads : (sole : Bool) (free : Packet → Type 0) (step : ControlStep) (holds : Bool) (q : Qdisc) (s : Seat)
    → may_control step sole holds q ≡ true → Leads sole free (Control holds) q s (control_at step holds q s)
control-leads sole free Return false q s _ = local.returns
control-leads sole free Return true q s e = cc
control-leads sole free GetLock false q s e = local.gets_lock (not-true _ e)
control-leads sole free GetLock true q s e = cc
control-leads sole free RunEnd true q s e = local.run_end (none-is _ e)
control-leads sole free RunEnd false q s e = cc
control-leads sole free Release true q s e = local.releases (none-is _ (and-true _ _ e).0) (and-true _ _ e).1
control-leads sole free Release false q s e = cc
control-leads sole free SetDeactivated holds q s e = local.deactivates holds (not-true _ (and-true _ _ e).0) (none-is _ (and-true _ _ e).1)
control-leads sole free ClearDeactivated false q s e = local.activates (none-is _ (and-true _ _ e).0) (and-true _ _ e).1
control-leads sole free ClearDeactivated true q s e = cc
control-leads sole free LoadInside holds q s e = local.loads_inside holds
control-leads sole free PurgeSlot true q s e = local.purge_begins (none-is _ (and-true _ _ e).0) (and-true _ _ e).1
control-leads sole free PurgeSlot false q s e = cc
control-leads sole free PurgeBand true q s e = purge-band-leads sole free q.purge q s refl e
control-leads sole free PurgeBand false q s e = cc
control-leads sole free PurgeMissed true q s e = purge-missed-leads sole free q.purge q s refl e
control-leads sole free PurgeMissed false q s e = cc
control-leads sole free PurgeDraining true q s e = purge-draining-leads sole free q.purge q s refl e
control-leads sole free PurgeDraining false q s e = cc
control-leads sole free (Resize len) true q s e = local.resizes len (none-is _ e)
control-leads sole free (Resize len) false q s e = cc
control-leads sole free (StoreOpen queue) true q s e = local.stores_open queue (none-is _ (and-true _ _ e).0) (and-true _ _ e).1
control-leads sole free (StoreOpen queue) false q s e = cc
control-leads sole free (OpenQueue queue) true q s e = local.opens queue (none-is _ (and-true _ _ e).0)
control-leads sole free (OpenQueue queue) false q s e = cc

-- a seat in a call of control stands at control
pub at-control : (position : Position) → is_control position ≡ true → position ≡ Control (holds_as_control position)
at-control (Control holds) e = refl
at-control _ e = cc

-- WHAT MAY MOVE

-- a packet whose owner no other seat remembers
abbrev pub Free : Machine → ℕ → Packet → Type 0
Free m i p = IsFree (Transmits p) i m

-- one step, as that of one seat
pub record Moved (m n : Machine) : Type 0 where
  pub i : ℕ
  pub inside : i < length m.seats
  pub after : After
  pub leads : Local (is_sole m) (Free m i) m.qdisc (seat_at m i) (seat_at m i).position after
  pub is : n ≡ with_seat m i after

pub if-some : {A : Type 0} (b : Bool) (x y : A) → (if b then Some x else None) ≡ Some y → (b ≡ true) × (y ≡ x)
if-some true x y e = (refl, cc)
if-some false x y e = cc

free-of : (m : Machine) (i : ℕ) (b : Beginning) → IsFree b i m → (p : Packet) → b ≡ Transmits p → Free m i p
free-of m i b free p e = subst (λ (c : Beginning). IsFree c i m) e free

pub moved : (m n : Machine) → Moves m n → Moved m n
moved m n (steps i answer e) =
    let may = and-true _ _ (if-some _ _ _ e).0 in
    record {
      i = i;
      inside = ltb-true _ _ may.0;
      after = step_at (seat_at m i).position answer m.qdisc (seat_at m i);
      leads = step-leads (is_sole m) (Free m i) (seat_at m i).position answer m.qdisc (seat_at m i) may.1;
      is = (if-some _ _ _ e).1;
    }
moved m n (begins i b free e) =
    let may = and-true _ _ (if-some _ _ _ e).0 in
    record {
      i = i;
      inside = ltb-true _ _ may.0;
      after = record { qdisc = m.qdisc; seat = begun b (seat_at m i) };
      leads = start-leads (is_sole m) (Free m i) b m.qdisc (seat_at m i) may.1 (free-of m i b free);
      is = (if-some _ _ _ e).1;
    }
moved m n (controls i step e) =
    let may = and-true _ _ (if-some _ _ _ e).0 in
    let there = and-true _ _ may.0 in
    record {
      i = i;
      inside = ltb-true _ _ there.0;
      after = control_at step (holds_as_control (seat_at m i).position) m.qdisc (seat_at m i);
      leads = subst (λ (d : Position). Local (is_sole m) (Free m i) m.qdisc (seat_at m i) d (control_at step (holds_as_control (seat_at m i).position) m.qdisc (seat_at m i)))
          (sym (at-control (seat_at m i).position there.1)) (control-leads (is_sole m) (Free m i) step (holds_as_control (seat_at m i).position) m.qdisc (seat_at m i) may.1);
      is = (if-some _ _ _ e).1;
    }
