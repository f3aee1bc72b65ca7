-- Every outcome of a step of one seat, of a start and of a step of control, each with what was found on the way.
use Rattle.std.proofs.Common.{◌≡◌, ℕ, ◌+◌, ◌-◌, Bool, true, false, List, [], ◌∷◌, Some, None}
use Rattle.std.specs.Prelude.{◌||◌, nat_lt, map, take, slice_set, is_none}
use Rattle.lq_model.specs.declared.machine.Packet.{Packet}
use Rattle.lq_model.specs.declared.machine.Call.TheVariants.{Transmit, SoftInterrupt}
use Rattle.lq_model.specs.declared.machine.Attempt.{Attempt}
use Rattle.lq_model.specs.declared.machine.Attempt.TheVariants.{Queued, Direct, Interrupt}
use Rattle.lq_model.specs.declared.machine.Blocked.{Blocked}
use Rattle.lq_model.specs.declared.machine.Blocked.TheVariants.{InHand, NoneTaken}
use Rattle.lq_model.specs.declared.machine.Phase.TheVariants.{Active, Closing}
use Rattle.lq_model.specs.declared.machine.Position.{Position}
use Rattle.lq_model.specs.declared.machine.Position.TheVariants.{Idle, Enter, Check, Put, Try1, Miss, Try2, Recheck, Gate, Xmit, StoreXoff, Post, Deq, Scan, Test, ClearMissed, ClearDraining, BlockedClear, BlockedLoad, BlockedMiss, BlockedDrain, Again, Quota, Unlock, Tail, Sched, Leave, Soft, SoftClear, Late, Wake, Control}
use Rattle.lq_model.specs.declared.machine.Seat.{Seat}
use Rattle.lq_model.specs.Machine.{Qdisc, Purge, is_queue_open, has_several_queues, band_at}
use Rattle.lq_model.specs.Steps.{After, goes_to, one_more, joined_band, accepted, counted, queue_of_slot, queue_of_blocked}
use Rattle.lq_model.specs.Control.{is_quiet, is_purged_phase, found_inside, after_purge, queue_opened}

-- where a run or a dequeue begins
pub data Dequeues (q : Qdisc) : Position → Type 0 where
  at_stop_word : (has_several_queues q ≡ true → is_none q.slot ≡ false) → Dequeues q Deq
  at_bands : q.slot ≡ None → Dequeues q (Scan 0 false)

-- where a seat goes on after a packet was sent
pub data Sends (q : Qdisc) : Bool → Position → Type 0 where
  sent_directly : Sends q true Post
  sent_quota : Sends q false Quota
  sent_on : (d : Position) → Dequeues q d → Sends q false d

-- the list of its band after a put
pub data Puts (p : Packet) (q : Qdisc) : Qdisc → Type 0 where
  put_joins : Puts p q (joined_band p q)
  put_refused : Puts p q (record q { full = one_more q.full })

pub data Local (sole : Bool) (free : Packet → Type 0) (q : Qdisc) (s : Seat) : Position → After → Type 0 where
  enter_transmit : (p : Packet) → Local sole free q s (Enter (Transmit p)) (goes_to (record q { inside = q.inside + 1 }) s (Check p))
  enter_interrupt : Local sole free q s (Enter SoftInterrupt) (goes_to (record q { inside = q.inside + 1 }) s Soft)
  check_refused : (p : Packet) → q.deactivated ≡ true → Local sole free q s (Check p) (goes_to q s Leave)
  check_direct : (p : Packet) → q.deactivated ≡ false → Local sole free q s (Check p) (goes_to q s (Try1 (Direct p)))
  check_put : (p : Packet) → q.deactivated ≡ false → Local sole free q s (Check p) (goes_to q s (Put p false))
  put_join : (p : Packet) → Local sole free q s (Put p false) (goes_to (joined_band p q) s (Try1 (Queued p)))
  put_full : (p : Packet) → Local sole free q s (Put p false) (goes_to (record q { full = one_more q.full }) s (Try1 (Queued p)))
  put_join_word : (p : Packet) (run : ℕ) → (has_several_queues q ≡ true → is_none q.slot ≡ false) → Local sole free q s (Put p true) (record { qdisc = (joined_band p q); seat = record s { position = Deq; run = run } })
  put_join_bands : (p : Packet) (run : ℕ) → q.slot ≡ None → Local sole free q s (Put p true) (record { qdisc = (joined_band p q); seat = record s { position = (Scan 0 false); run = run } })
  put_full_word : (p : Packet) (run : ℕ) → (has_several_queues q ≡ true → is_none q.slot ≡ false) → Local sole free q s (Put p true) (record { qdisc = (record q { full = one_more q.full }); seat = record s { position = Deq; run = run } })
  put_full_bands : (p : Packet) (run : ℕ) → q.slot ≡ None → Local sole free q s (Put p true) (record { qdisc = (record q { full = one_more q.full }); seat = record s { position = (Scan 0 false); run = run } })
  try1_held : (attempt : Attempt) → q.locked ≡ true → Local sole free q s (Try1 attempt) (goes_to q s (Miss attempt))
  try1_direct : (p : Packet) → q.locked ≡ false → Local sole free q s (Try1 (Direct p)) (goes_to (record q { locked = true }) s (Recheck p))
  try1_queued_word : (p : Packet) (run : ℕ) → q.locked ≡ false → (has_several_queues q ≡ true → is_none q.slot ≡ false) → Local sole free q s (Try1 (Queued p)) (record { qdisc = record q { locked = true }; seat = record s { position = Deq; run = run } })
  try1_queued_bands : (p : Packet) (run : ℕ) → q.locked ≡ false → q.slot ≡ None → Local sole free q s (Try1 (Queued p)) (record { qdisc = record q { locked = true }; seat = record s { position = (Scan 0 false); run = run } })
  try1_interrupt_word : (run : ℕ) → q.locked ≡ false → (has_several_queues q ≡ true → is_none q.slot ≡ false) → Local sole free q s (Try1 Interrupt) (record { qdisc = record q { locked = true }; seat = record s { position = Deq; run = run } })
  try1_interrupt_bands : (run : ℕ) → q.locked ≡ false → q.slot ≡ None → Local sole free q s (Try1 Interrupt) (record { qdisc = record q { locked = true }; seat = record s { position = (Scan 0 false); run = run } })
  miss_set_direct : (p : Packet) → q.missed ≡ true → Local sole free q s (Miss (Direct p)) (goes_to q s (Put p false))
  miss_set_queued : (p : Packet) → q.missed ≡ true → Local sole free q s (Miss (Queued p)) (goes_to q s Leave)
  miss_set_interrupt : q.missed ≡ true → Local sole free q s (Miss Interrupt) (goes_to q s Leave)
  miss_sets : (attempt : Attempt) → q.missed ≡ false → Local sole free q s (Miss attempt) (goes_to (record q { missed = true }) s (Try2 attempt))
  try2_held_direct : (p : Packet) → q.locked ≡ true → Local sole free q s (Try2 (Direct p)) (goes_to q s (Put p false))
  try2_held_queued : (p : Packet) → q.locked ≡ true → Local sole free q s (Try2 (Queued p)) (goes_to q s Leave)
  try2_held_interrupt : q.locked ≡ true → Local sole free q s (Try2 Interrupt) (goes_to q s Leave)
  try2_direct : (p : Packet) → q.locked ≡ false → Local sole free q s (Try2 (Direct p)) (goes_to (record q { locked = true }) s (Recheck p))
  try2_queued_word : (p : Packet) (run : ℕ) → q.locked ≡ false → (has_several_queues q ≡ true → is_none q.slot ≡ false) → Local sole free q s (Try2 (Queued p)) (record { qdisc = record q { locked = true }; seat = record s { position = Deq; run = run } })
  try2_queued_bands : (p : Packet) (run : ℕ) → q.locked ≡ false → q.slot ≡ None → Local sole free q s (Try2 (Queued p)) (record { qdisc = record q { locked = true }; seat = record s { position = (Scan 0 false); run = run } })
  try2_interrupt_word : (run : ℕ) → q.locked ≡ false → (has_several_queues q ≡ true → is_none q.slot ≡ false) → Local sole free q s (Try2 Interrupt) (record { qdisc = record q { locked = true }; seat = record s { position = Deq; run = run } })
  try2_interrupt_bands : (run : ℕ) → q.locked ≡ false → q.slot ≡ None → Local sole free q s (Try2 Interrupt) (record { qdisc = record q { locked = true }; seat = record s { position = (Scan 0 false); run = run } })
  recheck_non_empty : (p : Packet) → Local sole free q s (Recheck p) (goes_to q s (Put p true))
  recheck_clear : (p : Packet) → q.missed ≡ false → q.draining ≡ false → Local sole free q s (Recheck p) (goes_to q s (Gate p true))
  gate_open : (p : Packet) (direct : Bool) → is_queue_open q p.queue ≡ true → Local sole free q s (Gate p direct) (goes_to q s (Xmit p direct))
  gate_closed : (p : Packet) (direct : Bool) → Local sole free q s (Gate p direct) (goes_to q s (BlockedClear (InHand p direct)))
  xmit_sent_direct : (p : Packet) → Local sole free q s (Xmit p true) (goes_to (accepted q) (counted s) Post)
  xmit_sent_quota : (p : Packet) → Local sole free q s (Xmit p false) (goes_to (accepted q) (counted s) Quota)
  xmit_sent_word : (p : Packet) → (has_several_queues q ≡ true → is_none q.slot ≡ false) → Local sole free q s (Xmit p false) (goes_to (accepted q) (counted s) Deq)
  xmit_sent_bands : (p : Packet) → q.slot ≡ None → Local sole free q s (Xmit p false) (goes_to (accepted q) (counted s) (Scan 0 false))
  xmit_stops : (p : Packet) (direct : Bool) (queue : ℕ) (hung : Bool)
      → Local sole free q s (Xmit p direct) (goes_to (accepted q) (counted s) (StoreXoff queue hung direct))
  xmit_busy : (p : Packet) (direct : Bool) → Local sole free q s (Xmit p direct) (goes_to (record q { slot = Some p }) s Again)
  stop_next : (queue : ℕ) (hung direct : Bool) (v : ℕ)
      → Local sole free q s (StoreXoff queue hung direct) (goes_to (record q { xoff = slice_set q.xoff queue v }) s (StoreXoff (queue + 1) hung direct))
  stop_last_direct : (queue : ℕ) (hung : Bool) (v : ℕ) → Local sole free q s (StoreXoff queue hung true) (goes_to (record q { xoff = slice_set q.xoff queue v }) s Post)
  stop_last_quota : (queue : ℕ) (hung : Bool) (v : ℕ) → Local sole free q s (StoreXoff queue hung false) (goes_to (record q { xoff = slice_set q.xoff queue v }) s Quota)
  stop_last_word : (queue : ℕ) (hung : Bool) (v : ℕ) → (has_several_queues q ≡ true → is_none q.slot ≡ false) → Local sole free q s (StoreXoff queue hung false) (goes_to (record q { xoff = slice_set q.xoff queue v }) s Deq)
  stop_last_bands : (queue : ℕ) (hung : Bool) (v : ℕ) → q.slot ≡ None → Local sole free q s (StoreXoff queue hung false) (goes_to (record q { xoff = slice_set q.xoff queue v }) s (Scan 0 false))
  post_word : (run : ℕ) → (has_several_queues q ≡ true → is_none q.slot ≡ false) → Local sole free q s Post (record { qdisc = q; seat = record s { position = Deq; run = run } })
  post_bands : (run : ℕ) → q.slot ≡ None → Local sole free q s Post (record { qdisc = q; seat = record s { position = (Scan 0 false); run = run } })
  post_clear : q.missed ≡ false → q.draining ≡ false → Local sole free q s Post (goes_to q s Unlock)
  deq_slot : (p : Packet) → Local sole free q s Deq (goes_to (record q { slot = None }) s (Gate p false))
  deq_bands : q.slot ≡ None → Local sole free q s Deq (goes_to q s (Scan 0 false))
  deq_closed : Local sole free q s Deq (goes_to q s (BlockedClear (NoneTaken (queue_of_slot q.slot))))
  scan_takes : (band : ℕ) (second : Bool) (p : Packet) (rest : List Packet) → band_at q band ≡ p ∷ rest
      → Local sole free q s (Scan band second) (goes_to (record q { bands = slice_set q.bands band rest }) s (Gate p false))
  scan_next : (band : ℕ) (second : Bool) → band_at q band ≡ [] → Local sole free q s (Scan band second) (goes_to q s (Scan (band + 1) second))
  scan_tests : (band : ℕ) → band_at q band ≡ [] → nat_lt band 2 ≡ false → Local sole free q s (Scan band false) (goes_to q s Test)
  scan_ends : (band : ℕ) → band_at q band ≡ [] → nat_lt band 2 ≡ false → Local sole free q s (Scan band true) (goes_to q s Unlock)
  test_non_empty : Local sole free q s Test (goes_to q s ClearMissed)
  test_clear : q.missed ≡ false → q.draining ≡ false → Local sole free q s Test (goes_to q s Unlock)
  clear_missed : Local sole free q s ClearMissed (goes_to (record q { missed = false }) s ClearDraining)
  clear_draining : Local sole free q s ClearDraining (goes_to (record q { draining = false }) s (Scan 0 true))
  blocked_clear : (b : Blocked) → Local sole free q s (BlockedClear b) (goes_to (record q { missed = false }) s (BlockedLoad b))
  blocked_open : (b : Blocked) → Local sole free q s (BlockedLoad b) (goes_to q s (BlockedMiss b))
  blocked_closed : (b : Blocked) → is_queue_open q (queue_of_blocked b) ≡ false → Local sole free q s (BlockedLoad b) (goes_to q s (BlockedDrain b))
  miss_back : (p : Packet) (direct : Bool)
      → Local sole free q s (BlockedMiss (InHand p direct)) (goes_to (record q { missed = true; slot = Some p }) s Again)
  miss_none : (queue : ℕ) → Local sole free q s (BlockedMiss (NoneTaken queue)) (goes_to (record q { missed = true }) s Unlock)
  drain_back : (p : Packet) (direct : Bool)
      → Local sole free q s (BlockedDrain (InHand p direct)) (goes_to (record q { draining = true; slot = Some p }) s Again)
  drain_none : (queue : ℕ) → Local sole free q s (BlockedDrain (NoneTaken queue)) (goes_to (record q { draining = true }) s Unlock)
  again : Local sole free q s Again (goes_to (record q { missed = true }) s Unlock)
  quota : Local sole free q s Quota (goes_to (record q { missed = true }) s Unlock)
  unlock : Local sole free q s Unlock (goes_to (record q { locked = false }) s (Tail true))
  tail_missed : (inside : Bool) → Local sole free q s (Tail inside) (goes_to q s (Sched inside))
  tail_inside : q.missed ≡ false → Local sole free q s (Tail true) (goes_to q s Leave)
  tail_outside : q.missed ≡ false → Local sole free q s (Tail false) (goes_to q s Idle)
  sched_set_inside : q.sched ≡ true → Local sole free q s (Sched true) (goes_to q s Leave)
  sched_set_outside : q.sched ≡ true → Local sole free q s (Sched false) (goes_to q s Idle)
  sched_sets_inside : q.sched ≡ false → Local sole free q s (Sched true) (record { qdisc = record q { sched = true }; seat = record s { position = Leave; raised = true } })
  sched_sets_outside : q.sched ≡ false → Local sole free q s (Sched false) (record { qdisc = record q { sched = true }; seat = record s { position = Idle; raised = true } })
  leave : Local sole free q s Leave (goes_to (record q { inside = q.inside - 1 }) s Idle)
  soft_deactivated : q.deactivated ≡ true → Local sole free q s Soft (goes_to q s (SoftClear true))
  soft_active : q.deactivated ≡ false → Local sole free q s Soft (goes_to q s (SoftClear false))
  clears_late : Local sole free q s (SoftClear true) (goes_to (record q { sched = false }) s Late)
  clears : Local sole free q s (SoftClear false) (goes_to (record q { sched = false }) s (Try1 Interrupt))
  late_leaves : q.deactivated ≡ true → Local sole free q s Late (goes_to q s Leave)
  late_tries : q.deactivated ≡ false → Local sole free q s Late (goes_to q s (Try1 Interrupt))
  wake_opens : (queue : ℕ) → Local sole free q s (Wake queue) (goes_to (record q { xoff = slice_set q.xoff queue 0 }) s (Sched false))
  wake_none : (queue : ℕ) → Local sole free q s (Wake queue) (goes_to q s Idle)
  -- starts
  transmits : (p : Packet) → free p → Local sole free q s Idle (goes_to q s (Enter (Transmit p)))
  interrupts : s.raised ≡ true → Local sole free q s Idle (record { qdisc = q; seat = record s { position = Enter SoftInterrupt; raised = false } })
  wakes : (queue : ℕ) → Local sole free q s Idle (goes_to q s (Wake queue))
  controls : Local sole free q s Idle (goes_to q s (Control false))
  -- control
  returns : Local sole free q s (Control false) (goes_to q s Idle)
  gets_lock : q.locked ≡ false → Local sole free q s (Control false) (goes_to (record q { locked = true }) s (Control true))
  run_end : q.purge ≡ None → Local sole free q s (Control true) (goes_to (record q { locked = false }) s (Tail false))
  releases : q.purge ≡ None → q.deactivated ≡ true → Local sole free q s (Control true) (goes_to (record q { locked = false }) s (Control false))
  deactivates : (holds : Bool) → q.deactivated ≡ false → q.purge ≡ None
      → Local sole free q s (Control holds) (goes_to (record q { deactivated = true; phase = Closing }) s (Control holds))
  activates : q.purge ≡ None → is_purged_phase q.phase ≡ true
      → Local sole free q s (Control false) (goes_to (record q { deactivated = false; phase = Active }) s (Control false))
  loads_inside : (holds : Bool) → Local sole free q s (Control holds) (goes_to (record q { phase = found_inside q.inside q.phase }) s (Control holds))
  purge_begins : q.purge ≡ None → (is_quiet q.phase || sole) ≡ true
      → Local sole free q s (Control true)
      (goes_to (record q { slot = None; purge = Some (record { band = 0; missed = false; draining = false }) }) s (Control true))
  purge_takes : (u : Purge) (p : Packet) (rest : List Packet) → q.purge ≡ Some u → nat_lt u.band 3 ≡ true → band_at q u.band ≡ p ∷ rest
      → Local sole free q s (Control true) (goes_to (record q { bands = slice_set q.bands u.band rest }) s (Control true))
  purge_next : (u : Purge) → q.purge ≡ Some u → nat_lt u.band 3 ≡ true → band_at q u.band ≡ []
      → Local sole free q s (Control true) (goes_to (record q { purge = Some (record u { band = u.band + 1 }) }) s (Control true))
  purge_missed : (u : Purge) → q.purge ≡ Some u → nat_lt u.band 3 ≡ false → u.draining ≡ false
      → Local sole free q s (Control true) (goes_to (record q { missed = false; purge = Some (record u { missed = true }) }) s (Control true))
  purge_draining : (u : Purge) → q.purge ≡ Some u → nat_lt u.band 3 ≡ false → u.missed ≡ false
      → Local sole free q s (Control true) (goes_to (record q { draining = false; purge = Some (record u { draining = true }) }) s (Control true))
  purge_missed_ends : (u : Purge) → q.purge ≡ Some u → nat_lt u.band 3 ≡ false → u.draining ≡ true
      → Local sole free q s (Control true) (goes_to (record q { missed = false; purge = None; phase = after_purge q.phase }) s (Control true))
  purge_draining_ends : (u : Purge) → q.purge ≡ Some u → nat_lt u.band 3 ≡ false → u.missed ≡ true
      → Local sole free q s (Control true) (goes_to (record q { draining = false; purge = None; phase = after_purge q.phase }) s (Control true))
  resizes : (len : ℕ) → q.purge ≡ None
      → Local sole free q s (Control true) (goes_to (record q { bands = map (λ band. take len band) q.bands; len = len }) s (Control true))
  stores_open : (queue : ℕ) → q.purge ≡ None → is_purged_phase q.phase ≡ true
      → Local sole free q s (Control true) (goes_to (record q { xoff = slice_set q.xoff queue 0 }) s (Control true))
  opens : (queue : ℕ) → q.purge ≡ None → Local sole free q s (Control true) (queue_opened queue q s)
