-- The calls of a queue discipline, each with the lists of steps that it may make from where a seat stands, the first step first.
use Rattle.std.specs.Option.{option_map_or}
use Rattle.std.specs.Prelude.{◌≡◌, ◌≢◌, ◌⊎◌, ◌<◌, ◌+◌, ◌-◌, ◌/◌, ℕ, zero, suc, Bool, true, false, not, ◌&&◌, ◌||◌, List, [], ◌∷◌, ◌++◌, Option, Some, None, Ok, Err}
use Rattle.lq_device.specs.Station.{StationState, HasAnswered, with_slot}
use Rattle.lq_model.specs.Device.{is_busy}
use Rattle.lq_model.specs.Plan.{band_in, queue_in}
use Rattle.lq_model.specs.declared.device.Tx.{Tx}
use Rattle.lq_model.specs.declared.device.Tx.TheVariants as tx
use Rattle.lq_model.specs.declared.fate.Fate.TheVariants as fate
use Rattle.lq_model.specs.declared.state.TheConstants.{QUOTA}
use Rattle.lq_ring.specs.StepLists.{Consume, Produce}
use Rattle.lq_ring_core.specs.declared.ring.Full.{Full}
use Rattle.lq_run.specs.Steps.{Begin, End}
use Rattle.lq_table.specs.Fates.{fate_sent}
use Rattle.lq_table.specs.Moves.{is_set, pass_view}
use Rattle.lq_table.specs.Sees.{solo}
use Rattle.lq_table.specs.States.{missed_to, some_bit}
use Rattle.lq_table.specs.Step.{Standing, Step, carried_station, due_word, step_leaves, steps_leave, steps_tell}
use Rattle.lq_table.specs.Step.{Check, ClearDraining, ClearMissed, ClearSched, Enter, GiveTurn, Leave, LoadState, LoadXoff, LookStop, Recheck, Requeue, SetDraining, SetMissed, SetSched, SetStation, Settle, StoreXoff, TakeTurn, Wake}
use Rattle.lq_table.specs.Views.{Setup, View, Known}
use Rattle.lq_qdisc.specs.Calls.{Dequeues, SeesOneQueue}
use Rattle.lq_qdisc.specs.Direct.{Directs}
use Rattle.lq_qdisc.specs.declared.answers.Ran.{Ran}
use Rattle.lq_qdisc.specs.declared.answers.RunEnd.{RunEnd}
use Rattle.lq_qdisc.specs.declared.answers.RunEnd.TheVariants as end
use Rattle.lq_qdisc.specs.declared.answers.Sending.{Sending}
use Rattle.lq_qdisc.specs.declared.answers.Sending.TheVariants as sending
use Rattle.lq_qdisc.specs.declared.answers.Taken.{Taken}
use Rattle.lq_qdisc.specs.declared.answers.Taken.TheVariants as taken
use Rattle.lq_qdisc.specs.declared.answers.Through.{Through}
use Rattle.lq_qdisc.specs.declared.answers.Through.TheVariants as through
use Rattle.lq_qdisc.specs.declared.answers.Why.{Why}
use Rattle.lq_qdisc.specs.declared.answers.Why.TheVariants as why

-- from where a seat stands that knows this, the steps of a list that is such lead there
abbrev pub LeadsBy : (Standing → List Step → Type 0) → Known → Known → Type 0
LeadsBy such old new = (before : Standing) × (xs : List Step) × such before xs × (before.view ≡ old.view) × (before.steps ≡ old.steps)
    × (new.view ≡ (steps_leave xs before).view) × (new.steps ≡ (steps_leave xs before).steps) × steps_tell xs before

-- steps that are such, and come to this of what the seat knew
pub record Coming (comes : View → View → Type 0) (such : Standing → List Step → Type 0) (before : Standing) (xs : List Step) : Type 0 where
  pub by : such before xs
  pub came : comes before.view (steps_leave xs before).view

-- steps, and then others from where those left the seat
pub record Then (one two : Standing → List Step → Type 0) (before : Standing) (all : List Step) : Type 0 where
  pub xs : List Step
  pub ys : List Step
  pub whole : all ≡ xs ++ ys
  pub first : one before xs
  pub next : two (steps_leave xs before) ys

-- A DEQUEUE

-- `qdisc_maybe_clear_missed` of net/sched/sch_generic.c: MISSED is cleared, and the stop word loaded again: where the queue is open by
-- now MISSED is set, and else DRAINING
pub data MaybeClearMissed (queue : ℕ) : List Step → Type 0 where
  FindsOpened : {was : Bool} → MaybeClearMissed queue (ClearMissed ∷ LoadXoff queue 0 ∷ SetMissed was ∷ [])
  FindsShut : {again : ℕ} {was : Bool} → again ≢ 0 → MaybeClearMissed queue (ClearMissed ∷ LoadXoff queue again ∷ SetDraining was ∷ [])

-- the queue is found stopped
pub data FindsXoff (queue : ℕ) : List Step → Type 0 where
  FindsStop : {first : ℕ} {cleared : List Step} → first ≢ 0 → MaybeClearMissed queue cleared
      → FindsXoff queue (LoadXoff queue first ∷ cleared)

-- so many bands are found empty, in ascending order
pub data EmptyBelow (before : Standing) : ℕ → List Step → Type 0 where
  NoBand : EmptyBelow before 0 []
  NextBand : {band : ℕ} {xs ys : List Step} → EmptyBelow before band xs → Consume band (steps_leave xs before) None ys
      → EmptyBelow before (band + 1) (xs ++ ys)

-- each is, or a packet is taken from the first that isn't
pub data ScanBands (before : Standing) : Option ℕ → List Step → Type 0 where
  AllEmpty : {xs : List Step} → EmptyBelow before 3 xs → ScanBands before None xs
  TakesFrom : {band n : ℕ} {xs ys : List Step} → EmptyBelow before band xs → Consume band (steps_leave xs before) (Some n) ys
      → ScanBands before (Some n) (xs ++ ys)

-- `pfifo_fast_dequeue` of net/sched/sch_generic.c: the bands are scanned. Where they are empty the state is loaded, and where MISSED or
-- DRAINING is set both are cleared, and the bands scanned once more.
pub data PfifoFastDequeue (before : Standing) : Taken → List Step → Type 0 where
  TakesAtOnce : {n : ℕ} {xs : List Step} → ScanBands before (Some n) xs → PfifoFastDequeue before (taken.Packet n) xs
  FindsNothing : (state : ℕ) {xs : List Step} → ScanBands before None xs → some_bit state ≡ false
      → PfifoFastDequeue before taken.Empty (xs ++ LoadState state ∷ [])
  ScansAgain : (state : ℕ) {found : Option ℕ} {xs ys : List Step} → ScanBands before None xs → some_bit state ≡ true
      → ScanBands (steps_leave (xs ++ LoadState state ∷ ClearMissed ∷ ClearDraining ∷ []) before) found ys
      → PfifoFastDequeue before (option_map_or (λ n. taken.Packet n) found taken.Empty) (xs ++ LoadState state ∷ ClearMissed ∷ ClearDraining ∷ ys)

-- `dequeue_skb` of net/sched/sch_generic.c: the queue of the packet in the requeue slot, or the one queue, is open first; with more queues
-- none is asked for the bands
pub data DequeueSkb (k : Setup) (before : Standing) : Taken → List Step → Type 0 where
  TakesRequeued : {n : ℕ} → before.view.holder.slot ≡ Some n
      → DequeueSkb k before (taken.Packet n) (LoadXoff (queue_in k.infos n) 0 ∷ SetStation (with_slot (carried_station before) None) ∷ [])
  KeepsRequeued : {n : ℕ} {xs : List Step} → before.view.holder.slot ≡ Some n → FindsXoff (queue_in k.infos n) xs
      → DequeueSkb k before taken.Stopped xs
  LooksAtBands : {answer : Taken} {xs : List Step} → before.view.holder.slot ≡ None → k.queues ≢ 1 → PfifoFastDequeue before answer xs
      → DequeueSkb k before answer xs
  FindsOpen : {answer : Taken} {xs : List Step} → before.view.holder.slot ≡ None → k.queues ≡ 1
      → PfifoFastDequeue (step_leaves (LoadXoff 0 0) before) answer xs
      → DequeueSkb k before answer (LoadXoff 0 0 ∷ xs)
  FindsClosed : {xs : List Step} → before.view.holder.slot ≡ None → k.queues ≡ 1 → FindsXoff 0 xs → DequeueSkb k before taken.Stopped xs

-- what it comes to
abbrev pub DequeuesTo : Setup → Taken → View → View → Type 0
DequeuesTo k answer old new = Dequeues answer k.infos old new × SeesOneQueue answer old × (new.share ≡ old.share)

-- A DIRECT TRANSMIT

-- the stop words of the first so many queues are stored as hung, in ascending order
abbrev pub hung_steps : ℕ → List Step
hung_steps zero = []
hung_steps (suc queue) = hung_steps queue ++ StoreXoff queue 2 ∷ []

-- what follows an answer of the device, where there are so many queues
abbrev pub stop_steps : Tx → ℕ → ℕ → List Step
stop_steps tx.Sent queue queues = []
stop_steps tx.Busy queue queues = []
stop_steps tx.SentStop queue queues = StoreXoff queue 1 ∷ []
stop_steps tx.SentHang queue queues = hung_steps queues

-- `dev_hard_start_xmit` of net/core/dev.c: the device is asked. Where it accepted the packet that packet's fate is stored, and its answer
-- says
-- which stop words; where it was busy the packet goes to the requeue slot, and MISSED is set.
pub data StartXmit (queues n queue : ℕ) (before : Standing) : Through → List Step → Type 0 where
  IsAccepted : {answer : Tx} {station : StationState} → is_busy answer ≡ false → HasAnswered answer queue n (carried_station before) station
      → StartXmit queues n queue before through.Yes (SetStation station ∷ Settle n (fate_sent (carried_station before)) ∷ stop_steps answer queue queues)
  IsGivenBack : {station : StationState} {was : Bool} → HasAnswered tx.Busy queue n (carried_station before) station
      → StartXmit queues n queue before (through.Back why.Busy) (SetStation station ∷ SetStation (with_slot station (Some n)) ∷ Requeue was ∷ [])

-- `sch_direct_xmit` of net/sched/sch_generic.c: where the packet's queue is open it is handed to the device; else it goes to the requeue
-- slot, and MISSED is set
pub data DirectXmit (queues n queue : ℕ) (before : Standing) : Through → List Step → Type 0 where
  IsOffered : {through : Through} {rest : List Step} → StartXmit queues n queue (step_leaves (LoadXoff queue 0) before) through rest
      → DirectXmit queues n queue before through (LoadXoff queue 0 ∷ rest)
  IsLaidAside : {found : List Step} → FindsXoff queue found → (was : Bool)
      → DirectXmit queues n queue before (through.Back why.Stopped) (found ++ SetStation (with_slot (carried_station before) (Some n)) ∷ SetMissed was ∷ [])

-- A RUN

-- a packet is dequeued, and handed to the device with this result
abbrev pub HandsOver : Setup → ℕ → Through → Standing → List Step → Type 0
HandsOver k n through = Then
    (Coming (DequeuesTo k (taken.Packet n)) (λ s. DequeueSkb k s (taken.Packet n)))
    (Coming (λ old new. Directs through n (queue_in k.infos n) old new × (new.share ≡ old.share)) (λ s. DirectXmit k.queues n (queue_in k.infos n) s through))

-- `qdisc_restart` of net/sched/sch_generic.c
pub data Restart (k : Setup) (before : Standing) : Option RunEnd → List Step → Type 0 where
  IsSent : {n : ℕ} {xs : List Step} → HandsOver k n through.Yes before xs → Restart k before None xs
  IsLaid : {n : ℕ} {xs : List Step} → HandsOver k n (through.Back why.Stopped) before xs → Restart k before (Some end.Stopped) xs
  IsBack : {n : ℕ} {xs : List Step} → HandsOver k n (through.Back why.Busy) before xs → Restart k before (Some end.Busy) xs
  NothingHeld : {xs : List Step} → Coming (DequeuesTo k taken.Empty) (λ s. DequeueSkb k s taken.Empty) before xs
      → Restart k before (Some end.Empty) xs
  QueueStopped : {xs : List Step} → Coming (DequeuesTo k taken.Stopped) (λ s. DequeueSkb k s taken.Stopped) before xs
      → Restart k before (Some end.Stopped) xs

-- so many packets are sent, one after the other
pub data SendEach (k : Setup) (before : Standing) : ℕ → List Step → Type 0 where
  SentNone : SendEach k before 0 []
  SentMore : {sent : ℕ} {xs ys : List Step} → SendEach k before sent xs → Restart k (steps_leave xs before) None ys
      → SendEach k before (sent + 1) (xs ++ ys)

-- `__qdisc_run` of net/sched/sch_generic.c: packets are sent, fewer than the quota, until a turn ends the run; or as many, and MISSED is
-- set
pub data QdiscRunLocked (k : Setup) (before : Standing) : Ran → List Step → Type 0 where
  EndsEarly : {sent : ℕ} {end_ : RunEnd} {xs ys : List Step} → sent < QUOTA → SendEach k before sent xs
      → Restart k (steps_leave xs before) (Some end_) ys
      → QdiscRunLocked k before (record { end = end_; sent = sent }) (xs ++ ys)
  ReachesQuota : {xs : List Step} (was : Bool) → SendEach k before QUOTA xs
      → (steps_leave (xs ++ SetMissed was ∷ []) before).view ≡ pass_view (steps_leave xs before).view
      → solo (steps_leave (xs ++ SetMissed was ∷ []) before).view ≡ missed_to true (solo (steps_leave xs before).view)
      → QdiscRunLocked k before (record { end = end.Quota; sent = QUOTA }) (xs ++ SetMissed was ∷ [])

-- a run, and then its end
abbrev pub RunToEnd : Setup → Standing → List Step → Type 0
RunToEnd k before xs = (ran : Ran) × Then (λ s. QdiscRunLocked k s ran) (λ s. End) before xs

-- `qdisc_run` of include/net/pkt_sched.h: the run lock is tried, and the bands are served where it is got
abbrev pub QdiscRun : Setup → Standing → List Step → Type 0
QdiscRun k before xs = Begin false xs ⊎ Then (λ s. Begin true) (RunToEnd k) before xs

-- A TRANSMIT

-- `pfifo_fast_enqueue` of net/sched/sch_generic.c: the packet is put into its band, or dropped as full
pub data PfifoFastEnqueue (k : Setup) (n : ℕ) : Sending → List Step → Type 0 where
  PutsIn : {xs : List Step} → Produce (band_in k.infos n) n (Ok tt) xs → PfifoFastEnqueue k n sending.Queued xs
  DropsFull : {full : Full} {xs : List Step} → Produce (band_in k.infos n) n (Err full) xs
      → PfifoFastEnqueue k n (sending.FullSeen full.seen) (xs ++ Settle n (fate.Full full.seen) ∷ [])

-- it is, by a seat that doesn't have the run lock, which then tries that; and by one that has it, which then serves the bands
abbrev pub EnqueueAndRun : Setup → ℕ → Sending → Standing → List Step → Type 0
EnqueueAndRun k n answer = Then (λ s. PfifoFastEnqueue k n answer) (QdiscRun k)

abbrev pub EnqueueAndRunLocked : Setup → ℕ → Sending → Standing → List Step → Type 0
EnqueueAndRunLocked k n answer = Then (λ s. PfifoFastEnqueue k n answer) (RunToEnd k)

-- after a packet that went past the bands: where the device accepted it the state is loaded, and where MISSED or DRAINING is set then, the
-- bands are served
pub data RunAfterBypass (k : Setup) (before : Standing) : Through → List Step → Type 0 where
  ServesAfter : {state : ℕ} {xs : List Step} → some_bit state ≡ true → RunToEnd k (step_leaves (LoadState state) before) xs
      → RunAfterBypass k before through.Yes (LoadState state ∷ xs)
  EndsAfter : {state : ℕ} {xs : List Step} → some_bit state ≡ false → End xs
      → RunAfterBypass k before through.Yes (LoadState state ∷ xs)
  EndsAtOnce : {reason : Why} {xs : List Step} → End xs → RunAfterBypass k before (through.Back reason) xs

-- the packet n, which is in hand, goes past the bands, and what follows it is done
abbrev pub XmitBypass : Setup → ℕ → Standing → List Step → Type 0
XmitBypass k n before xs = (through : Through) × Then
    (Coming (Directs through n (queue_in k.infos n)) (λ s. DirectXmit k.queues n (queue_in k.infos n) s through)) (λ s. RunAfterBypass k s through) before xs

-- under the run lock the state is loaded again: where MISSED or DRAINING is set the packet goes through its band, else past it
pub data BypassLocked (k : Setup) (n : ℕ) (before : Standing) : Sending → List Step → Type 0 where
  Waits : {state : ℕ} {answer : Sending} {xs : List Step} → some_bit state ≡ true
      → EnqueueAndRunLocked k n answer (step_leaves (Recheck n state) before) xs
      → BypassLocked k n before answer (Recheck n state ∷ xs)
  Passes : {state : ℕ} {xs : List Step} → some_bit state ≡ false → XmitBypass k n (step_leaves (Recheck n state) before) xs
      → BypassLocked k n before sending.Direct (Recheck n state ∷ xs)

-- It may go past the bands, since neither bit was set: it does so where the run lock is got and neither is set still.
abbrev pub TryBypass : Setup → ℕ → Sending → Standing → List Step → Type 0
TryBypass k n answer before xs =
    Then (λ s. Begin false) (EnqueueAndRun k n answer) before xs ⊎ Then (λ s. Begin true) (λ s. BypassLocked k n s answer) before xs

-- `__dev_xmit_skb` of net/core/dev.c, the part for a qdisc with `TCQ_F_NOLOCK`
pub data XmitSkb (k : Setup) (n : ℕ) (before : Standing) : Sending → List Step → Type 0 where
  IsDown : {state : ℕ} → is_set 2 state ≡ true
      → XmitSkb k n before (sending.Refused (state / 256 - 1)) (Check n state ∷ Settle n (fate.Refused (state / 256 - 1)) ∷ [])
  MayPass : {state : ℕ} {answer : Sending} {xs : List Step} → is_set 2 state ≡ false → k.bypass && not (some_bit state) ≡ true
      → TryBypass k n answer (step_leaves (Check n state) before) xs → XmitSkb k n before answer (Check n state ∷ xs)
  MayNotPass : {state : ℕ} {answer : Sending} {xs : List Step} → is_set 2 state ≡ false → k.bypass && not (some_bit state) ≡ false
      → EnqueueAndRun k n answer (step_leaves (Check n state) before) xs → XmitSkb k n before answer (Check n state ∷ xs)

-- `__dev_queue_xmit` of net/core/dev.c, of a packet whose turn it is: the turn is taken, and given back after the call
pub data QueueXmit (k : Setup) (n : ℕ) (answer : Sending) (before : Standing) : List Step → Type 0 where
  InTurn : {xs : List Step} → XmitSkb k n (steps_leave (TakeTurn n (due_word before.view n) ∷ Enter ∷ []) before) answer xs
      → QueueXmit k n answer before (TakeTurn n (due_word before.view n) ∷ Enter ∷ xs ++ Leave ∷ GiveTurn n ∷ [])

-- SOFT INTERRUPTS

-- SCHED is cleared; where the station was deactivated before that the state is loaded once more
pub data BeginSoftirq : Bool → List Step → Type 0 where
  IsActive : {first : ℕ} → is_set 2 first ≡ false → BeginSoftirq true (LoadState first ∷ ClearSched ∷ [])
  LooksAgain : {first second : ℕ} → is_set 2 first ≡ true
      → BeginSoftirq (not (is_set 2 second)) (LoadState first ∷ ClearSched ∷ LoadState second ∷ [])

-- `net_tx_action` of net/core/dev.c for one qdisc: the bands are served, unless the station is deactivated still
pub data NetTxAction (k : Setup) (before : Standing) : List Step → Type 0 where
  IsDueNow : {xs : List Step} → Then (λ _. BeginSoftirq true) (QdiscRun k) (step_leaves Enter before) xs
      → NetTxAction k before (Enter ∷ xs ++ Leave ∷ [])
  IsNotDue : {xs : List Step} → BeginSoftirq false xs → NetTxAction k before (Enter ∷ xs ++ Leave ∷ [])

-- WAKES

-- A queue is looked at: where its stop word is 1 that is exchanged for 0, and the table scheduled. The truth value says whether it was
-- opened.
pub data WakeQueue (queue : ℕ) : Bool → List Step → Type 0 where
  IsNotStopped : {found : ℕ} → found ≢ 1 → WakeQueue queue false (LookStop queue found ∷ [])
  IsOpenBefore : WakeQueue queue false (LookStop queue 1 ∷ Wake queue false ∷ [])
  IsOpened : {was : Bool} → WakeQueue queue true (LookStop queue 1 ∷ Wake queue true ∷ SetSched was ∷ [])

-- so many queues are, in ascending order; the truth value says whether one was opened
pub data WakeEach : ℕ → Bool → List Step → Type 0 where
  LooksAtNone : WakeEach 0 false []
  LooksAtNext : {queue : ℕ} {before here : Bool} {xs ys : List Step} → WakeEach queue before xs → WakeQueue queue here ys
      → WakeEach (queue + 1) (before || here) (xs ++ ys)
