-- The calls of control, each with the lists of steps that it may make from where the seat stands, the first step first. The end of a station
-- is in EndSteps.
use Rattle.std.specs.Prelude.{◌≡◌, ◌≢◌, ◌+◌, ◌-◌, ℕ, zero, suc, Bool, true, false, List, [], ◌∷◌, ◌++◌, Option, Some, None, length}
use Rattle.std.specs.Option.{option_to_list}
use Rattle.lq_device.specs.Station.{with_device, with_slot}
use Rattle.lq_model.specs.Device.{DeviceState}
use Rattle.lq_model.specs.Band.{Band, held_of}
use Rattle.lq_model.specs.Machine.{Purge}
use Rattle.lq_model.specs.declared.fate.Cause.{Cause}
use Rattle.lq_model.specs.declared.fate.Cause.TheVariants as cause
use Rattle.lq_model.specs.declared.fate.Fate.TheVariants as fate
use Rattle.lq_band_laws.specs.Three.{Three, at}
use Rattle.lq_run.specs.Steps.{End, TryRunLock}
use Rattle.lq_ring.specs.Purged.{IsBandPurged}
use Rattle.lq_ring.specs.Resized.{all_lost, having_resized}
use Rattle.lq_ring.specs.StepLists.{PurgeBand, ResizeAll}
use Rattle.lq_qdisc.specs.StepLists.{Coming, NetTxAction, Then}
use Rattle.lq_table.specs.Views.{Setup, Left}
use Rattle.lq_table.specs.Rule.{shown}
use Rattle.lq_table.specs.Moves.{is_set}
use Rattle.lq_table.specs.Step.{BeginControl, BeginPurge, ClearDeactivated, EndControl, LoadInside, LoadLock, LoadState, MoveStation, OpenXoff, ResetDraining, ResetMissed, SetDeactivated, SetStation, Settle, Standing, Step, SwapDevice, Unlock, carried_station, steps_leave}
use Rattle.lq_control.specs.Control.{IsServed}

-- LISTS

-- just these steps
abbrev pub Only : List Step → Standing → List Step → Type 0
Only steps before xs = xs ≡ steps

-- one step, with what it finds
abbrev pub Finding : {X : Type 0} → (X → Step) → Standing → List Step → Type 0
Finding {X} step before xs = (found : X) × (xs ≡ step found ∷ [])

-- WAITS

-- Looks, one after the other. Each but the last was in vain.
pub data Wait (look : Bool → List Step → Type 0) : Bool → List Step → Type 0 where
  NotYet : Wait look false []
  Again : {answer : Bool} {before last : List Step} → Wait look false before → look answer last → Wait look answer (before ++ last)

-- whether no call is inside; `synchronize_net` of net/core/dev.c, for which `dev_deactivate_many` waits, is a wait of these
pub data LookInside : Bool → List Step → Type 0 where
  CallInside : {found : ℕ} → found ≢ 0 → LookInside false (LoadInside found ∷ [])
  NoCall : LookInside true (LoadInside 0 ∷ [])

-- the run lock is tried until it is got, and the station taken out of the table's slot
pub data TakeLock : List Step → Type 0 where
  Taken : {tries : List Step} → Wait TryRunLock true tries → TakeLock (tries ++ MoveStation ∷ [])

-- `some_qdisc_is_busy` of net/sched/sch_generic.c: whether the run lock is found free, and SCHED clear after that
pub data LookClear : Bool → List Step → Type 0 where
  LockHeld : {found : ℕ} → found ≢ 0 → LookClear false (LoadLock found ∷ [])
  Scheduled : {state : ℕ} → is_set 1 state ≡ true → LookClear false (LoadLock 0 ∷ LoadState state ∷ [])
  Clear : {state : ℕ} → is_set 1 state ≡ false → LookClear true (LoadLock 0 ∷ LoadState state ∷ [])

-- SOFT INTERRUPTS

-- `net_tx_action` of net/core/dev.c, and what it leaves as it was
abbrev pub Softirq : Setup → Standing → List Step → Type 0
Softirq k = Coming IsServed (NetTxAction k)

-- it is done again and again, each time by a raised seat
pub data SoftirqEach (k : Setup) (before : Standing) : List Step → Type 0 where
  NoneYet : SoftirqEach k before []
  OneMore : {xs ys : List Step} → SoftirqEach k before xs → (steps_leave xs before).view.place.raised ≡ true
      → Softirq k (steps_leave xs before) ys → SoftirqEach k before (xs ++ ys)

-- and it comes again as long as the seat is raised
abbrev pub Drain : Setup → Standing → List Step → Type 0
Drain k before xs = SoftirqEach k before xs × ((steps_leave xs before).view.place.raised ≡ false)

-- A raised seat does its soft interrupt, for which the call of control was left, and begins that again; one that isn't looks whether the run
-- lock is free and SCHED clear, by which it learns nothing of its own call.
pub data ServeOrLook (k : Setup) (before : Standing) : Bool → List Step → Type 0 where
  Serves : (found : ℕ) {xs : List Step} → before.view.place.raised ≡ true → Softirq k before xs
      → ServeOrLook k before false (xs ++ BeginControl found ∷ [])
  Looks : {answer : Bool} {xs : List Step} → before.view.place.raised ≡ false → Coming (λ v w. w ≡ v) (λ from. LookClear answer) before xs
      → ServeOrLook k before answer xs

-- for that `dev_deactivate_many` of net/sched/sch_generic.c waits: each but the last was in vain
pub data WaitUntilClear (k : Setup) (before : Standing) : Bool → List Step → Type 0 where
  NotClear : WaitUntilClear k before false []
  OnceMore : {answer : Bool} {xs ys : List Step} → WaitUntilClear k before false xs → ServeOrLook k (steps_leave xs before) answer ys
      → WaitUntilClear k before answer (xs ++ ys)

-- PURGES

-- the packet is taken out of the requeue slot and its fate stored, if there was one
abbrev pub ResetSlot : Cause → Option ℕ → Standing → List Step → Type 0
ResetSlot cause None = Only []
ResetSlot cause (Some n) = λ before xs. xs ≡ SetStation (with_slot (carried_station before) None) ∷ Settle n (fate.Purged cause) ∷ []

-- `pfifo_fast_reset` of net/sched/sch_generic.c, at the band that a purge has come to: all packets that the band held are purged, and so many
-- they are
abbrev pub PfifoFastReset : Cause → ℕ → ℕ → Standing → List Step → Type 0
PfifoFastReset cause band count = Coming
    (λ v w. (u : Purge) (l : Left) → v.control.purge ≡ Some u → v.holder.left ≡ Some l
    → IsBandPurged band u l v w × (count ≡ length (held_of (at band l.bands))))
    (λ before. PurgeBand band cause before count)

-- `qdisc_reset` of net/sched/sch_generic.c, where this packet was in the requeue slot: that and the three bands are purged, and both bits
-- cleared
abbrev pub QdiscReset : Cause → Option ℕ → ℕ → Standing → List Step → Type 0
QdiscReset cause slot count before xs = (low mid high : ℕ) × (count ≡ length (option_to_list slot) + low + mid + high)
    × Then (ResetSlot cause slot) (Then (PfifoFastReset cause 0 low) (Then (PfifoFastReset cause 1 mid) (Then (PfifoFastReset cause 2 high)
    (Only (ResetMissed ∷ ResetDraining ∷ []))))) before xs

-- `dev_reset_queue` of net/sched/sch_generic.c: a purge begins by this step, with a load of the state, and what lies in the requeue slot and
-- in the bands is purged
abbrev pub DevResetQueue : (Three Band → ℕ → Step) → Cause → ℕ → Standing → List Step → Type 0
DevResetQueue begin cause count before xs = (bands : Three Band) × (state : ℕ)
    × Then (Only (begin bands state ∷ [])) (QdiscReset cause before.view.holder.slot count) before xs

-- ACTIVATION

-- DEACTIVATED is set, no call is inside, and under the run lock so many packets are purged
abbrev pub Deactivate : ℕ → ℕ → Standing → List Step → Type 0
Deactivate event count = Then (Finding (SetDeactivated event)) (Then (λ before. Wait LookInside true) (Then (λ before. TakeLock)
    (Then (DevResetQueue (BeginPurge event) (cause.Event event) count) (Only (MoveStation ∷ Unlock ∷ [])))))

-- `dev_deactivate_many` of net/sched/sch_generic.c: then the run lock is free, and SCHED clear
abbrev pub DevDeactivateMany : Setup → ℕ → ℕ → Standing → List Step → Type 0
DevDeactivateMany k event count = Then (Deactivate event count) (λ before. WaitUntilClear k before true)

-- a call that is only that
abbrev pub DevDeactivate : Setup → ℕ → ℕ → Standing → List Step → Type 0
DevDeactivate k event count = Then (DevDeactivateMany k event count) (Finding EndControl)

-- `transition_one_qdisc` of net/sched/sch_generic.c: DEACTIVATED is cleared; and the call ends
abbrev pub Reactivate : Standing → List Step → Type 0
Reactivate = Then (Only (ClearDeactivated ∷ [])) (Finding EndControl)

-- a call that is only that, for `dev_activate` of net/sched/sch_generic.c
abbrev pub DevActivate : Standing → List Step → Type 0
DevActivate = Then (Finding BeginControl) Reactivate

-- RESIZES

-- `ptr_ring_resize_multiple` of include/linux/ptr_ring.h: each band keeps the first packets of those that it held, and so many are
-- dropped
abbrev pub ResizeRings : ℕ → ℕ → ℕ → Standing → List Step → Type 0
ResizeRings len event count before xs = (held : ℕ → List ℕ) × (count ≡ length (all_lost len held))
    × Coming (λ v w. w ≡ having_resized len event (all_lost len held) v) (λ before. ResizeAll len event held) before xs

-- a live resize: `pfifo_fast_change_tx_queue_len` of net/sched/sch_generic.c under the run lock
abbrev pub ResizeLive : ℕ → ℕ → ℕ → Standing → List Step → Type 0
ResizeLive event len count = Then (Finding BeginControl) (Then (λ before. TakeLock) (Then (ResizeRings len event count) (λ before. End)))

-- the empty rings of a station that was purged: no packet is dropped
abbrev pub Relength : ℕ → ℕ → Standing → List Step → Type 0
Relength event len = Then (λ before. TakeLock) (Then (ResizeRings len event 0) (Only (MoveStation ∷ Unlock ∷ [])))

-- `dev_qdisc_change_tx_queue_len` of net/sched/sch_generic.c
abbrev pub ChangeTxQueueLen : Setup → ℕ → ℕ → ℕ → Standing → List Step → Type 0
ChangeTxQueueLen k event len count = Then (DevDeactivateMany k event count) (Then (Relength event len) Reactivate)

-- SWAPS

-- the stop words of so many queues after the first are stored as open, in ascending order
abbrev pub open_steps : ℕ → List Step
open_steps zero = []
open_steps (suc more) = open_steps more ++ OpenXoff (suc more) ∷ []

-- Under the run lock the station gets this unit and its device: a driver's open, with `netif_tx_start_all_queues` of
-- include/linux/netdevice.h. The device that goes is the one that came with the latest unit, and has served the station.
abbrev pub ChangeDevice : Setup → ℕ → DeviceState → DeviceState → Standing → List Step → Type 0
ChangeDevice k unit came went = Then (λ before. TakeLock) (λ before xs. (went ≡ before.view.holder.station.device)
    × (xs ≡ SetStation (with_device (shown before.view.holder) unit came) ∷ SwapDevice ∷ open_steps (k.queues - 1) ++ MoveStation ∷ Unlock ∷ []))

-- a swap of the device, while the station is deactivated; so many packets are purged
abbrev pub SwapAt : Setup → ℕ → ℕ → DeviceState → DeviceState → Standing → List Step → Type 0
SwapAt k event unit came went before xs = (count : ℕ)
    × Then (DevDeactivateMany k event count) (Then (ChangeDevice k unit came went) Reactivate) before xs
