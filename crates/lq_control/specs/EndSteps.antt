-- The end of a station, by the lists of steps that its calls may make from where the seat stands, the first step first.
use Rattle.std.specs.Prelude.{◌≡◌, ◌≢◌, ◌⊎◌, ◌*◌, ◌+◌, ◌<◌, ◌≤◌, ℕ, zero, suc, Bool, true, false, not, ◌&&◌, ◌==◌, List, [], ◌∷◌, ◌++◌, length, slice_set, is_some}
use Rattle.lq_model.specs.Plan.{owner_in, rank_in, station_in}
use Rattle.lq_model.specs.declared.fate.Cause.TheVariants as cause
use Rattle.lq_qdisc.specs.Sends.{came_as, trail_with}
use Rattle.lq_run.specs.Steps.{End}
use Rattle.lq_qdisc.specs.StepLists.{Coming, QueueXmit, Then, WakeEach}
use Rattle.lq_qdisc.specs.declared.answers.Sending.{Sending}
use Rattle.lq_table.specs.Views.{Setup}
use Rattle.lq_table.specs.Moves.{is_set}
use Rattle.lq_table.specs.Step.{BeginControl, BeginHungPurge, EndControl, LoadInside, LoadLock, LoadState, LoadTurn, LoadXoff, Standing, Step, step_leaves, steps_leave}
use Rattle.lq_control.specs.Control.{IsServed}
use Rattle.lq_control.specs.Finish.{AreAllDone, IsSent, PurgesHung}
use Rattle.lq_control.specs.Steps.{DevResetQueue, Drain, Finding, LookInside, Only, TakeLock, Wait}
use Rattle.lq_control.specs.declared.finishes.Seen.{Seen}
use Rattle.lq_control.specs.declared.finishes.Seen.TheVariants as seen

-- WHAT IS LEFT

-- a packet in its turn: what the seat then knows of turns and trail
abbrev pub Transmit : Setup → ℕ → Sending → Standing → List Step → Type 0
Transmit k n answer = Coming
    (λ v w. (is_some (came_as k.infos n answer) ≡ true) × (w.turns ≡ slice_set v.turns (owner_in k.infos n) (2 * rank_in k.infos n + 2))
    × (w.trail ≡ trail_with (came_as k.infos n answer) v))
    (QueueXmit k n answer)

-- A packet of another station is passed over; else the turn word of its owner is loaded. Where that is at most twice the packet's rank the
-- packet was left: it is transmitted, and soft interrupts are done.
pub data SendLeft (k : Setup) (n : ℕ) (before : Standing) : List Step → Type 0 where
  IsElsewhere : station_in k.infos n ≢ k.station → SendLeft k n before []
  WasSent : {turn : ℕ} → station_in k.infos n ≡ k.station → 2 * rank_in k.infos n < turn
      → SendLeft k n before (LoadTurn (owner_in k.infos n) turn ∷ [])
  IsLeft : {turn : ℕ} {answer : Sending} {xs : List Step} → station_in k.infos n ≡ k.station → turn ≤ 2 * rank_in k.infos n
      → Then (Transmit k n answer) (Drain k) (step_leaves (LoadTurn (owner_in k.infos n) turn) before) xs
      → SendLeft k n before (LoadTurn (owner_in k.infos n) turn ∷ xs)

-- the first so many packets, in ascending order
abbrev pub SendLeftBelow : Setup → ℕ → Standing → List Step → Type 0
SendLeftBelow k zero = Only []
SendLeftBelow k (suc n) = Then (SendLeftBelow k n) (SendLeft k n)

-- all packets are, in ascending order: so each of the station was transmitted, and where each was before nothing changes
abbrev pub SendAllLeft : Setup → Standing → List Step → Type 0
SendAllLeft k = Coming (λ v w. IsSent k v w × AreAllDone k w.turns × (AreAllDone k v.turns → w ≡ v)) (SendLeftBelow k (length k.infos))

-- A LOOK AT THE WORDS

-- the stop words of the first so many queues are loaded, in ascending order, and each is this one
abbrev pub xoff_steps : ℕ → ℕ → List Step
xoff_steps word zero = []
xoff_steps word (suc queue) = xoff_steps word queue ++ LoadXoff queue word ∷ []

-- whether each of so many queues has this stop word: they are loaded up to the first that is another
pub data LoadStops (queues word : ℕ) : Bool → List Step → Type 0 where
  EachIs : LoadStops queues word true (xoff_steps word queues)
  OtherIs : {queue found : ℕ} → queue < queues → found ≢ word
      → LoadStops queues word false (xoff_steps word queue ++ LoadXoff queue found ∷ [])

-- its words are quiet so far: each queue is open, the run lock was free, and SCHED clear
abbrev pub are_quiet : Bool → ℕ → ℕ → Bool
are_quiet are_open lock state = are_open && ((lock == 0) && not (is_set 1 state))

-- The run lock is loaded, and then the state. Of an active station the stop words are: whether all are hung, and where they aren't, whether
-- all are open. Where its words are quiet so far the calls inside tell whether it is at its end.
pub data Look (queues : ℕ) : Seen → List Step → Type 0 where
  Deactivated : {lock state : ℕ} → is_set 2 state ≡ true → Look queues seen.Ended (LoadLock lock ∷ LoadState state ∷ [])
  AllHung : {lock state : ℕ} {stops : List Step} → is_set 2 state ≡ false → LoadStops queues 2 true stops
      → Look queues seen.Hung (LoadLock lock ∷ LoadState state ∷ [] ++ stops)
  NotQuiet : {lock state : ℕ} {are_open : Bool} {stops opens : List Step}
      → is_set 2 state ≡ false → LoadStops queues 2 false stops → LoadStops queues 0 are_open opens → are_quiet are_open lock state ≡ false
      → Look queues seen.Going (LoadLock lock ∷ LoadState state ∷ [] ++ stops ++ opens)
  NotOver : {lock state : ℕ} {are_open : Bool} {stops opens inside : List Step}
      → is_set 2 state ≡ false → LoadStops queues 2 false stops → LoadStops queues 0 are_open opens → are_quiet are_open lock state ≡ true
      → LookInside false inside → Look queues seen.Going (LoadLock lock ∷ LoadState state ∷ [] ++ stops ++ opens ++ inside)
  Over : {lock state : ℕ} {are_open : Bool} {stops opens inside : List Step}
      → is_set 2 state ≡ false → LoadStops queues 2 false stops → LoadStops queues 0 are_open opens → are_quiet are_open lock state ≡ true
      → LookInside true inside → Look queues seen.Ended (LoadLock lock ∷ LoadState state ∷ [] ++ stops ++ opens ++ inside)

-- SERVED TO THE END

-- A look finds the station going on, the call of control is left, the queues are woken, and soft interrupts are done; and so on.
pub data ServeEach (k : Setup) (before : Standing) : List Step → Type 0 where
  ServedNone : ServeEach k before []
  ServedMore : {opened : Bool} {xs ys : List Step} → ServeEach k before xs
      → Then (Finding BeginControl) (Then (λ s. Look k.queues seen.Going) (Then (Finding EndControl) (Then (λ s. WakeEach k.queues opened) (Drain k))))
      (steps_leave xs before) ys
      → ServeEach k before (xs ++ ys)

-- up to a look that finds it otherwise; no event of control or the first sender came
abbrev pub ServeToEnd : Setup → Seen → Standing → List Step → Type 0
ServeToEnd k answer = Coming IsServed (Then (ServeEach k) (Then (Finding BeginControl) (λ before. Look k.queues answer)))

-- THE PURGE OF A HUNG STATION

-- whether no call is found inside, and SCHED clear after that
pub data LookLeft : Bool → List Step → Type 0 where
  StillInside : {inside : List Step} → LookInside false inside → LookLeft false inside
  StillScheduled : {state : ℕ} → is_set 1 state ≡ true → LookLeft false (LoadInside 0 ∷ LoadState state ∷ [])
  AllLeft : {state : ℕ} → is_set 1 state ≡ false → LookLeft true (LoadInside 0 ∷ LoadState state ∷ [])

-- Under the run lock, with the unit of the station that came with that as the cause: so many packets are purged, which are all that were
-- held.
abbrev pub PurgeHung : ℕ → Standing → List Step → Type 0
PurgeHung count = Coming (PurgesHung count) (Then (λ before. Wait LookLeft true) (Then (λ before. TakeLock)
    (Then (λ before. DevResetQueue BeginHungPurge (cause.Hung before.view.holder.station.unit) count before) (λ before. End))))

-- THE CALL

-- What is left is sent. The station is served until it hangs, and purged, and the number of packets purged is answered; or until it is
-- deactivated or its words are quiet, the call of control is left, and 0 is answered.
abbrev pub EndStation : Setup → ℕ → Standing → List Step → Type 0
EndStation k count = Then (SendAllLeft k) (λ before xs. Then (ServeToEnd k seen.Hung) (PurgeHung count) before xs
    ⊎ ((count ≡ 0) × Then (ServeToEnd k seen.Ended) (Finding EndControl) before xs))
