-- What the calls come to, as relations of views alone: what a seat that has the table alone is shown from.
use Rattle.lq_model.specs.Account.{Direct, Full, Join, Wake}
use Rattle.lq_run.specs.Runs.{ended}
use Rattle.lq_ring.specs.Put.{dropping_full, putting}
use Rattle.lq_table.specs.Locks.{locked_to}
use Rattle.lq_table.specs.Producers.{SeesEnd}
use Rattle.lq_model.specs.Plan.{queue_in, band_in, owner_in, rank_in}
use Rattle.lq_model.specs.declared.fate.Info.{Info}
use Rattle.lq_model.specs.declared.state.TheConstants.{QUOTA}
use Rattle.lq_qdisc.specs.Calls.{Dequeues, SeesOneQueue}
use Rattle.lq_qdisc.specs.Direct.{Accepts, Directs, IsBusyAt, LaysAside}
use Rattle.lq_qdisc.specs.declared.answers.Ran.{Ran}
use Rattle.lq_qdisc.specs.declared.answers.RunEnd.{RunEnd}
use Rattle.lq_qdisc.specs.declared.answers.RunEnd.TheVariants as end
use Rattle.lq_qdisc.specs.declared.answers.Sending.{Sending}
use Rattle.lq_qdisc.specs.declared.answers.Sending.TheVariants as sending
use Rattle.lq_qdisc.specs.declared.answers.Taken.TheVariants as taken
use Rattle.lq_qdisc.specs.declared.answers.Through.{Through}
use Rattle.lq_qdisc.specs.declared.answers.Through.TheVariants as through
use Rattle.lq_table.specs.Sees.{IsAccounts, IsSole, account_of, solo, heard}
use Rattle.lq_table.specs.Inside.{enter_view}
use Rattle.lq_table.specs.Fates.{settle_view_owed}
use Rattle.lq_table.specs.Turns.{take_turn_view}
use Rattle.lq_table.specs.States.{SeesState, SeesDown, some_bit, load_state_view, recheck_view_direct, check_view_refused as refused, missed_to, clear_sched_alone, set_sched_alone, set_sched_view}
use Rattle.lq_table.specs.Stops.{wake_view}
use Rattle.lq_table.specs.Moves.{pass_view, is_set}
use Rattle.lq_table.specs.Views.{View}
use Rattle.std.specs.Prelude.{◌≡◌, ◌≢◌, ◌||◌, slice_index, ℕ, zero, suc, Bool, true, false, List, ◌⊎◌, ◌↔◌, ◌≤◌, ◌<◌, ◌+◌, ◌*◌, not, ◌&&◌, is_some}

-- a step on the run lock: no event came, and no fate was stored
pub record IsCalm (old new : View) : Type 0 where
  pub share : new.share ≡ old.share
  pub state : new.whole.state ≡ old.whole.state
  pub settled : new.settled ≡ old.settled

-- the run lock was got
pub record GetsLock (old new : View) : Type 0 where
  pub calm : IsCalm old new
  pub sole : IsSole old → (old.whole.qdisc.locked ≡ false) × (solo new ≡ locked_to true (solo old)) × IsAccounts new

-- it wasn't: it was found held, and MISSED is set by this call or was before
pub record Misses (old new : View) : Type 0 where
  pub calm : IsCalm old new
  pub sole : IsSole old → (old.whole.qdisc.locked ≡ true) × (solo new ≡ locked_to true (missed_to true (solo old)))

-- it was released
pub record IsLockReleased (old new : View) : Type 0 where
  pub calm : IsCalm old new
  pub sole : IsSole old → solo new ≡ ended (solo old)

-- the packet was put into its band, or dropped as full
abbrev pub Enqueues : ℕ → ℕ → Sending → View → View → Type 0
Enqueues n band sending.Queued old new = (new ≡ putting band n old) × SeesEnd band old 0 × (solo new ≡ heard (Join n band) (solo old))
Enqueues n band (sending.FullSeen seen) old new = (new ≡ settle_view_owed (dropping_full n seen old)) × SeesEnd band old (seen + 1) × (solo new ≡ heard (Full n seen) (solo old))
Enqueues n band _ old new = ⊥

-- A packet was dequeued, and then it was handed to the device with this result.
pub record Hands (handed : ℕ → ℕ → View → View → Type 0) (infos : List Info) (old new : View) : Type 0 where
  pub packet : ℕ
  pub between : View
  pub dequeued : Dequeues (taken.Packet packet) infos old between
  pub one : SeesOneQueue (taken.Packet packet) old
  pub same : between.share ≡ old.share
  pub is : handed packet (queue_in infos packet) between new
  pub share : new.share ≡ old.share

-- so many packets were sent, one after the other
abbrev pub Sends : ℕ → List Info → View → View → Type 0
Sends zero infos old new = new ≡ old
Sends (suc sent) infos old new = (last : View) × Sends sent infos old last × Hands Accepts infos last new

-- What the last turn of a run did: a dequeue found nothing, or a queue that is stopped; or the packet that was dequeued
-- was laid into the requeue slot. After the last packet of the quota MISSED is set.
abbrev pub LastTurn : RunEnd → List Info → View → View → Type 0
LastTurn end.Empty infos old new = Dequeues taken.Empty infos old new × SeesOneQueue taken.Empty old
LastTurn end.Quota infos old new = (new ≡ pass_view old) × (solo new ≡ missed_to true (solo old))
LastTurn end.Stopped infos old new = (Dequeues taken.Stopped infos old new × SeesOneQueue taken.Stopped old) ⊎ Hands LaysAside infos old new
LastTurn end.Busy infos old new = Hands IsBusyAt infos old new

-- A run sent so many packets, at most as many as its quota, and came to this end: by the quota exactly where it sent as
-- many.
pub record Runs (infos : List Info) (ran : Ran) (old new : View) : Type 0 where
  pub last : View
  pub sent : Sends ran.sent infos old last
  pub share : last.share ≡ old.share
  pub ends : LastTurn ran.end infos last new
  pub within : ran.sent ≤ QUOTA
  pub quota : (ran.end ≡ end.Quota) ↔ (ran.sent ≡ QUOTA)

-- a run came to its end, and the run lock was released
pub record RunsToEnd (infos : List Info) (old new : View) : Type 0 where
  pub ran : Ran
  pub last : View
  pub runs : Runs infos ran old last
  pub share : last.share ≡ old.share
  pub ended : IsLockReleased last new

-- the run lock was tried, and where it was got the bands were served
abbrev pub Attempts : List Info → View → View → Type 0
Attempts infos old new = Misses old new ⊎ ((got : View) × GetsLock old got × RunsToEnd infos got new)

-- It was put so by a seat that doesn't have the run lock, which then tried that.
pub record GoesThrough (infos : List Info) (n : ℕ) (answer : Sending) (old new : View) : Type 0 where
  pub put : View
  pub enqueued : Enqueues n (band_in infos n) answer old put
  pub attempted : Attempts infos put new

-- It was put so under the run lock, since MISSED or DRAINING was loaded there.
pub record GoesThroughHeld (infos : List Info) (n : ℕ) (answer : Sending) (old new : View) : Type 0 where
  pub state : ℕ
  pub waits : some_bit state ≡ true
  pub sees : IsSole old → SeesState old state
  pub put : View
  pub enqueued : Enqueues n (band_in infos n) answer (load_state_view state old) put
  pub served : RunsToEnd infos put new

-- What follows a packet that went past the bands: where the device accepted it the state is loaded, and where MISSED or
-- DRAINING is set then, the bands are served.
abbrev pub FollowsDirect : Through → List Info → View → View → Type 0
FollowsDirect through.Yes infos old new = (state : ℕ) × (IsSole old → SeesState old state) × (solo (load_state_view state old) ≡ solo old)
    × (((some_bit state ≡ true) × RunsToEnd infos (load_state_view state old) new) ⊎ ((some_bit state ≡ false) × IsLockReleased (load_state_view state old) new))
FollowsDirect (through.Back reason) infos old new = IsLockReleased old new

-- It went past the bands: the state was loaded under the run lock with MISSED and DRAINING clear.
pub record GoesPast (infos : List Info) (n : ℕ) (old new : View) : Type 0 where
  pub state : ℕ
  pub clear : some_bit state ≡ false
  pub sees : IsSole old → SeesState old state
  pub step : solo (recheck_view_direct n state old) ≡ heard (Direct n) (solo old)
  pub handed : Through
  pub after : View
  pub direct : Directs handed n (queue_in infos n) (recheck_view_direct n state old) after
  pub follows : FollowsDirect handed infos after new

-- It may go past the bands, since neither bit was set: it does so where the run lock is got and neither is set still.
abbrev pub TriesToPass : List Info → ℕ → Sending → View → View → Type 0
TriesToPass infos n answer old new =
    ((missed : View) × Misses old missed × GoesThrough infos n answer missed new)
    ⊎ ((got : View) × GetsLock old got × (GoesThroughHeld infos n answer got new ⊎ ((answer ≡ sending.Direct) × GoesPast infos n got new)))

-- the seat's view as the transmit of the packet n begins, whose turn it has
abbrev pub transmitting : List Info → ℕ → View → View
transmitting infos n v = enter_view (take_turn_view n (owner_in infos n) (rank_in infos n) v)

-- The station is deactivated by the event: the packet is refused, and that is its fate.
abbrev pub IsRefused : ℕ → ℕ → ℕ → View → View → Type 0
IsRefused n event state old new = (is_set 2 state ≡ true) × ((bits : ℕ) × (bits < 16) × (state ≡ bits + 256 * (event + 1))) × (new ≡ settle_view_owed (refused n event state old))

-- what a transmit does with the packet between its two steps on the calls inside
pub record Goes (infos : List Info) (bypass : Bool) (n : ℕ) (answer : Sending) (old new : View) : Type 0 where
  pub state : ℕ
  pub sees : IsSole old → SeesState old state
  pub first : old.control.first ≡ true → SeesDown old state
  pub refused : is_set 2 state ≡ true → (event : ℕ) × (answer ≡ sending.Refused event) × IsRefused n event state old new
  pub through : is_set 2 state ≡ false → bypass && not (some_bit state) ≡ false → GoesThrough infos n answer (load_state_view state old) new
  pub past : is_set 2 state ≡ false → bypass && not (some_bit state) ≡ true → TriesToPass infos n answer (load_state_view state old) new

-- SCHED was cleared; what the loads of the state showed says whether the bands are served
pub record IsDue (due : Bool) (old new : View) : Type 0 where
  pub first : ℕ
  pub sees : IsSole old → SeesState old first
  pub step : solo (pass_view (load_state_view first old)) ≡ clear_sched_alone (solo old)
  pub active : is_set 2 first ≡ false → (due ≡ true) × (new ≡ pass_view (load_state_view first old))
  pub deactivated : is_set 2 first ≡ true → (second : ℕ) × (due ≡ not (is_set 2 second)) × (new ≡ load_state_view second (pass_view (load_state_view first old))) × (solo new ≡ clear_sched_alone (solo old))
      × (IsSole old → is_set 2 second ≡ is_some (account_of old).down)

-- A soft interrupt, between its two steps on the calls inside: the bands are served, unless the station is deactivated still.
pub record Interrupts (infos : List Info) (old new : View) : Type 0 where
  pub due : Bool
  pub cleared : View
  pub begins : IsDue due old cleared
  pub serves : due ≡ true → Attempts infos cleared new
  pub leaves : due ≡ false → new ≡ cleared

-- A queue was looked at: it was stopped and is opened, and the table scheduled, or it wasn't. The truth value says whether it was opened.
abbrev pub WakesAt : ℕ → Bool → View → View → Type 0
WakesAt queue true old new = (was : Bool) × (new ≡ set_sched_view was (wake_view queue old)) × (solo new ≡ set_sched_alone was (heard (Wake queue) (solo old)))
    × (IsSole old → was ≡ old.whole.qdisc.sched) × (IsSole old → slice_index (account_of old).stops queue ≡ 1)
WakesAt queue false old new = (new ≡ old) × (IsSole old → slice_index (account_of old).stops queue ≢ 1)

-- those of the first so many queues; the truth value says whether one was opened
abbrev pub WakesFirst : ℕ → Bool → View → View → Type 0
WakesFirst zero opened old new = (opened ≡ false) × (new ≡ old)
WakesFirst (suc queue) opened old new =
    (between : View) × (before : Bool) × (here : Bool) × WakesFirst queue before old between × WakesAt queue here between new × (opened ≡ (before || here))
