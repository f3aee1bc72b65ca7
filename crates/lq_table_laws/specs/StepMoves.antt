-- Each kind of step of a seat: what it does on its word and to the station, where it may be made, and which moves of the machine it is.
use Rattle.std.specs.Prelude.{◌≡◌, ◌≢◌, ◌⊎◌, ◌<◌, ◌==◌, ◌+◌, ℕ, Bool, true, false, not, ◌&&◌, if◌then◌else◌, bit_and, bit_or, Some, None, length}
use Rattle.lq_band_laws.specs.HalfResized.{IsRefilled}
use Rattle.lq_band_laws.specs.Three.{at}
use Rattle.lq_log.specs.Made.{Made, load, store, swap, exchange, set, clear, rise, fall, cut, join, ◌⊳◌}
use Rattle.lq_model.specs.Control.{is_control}
use Rattle.lq_model.specs.Plan.{owner_in}
use Rattle.lq_model.specs.declared.fate.Fate.TheVariants as fate
use Rattle.lq_model.specs.declared.machine.Packet.{Packet}
use Rattle.lq_model.specs.declared.machine.Phase.TheVariants.{Purged}
use Rattle.lq_model.specs.declared.machine.Position.{Position}
use Rattle.lq_model.specs.declared.machine.Position.TheVariants as position
use Rattle.lq_run_core.specs.Progress.{Course, control_cost, start_cost}
use Rattle.lq_table.specs.Controls.{MayDeactivate}
use Rattle.lq_table.specs.Fates.{MaySend}
use Rattle.lq_table.specs.Inside.{MayEnter, bringing_packet, call_of}
use Rattle.lq_table.specs.Locks.{try_lock_at}
use Rattle.lq_table.specs.Moves.{at_rest, is_set}
use Rattle.lq_table.specs.Purges.{HasPassedBands}
use Rattle.lq_table.specs.States.{clear_draining_at, clear_missed_at, clear_sched_at, miss_at, set_draining_at, set_missed_at, set_sched_at}
use Rattle.lq_table.specs.Step.{Standing, Step, brought_packet, carried_station, due_word, purge_of, resize_of, step_leaves}
use Rattle.lq_table.specs.Step.{LookLock, TryLock, Unlock, LoadState, Check, Recheck, LookMissed, Miss, SetSched, ClearSched, ClearMissed, ClearDraining, SetMissed, SetDraining, Requeue, LoadXoff, StoreXoff, Wake, Enter, Leave, LoadInside, TakeTurn, GiveTurn, TakeProducer, GiveProducer, SetProducer, ProducerSlot, StoreSlot, HeadSlot, ZeroSlot, Settle, BeginPurge, BeginHungPurge, PurgeSlot, ResetMissed, ResetDraining, BeginResize, ClearSlot, FillSlot, StoreSize, BeginControl, EndControl, SetDeactivated, ClearDeactivated, SwapDevice, OpenXoff}
use Rattle.lq_table.specs.Stops.{load_xoff_at, load_xoff_queue, stop_value}
use Rattle.lq_table.specs.Views.{Setup, machine_packet}
use Rattle.lq_table_laws.specs.Rings.{BeginsResizeOf, IsAtPurge, IsAtSwap, IsEmptyingAt, IsInResize, IsLookingAt, IsPurgingAt, IsPuttingAt}
use Rattle.lq_table_laws.specs.Stepped.{GivesStation, KeepsStation, KeepsWord, Remains, Stepped, TakesStation, found, looks_in_call, none_sent, of_control, one_sent, tries_in_call}

-- THE WORD AND THE STATION

module _ {k : Setup} {place : ℕ} where
  -- The step was made on the word of its log, found there what that says, and left that. How much a word rose or fell, the rule tells.
  abbrev pub IsLogged : Made → Stepped k place → Type 0
  IsLogged (load word was) t = (place ≡ word) × (found t ≡ was) × KeepsWord t
  IsLogged (store word new) t = (place ≡ word) × (t.stored ≡ new)
  IsLogged (swap word new was) t = (place ≡ word) × (found t ≡ was) × (t.stored ≡ new)
  IsLogged (exchange word old new true) t = (place ≡ word) × (found t ≡ old) × (t.stored ≡ new)
  IsLogged (exchange word old new false) t = (place ≡ word) × (found t ≢ old) × KeepsWord t
  IsLogged (set word bits was) t = (place ≡ word) × (was ≡ is_set bits (found t)) × (t.stored ≡ bit_or (found t) bits)
  IsLogged (clear word rest) t = (place ≡ word) × (t.stored ≡ bit_and (found t) rest)
  IsLogged (rise word more) t = place ≡ word
  IsLogged (fall word less) t = place ≡ word
  IsLogged cut t = ⊥
  IsLogged (join steps) t = ⊥

  -- who gets the run lock takes the station, and who releases it gives that back; no other step moves it
  abbrev pub HandlesStation : Step → Stepped k place → Type 0
  HandlesStation (TryLock (Some d)) t = TakesStation d t
  HandlesStation Unlock t = GivesStation t
  HandlesStation _ t = KeepsStation t

-- WHERE IT MAY BE MADE, AND WHICH MOVES IT IS THERE

pub record Terms : Type 1 where
  pub may : Type 0
  pub course : Course

abbrev pub is_moves : Course → Type 0 → Terms
is_moves course may = record { may = may; course = course }

-- it is one move, which costs nothing
abbrev pub is_move : Type 0 → Terms
is_move may = is_moves (none_sent 1 0) may

-- it is one of control
abbrev pub is_control_move : Type 0 → Terms
is_control_move may = is_moves (of_control 1 control_cost) may

-- it is none
abbrev pub is_no_move : Type 0 → Terms
is_no_move may = is_moves (none_sent 0 0) may

-- a look, which is one move where this is so, and else none: then the seat stays where it is
abbrev pub is_look : Bool → Step → Standing → Terms
is_look moves x s = is_moves (if moves then none_sent 1 0 else none_sent 0 0) (moves ≡ false → Remains s.view (step_leaves x s).view)

abbrev pub stand : Standing → Position
stand s = s.view.place.position

abbrev pub terms : Setup → Step → Standing → Terms
-- the run lock
terms k (LookLock seen) s = is_look (not (seen == 0) && tries_in_call (stand s)) (LookLock seen) s
terms k (TryLock None) s = is_look (tries_in_call (stand s)) (TryLock None) s
terms k (TryLock (Some d)) s =
    is_moves (if is_control (stand s) then of_control 1 control_cost else none_sent 1 0) (try_lock_at (stand s) ≡ true)
terms k Unlock s = is_moves (if is_control (stand s) then of_control 1 control_cost else none_sent 1 0)
    ((stand s ≡ position.Unlock) ⊎ ((stand s ≡ position.Control true) × (s.view.control.purge ≡ None)))
-- the state
terms k (LoadState seen) s = is_look (looks_in_call (stand s)) (LoadState seen) s
terms k (Check n seen) s = is_move (looks_in_call (stand s) ≡ true)
terms k (Recheck n seen) s = is_move (looks_in_call (stand s) ≡ true)
terms k (LookMissed seen) s = is_look (is_set 4 seen && miss_at (stand s)) (LookMissed seen) s
terms k (Miss was) s = is_move (miss_at (stand s) ≡ true)
terms k (SetSched was) s = is_move (set_sched_at (stand s) ≡ true)
terms k ClearSched s = is_move (clear_sched_at (stand s) ≡ true)
terms k ClearMissed s = is_move (clear_missed_at (stand s) ≡ true)
terms k ClearDraining s = is_move (clear_draining_at (stand s) ≡ true)
terms k (SetMissed was) s = is_move (set_missed_at (stand s) ≡ true)
terms k (SetDraining was) s = is_move (set_draining_at (stand s) ≡ true)
-- the busy answer, and the set of MISSED
terms k (Requeue was) s = is_moves (none_sent 2 19) ((p : Packet) × (direct : Bool) × (stand s ≡ position.Xmit p direct))
-- the stop words
terms k (LoadXoff queue seen) s = is_moves (if load_xoff_at (stand s) && not (is_control (stand s)) then none_sent 1 0 else none_sent 0 0)
    (load_xoff_queue k.infos s.view.holder.slot (stand s) queue ≡ queue)
terms k (StoreXoff queue value) s =
    is_move ((hung direct : Bool) × (stand s ≡ position.StoreXoff queue hung direct) × (value ≡ stop_value hung) × (queue < k.queues))
terms k (Wake queue true) s = is_moves (none_sent 2 18) ((stand s ≡ position.Idle) × (queue < k.queues))
-- the calls inside: the start of the call, and the count; control ends its own call before these
terms k Enter s = let cost = start_cost (call_of (bringing_packet s.view)) in
    is_moves (if is_control (stand s) then of_control 3 (18 + cost) else none_sent 2 cost) ((at_rest (stand s) ≡ true) × MayEnter s.view)
terms k Leave s = is_move (stand s ≡ position.Leave)
terms k (LoadInside seen) s = is_control_move (is_control (stand s) ≡ true)
-- the turn words
terms k (TakeTurn n seen) s = is_no_move (seen ≡ due_word s.view n → owner_in k.infos n < k.senders)
terms k (GiveTurn n) s = is_no_move (owner_in k.infos n < k.senders)
-- the rings
terms k (TakeProducer band seen true) s = is_no_move (band < 3)
terms k (GiveProducer band index) s = is_no_move (band < 3)
terms k (ProducerSlot band seen) s = is_moves (if seen == 0 then none_sent 0 0 else none_sent 1 0)
    (seen ≢ 0 → IsPuttingAt k band (brought_packet s.view) s.view)
terms k (StoreSlot band n) s = is_move (IsPuttingAt k band n s.view × ((at band s.view.locks).room ≡ true))
terms k (HeadSlot band seen) s = is_move (IsLookingAt k band s.view)
terms k (ZeroSlot band i) s = is_no_move (IsEmptyingAt k band i s.view)
-- a fate
terms k (Settle n (fate.Sent unit serial)) s =
    is_moves (one_sent (machine_packet k.infos n)) ((n < length k.infos) × MaySend n (fate.Sent unit serial) (carried_station s) s.view)
terms k (Settle n (fate.Shrunk event)) s = is_no_move ((n < length k.infos) × IsInResize (resize_of s.view) s.view)
terms k (Settle n fate) s = is_no_move (n < length k.infos)
-- a purge
terms k (BeginPurge event bands seen) s = is_control_move (IsAtPurge s.view)
terms k (BeginHungPurge bands seen) s = is_control_move (IsAtPurge s.view)
terms k (PurgeSlot band seen) s = is_control_move (IsPurgingAt k band (purge_of s.view) s.view)
terms k ResetMissed s = is_control_move ((stand s ≡ position.Control true) × HasPassedBands s.view)
terms k ResetDraining s = is_control_move ((stand s ≡ position.Control true) × HasPassedBands s.view)
-- a resize, which is one move at its beginning
terms k (BeginResize len event held slots seen) s = is_control_move ((limit : ℕ) × BeginsResizeOf limit held slots s.view)
terms k (ClearSlot band i seen) s = is_no_move ((band < 3) × (i < k.max_len) × IsInResize (resize_of s.view) s.view)
terms k (FillSlot band i n) s = is_no_move ((band < 3) × (i < k.max_len) × IsInResize (resize_of s.view) s.view)
terms k (SetProducer band index) s = is_no_move (band < 3)
terms k (StoreSize len) s = let r = resize_of s.view in
    is_no_move (IsInResize r s.view × (len ≡ r.len) × ((b : ℕ) → b < 3 → IsRefilled (at b r.works).slots (at b r.works).kept r.len))
-- control
terms k (BeginControl seen) s = is_moves (none_sent 1 1) (stand s ≡ position.Idle)
terms k (EndControl seen) s = is_control_move (stand s ≡ position.Control false)
terms k (SetDeactivated event was) s = is_moves (if is_control (stand s) then of_control 1 control_cost else of_control 2 19)
    ((at_rest (stand s) ≡ true) × MayDeactivate s.view)
terms k ClearDeactivated s =
    is_control_move ((stand s ≡ position.Control false) × (s.view.control.phase ≡ Purged) × (s.view.control.purge ≡ None))
terms k SwapDevice s = is_control_move ((0 < k.queues) × IsAtSwap s.view)
terms k (OpenXoff queue) s = is_control_move ((queue < k.queues) × IsAtSwap s.view)
-- each other is a load, or an exchange that fails, by which the seat stays where it is, or no step on a word
terms k _ s = is_no_move (Unit {0})

-- THE STEP

-- A seat that has this made such a step: where it may be made, as its log has it, and the seat knows what the step leaves.
pub record IsMadeAs {k : Setup} {place : ℕ} (x : Step) (s : Standing) (t : Stepped k place) : Type 0 where
  pub knew : t.before ≡ s.view
  pub may : (terms k x s).may
  pub made : Made
  pub appends : (step_leaves x s).steps ≡ s.steps ⊳ made
  pub logged : IsLogged made t
  pub knows : t.after ≡ (step_leaves x s).view
  pub station : HandlesStation x t
