-- A step of a seat as a value, with what it found: what it makes of what the seat has, and what it tells the seat. Where a seat may make it
-- stands on the page of its word.
use Rattle.std.specs.Option.{unwrap_or}
use Rattle.std.specs.Prelude.{◌≡◌, ◌≢◌, ◌<◌, ◌≤◌, ◌==◌, ◌+◌, ◌-◌, ◌*◌, ◌/◌, ℕ, Bool, true, false, not, if◌then◌else◌, List, [], ◌∷◌, Option, Some, None, is_some, option_map, get_or, drop, length, slice_get, slice_index, Contains}
use Rattle.lq_account_laws.specs.Trail.{down_of}
use Rattle.lq_band_laws.specs.HalfResized.{IsBeforeResize}
use Rattle.lq_band_laws.specs.Ring.{locked_at, unlocked, with_room}
use Rattle.lq_band_laws.specs.Three.{Three, at, put}
use Rattle.lq_device.specs.Station.{StationState, with_ends, with_slot}
use Rattle.lq_model.specs.Account.{Back, Stop, held_in}
use Rattle.lq_model.specs.Band.{Band, held_of}
use Rattle.lq_model.specs.Machine.{Purge, Qdisc}
use Rattle.lq_model.specs.Plan.{band_in, owner_in, rank_in}
use Rattle.lq_model.specs.Positions.{holds_lock}
use Rattle.lq_model.specs.Words.{word_of}
use Rattle.lq_model.specs.declared.fate.Cause.TheVariants as cause
use Rattle.lq_model.specs.declared.fate.Fate.{Fate}
use Rattle.lq_model.specs.declared.machine.Phase.TheVariants.{Purged}
use Rattle.lq_table.specs.AtRest.{IsSoleAtRest, KnowsRest}
use Rattle.lq_table.specs.Consumers.{SeesHead, head_slot_view, head_slot_view_empty, zero_slot_view}
use Rattle.lq_table.specs.Controls.{GoesAway, begin_control_view, clear_deactivated_log, clear_deactivated_view, end_control_view, open_xoff_view, set_deactivated_log, set_deactivated_view, swap_view}
use Rattle.lq_table.specs.Fates.{settle_alone, settle_log, settle_view}
use Rattle.lq_table.specs.Inside.{bringing_packet, enter_alone, enter_log, enter_view, leave_log, load_inside_log, load_inside_view}
use Rattle.lq_table.specs.Locks.{load_lock_log, locked_to, look_lock_view, try_lock_log, try_lock_view, unlock_log, unlock_view}
use Rattle.lq_table.specs.Made.{Made, ◌⊳◌, cut, load_base_log, with_join}
use Rattle.lq_table.specs.Moves.{IsKnownSlot, IsPacketOf, is_set, pass_view}
use Rattle.lq_table.specs.Producers.{SeesEnd, SeesProducer, TakesProducer, give_producer_log, load_producer_log, load_size_log, load_size_view, load_slot_log, producer_slot_view_full, store_slot_log, store_slot_view, take_producer_log, with_lock_at}
use Rattle.lq_table.specs.Purges.{AreKnown, HoldPackets, HoldsAtMost, begin_purge_view, first_purge, purge_slot_view, purge_slot_view_empty, reset_draining_view, reset_missed_view}
use Rattle.lq_table.specs.Resizes.{begin_resize_view, clear_slot_log, clear_slot_view, fill_slot_view, is_member, resizing_of, set_producer_log, store_size_log, store_size_view}
use Rattle.lq_table.specs.Rule.{IsResting, shown, times, units_of}
use Rattle.lq_table.specs.Seats.{join_view, learn_view, split_view}
use Rattle.lq_table.specs.Sees.{IsAccounts, IsSameSeat, IsSole, account_of, device_to, heard, slot, solo, steps, view}
use Rattle.lq_table.specs.States.{HasEvent, SeesDown, SeesState, check_alone, check_view_refused, clear_draining_log, clear_missed_log, clear_sched_alone, clear_sched_log, draining_to, load_state_log, load_state_view, miss_view, missed_to, recheck_alone, recheck_view_direct, requeue_view, set_bit_alone, set_bit_view, set_draining_log, set_missed_log, set_sched_alone, set_sched_log, set_sched_view, some_bit}
use Rattle.lq_table.specs.Stops.{HasRoomForHand, SeesXoff, load_xoff_alone, load_xoff_log, load_xoff_view, store_xoff_log, store_xoff_view, wake_log, wake_view}
use Rattle.lq_table.specs.Turns.{give_turn_log, give_turn_view, load_turn_log, take_turn_log, take_turn_view}
use Rattle.lq_table.specs.Views.{HalfResize, HolderPart, Left, State, View, no_left, no_resizing, no_station}
use Rattle.lq_table.specs.declared.shared.Cpu.{Cpu}

-- Each is named as the call that makes it.
pub data Step : Type 0 where
  -- THE RUN LOCK: it is looked at before a try, and found so; where it is held that is the failed try
  LookLock : ℕ → Step
  -- it is tried: it is got, with what the holder has then, or it was held
  TryLock : Option HolderPart → Step
  -- it is released, and the station given back
  Unlock : Step
  -- what lies in the table's slot and what the seat carries change places
  MoveStation : Step
  -- it is loaded, and found so
  LoadLock : ℕ → Step
  -- THE STATE: it is loaded, and found so
  LoadState : ℕ → Step
  -- the first load in a transmit of this packet
  Check : ℕ → ℕ → Step
  -- the second, under the run lock
  Recheck : ℕ → ℕ → Step
  -- it is looked at before MISSED is set, and found so; where it has MISSED that is the set itself
  LookMissed : ℕ → Step
  -- MISSED is set after a failed try; it was set before or not
  Miss : Bool → Step
  -- SCHED is set; where it was clear the seat is raised
  SetSched : Bool → Step
  ClearSched : Step
  ClearMissed : Step
  ClearDraining : Step
  -- MISSED, or DRAINING, is set by the holder; it was set before or not
  SetMissed : Bool → Step
  SetDraining : Bool → Step
  -- MISSED is set where the device has answered Busy
  Requeue : Bool → Step
  -- THE STOP WORDS: a queue's is loaded, and found so
  LoadXoff : ℕ → ℕ → Step
  -- this is stored in a queue's
  StoreXoff : ℕ → ℕ → Step
  -- a queue's is looked at before it is exchanged, and found so
  LookStop : ℕ → ℕ → Step
  -- the queue is opened where it was stopped, or it wasn't
  Wake : ℕ → Bool → Step
  -- THE CALLS INSIDE: one begins, one ends; they are loaded, and so many found
  Enter : Step
  Leave : Step
  LoadInside : ℕ → Step
  -- THE TURN WORDS: the turn of this packet is taken, where the word is found as it is due
  TakeTurn : ℕ → ℕ → Step
  -- it is over
  GiveTurn : ℕ → Step
  -- an owner's turn word is loaded, and found so
  LoadTurn : ℕ → ℕ → Step
  -- THE RINGS: a band's producer word is loaded, and found so
  LoadProducer : ℕ → ℕ → Step
  -- the band's producer lock is tried, whose word was seen so; it is got or not
  TakeProducer : ℕ → ℕ → Bool → Step
  -- it is given back, with this index
  GiveProducer : ℕ → ℕ → Step
  -- the rings' length is loaded, and found so
  LoadSize : ℕ → Step
  -- the slot at the band's producer index is loaded, and found so: where it isn't empty the packet that the seat brings is dropped
  ProducerSlot : ℕ → ℕ → Step
  -- this packet joins the band
  StoreSlot : ℕ → ℕ → Step
  -- the slot at the band's head is loaded, and found so: where it isn't empty its packet is taken
  HeadSlot : ℕ → ℕ → Step
  -- a slot of the band whose packet was taken is emptied
  ZeroSlot : ℕ → ℕ → Step
  -- in the station that the seat carries the band's head and tail are set
  SetEnds : ℕ → ℕ → ℕ → Step
  -- the station that it carries becomes this, by a call of its own, as of its device
  SetStation : StationState → Step
  -- A FATE: this packet's is stored
  Settle : ℕ → Fate → Step
  -- A PURGE: the state is loaded, and found so: it begins, for this event, where the bands are these
  BeginPurge : ℕ → Three Band → ℕ → Step
  -- or for the hung device
  BeginHungPurge : Three Band → ℕ → Step
  -- the slot at the band's head is loaded, and found so: its packet is taken, or the purge goes on with the next band
  PurgeSlot : ℕ → ℕ → Step
  -- MISSED, or DRAINING, is cleared after the last packet
  ResetMissed : Step
  ResetDraining : Step
  -- A RESIZE: the size is loaded, and found so: it begins, to this length, for this event, where the bands hold these packets and have these slots
  BeginResize : ℕ → ℕ → (ℕ → List ℕ) → Three (List ℕ) → ℕ → Step
  -- a slot of the band is emptied, and found so
  ClearSlot : ℕ → ℕ → ℕ → Step
  -- this packet, in hand as the latest, is put into a slot of the band
  FillSlot : ℕ → ℕ → ℕ → Step
  -- the band's producer is set to this index
  SetProducer : ℕ → ℕ → Step
  -- the new length is stored
  StoreSize : ℕ → Step
  -- CONTROL: a call of it begins, or ends: word 0 is loaded, and found so
  BeginControl : ℕ → Step
  EndControl : ℕ → Step
  -- DEACTIVATED is set for this event; it was set before or not
  SetDeactivated : ℕ → Bool → Step
  ClearDeactivated : Step
  -- 0 is stored in the first queue's stop word, with another device
  SwapDevice : Step
  -- and in the next queue's
  OpenXoff : ℕ → Step
  -- SEATS: another is cut off, with this owner
  Split : ℕ → Step
  -- another, which knew this and made these steps, is taken in, and the whole state learned; word 0 is found so
  TakeIn : View → List Made → Qdisc → State → ℕ → Step

-- what a seat has: what it knows, what it has of the table's slots, the station that it carries, its index in each band whose producer lock it
-- has, and the steps that it made
pub record Standing : Type 0 where
  pub view : View
  pub slot : List (ℕ × Option StationState)
  pub station : Option StationState
  pub indices : Three ℕ
  pub steps : List Made

-- the packet that it brings
abbrev pub brought_packet : View → ℕ
brought_packet v = unwrap_or v.packets.fresh 0

-- the resize, the purge and what it leaves, that are half done
abbrev pub resize_of : View → HalfResize
resize_of v = unwrap_or v.holder.resizing no_resizing

abbrev pub purge_of : View → Purge
purge_of v = unwrap_or v.control.purge first_purge

abbrev pub purge_left : View → Left
purge_left v = unwrap_or v.holder.left no_left

-- the station that it carries
abbrev pub carried_station : Standing → StationState
carried_station s = unwrap_or s.station no_station

-- the turn word of the packet that is due has this
abbrev pub due_word : View → ℕ → ℕ
due_word v n = 2 * rank_in v.share.about.infos n

-- what a step makes of it
abbrev pub step_leaves : Step → Standing → Standing
step_leaves (LookLock found) s = record s { view = if found == 0 then s.view else look_lock_view s.view; steps = s.steps ⊳ load_lock_log found }
step_leaves (TryLock None) s = record s { view = look_lock_view s.view; steps = s.steps ⊳ try_lock_log false }
step_leaves (TryLock (Some d)) s = record s { view = try_lock_view d s.view; slot = (0, Some (shown d)) ∷ s.slot; steps = s.steps ⊳ try_lock_log true }
step_leaves Unlock s = record s { view = unlock_view s.view; slot = []; steps = s.steps ⊳ unlock_log }
step_leaves MoveStation s = record s { slot = (0, s.station) ∷ []; station = (get_or s.slot 0 (0, None)).1 }
step_leaves (LoadLock found) s = record s { steps = s.steps ⊳ load_lock_log found }
step_leaves (LoadState found) s = record s { view = load_state_view found s.view; steps = s.steps ⊳ load_state_log found }
step_leaves (Check n found) s = record s {
  view = if is_set 2 found then check_view_refused n (found / 256 - 1) found s.view else load_state_view found s.view;
  steps = s.steps ⊳ load_state_log found;
}
step_leaves (Recheck n found) s = record s { view = if some_bit found then load_state_view found s.view else recheck_view_direct n found s.view; steps = s.steps ⊳ load_state_log found }
step_leaves (LookMissed found) s = record s { view = if is_set 4 found then miss_view true s.view else s.view; steps = s.steps ⊳ load_state_log found }
step_leaves (Miss was) s = record s { view = miss_view was s.view; steps = s.steps ⊳ set_missed_log was }
step_leaves (SetSched was) s = record s { view = set_sched_view was s.view; steps = s.steps ⊳ set_sched_log was }
step_leaves ClearSched s = record s { view = pass_view s.view; steps = s.steps ⊳ clear_sched_log }
step_leaves ClearMissed s = record s { view = pass_view s.view; steps = s.steps ⊳ clear_missed_log }
step_leaves ClearDraining s = record s { view = pass_view s.view; steps = s.steps ⊳ clear_draining_log }
step_leaves (SetMissed was) s = record s { view = set_bit_view s.view; steps = s.steps ⊳ set_missed_log was }
step_leaves (SetDraining was) s = record s { view = set_bit_view s.view; steps = s.steps ⊳ set_draining_log was }
step_leaves (Requeue was) s = record s { view = requeue_view (with_slot (carried_station s) s.view.holder.slot) s.view; steps = s.steps ⊳ set_missed_log was }
step_leaves (LoadXoff queue found) s = record s { view = load_xoff_view found s.view; steps = s.steps ⊳ load_xoff_log s.view.share.about queue found }
step_leaves (StoreXoff queue value) s = record s { view = store_xoff_view s.view; steps = s.steps ⊳ store_xoff_log s.view.share.about queue value }
step_leaves (LookStop queue found) s = record s { steps = s.steps ⊳ load_xoff_log s.view.share.about queue found }
step_leaves (Wake queue opened) s = record s { view = if opened then wake_view queue s.view else s.view; steps = s.steps ⊳ wake_log s.view.share.about queue opened }
step_leaves Enter s = record s { view = enter_view s.view; steps = s.steps ⊳ enter_log }
step_leaves Leave s = record s { view = pass_view s.view; steps = s.steps ⊳ leave_log }
step_leaves (LoadInside found) s = record s { view = load_inside_view found s.view; steps = s.steps ⊳ load_inside_log found }
step_leaves (TakeTurn n found) s = let infos = s.view.share.about.infos in record s {
  view = if found == due_word s.view n then take_turn_view n (owner_in infos n) (rank_in infos n) s.view else s.view;
  steps = s.steps ⊳ take_turn_log (owner_in infos n) (rank_in infos n) (found == due_word s.view n);
}
step_leaves (GiveTurn n) s = let infos = s.view.share.about.infos in record s {
  view = give_turn_view (owner_in infos n) (rank_in infos n) s.view;
  steps = s.steps ⊳ give_turn_log (owner_in infos n) (rank_in infos n);
}
step_leaves (LoadTurn owner found) s = record s { steps = s.steps ⊳ load_turn_log owner found }
step_leaves (LoadProducer band found) s = record s { steps = s.steps ⊳ load_producer_log band found }
step_leaves (TakeProducer band seen true) s = record s {
  view = with_lock_at band (locked_at (seen / 2)) s.view;
  indices = put band (seen / 2) s.indices;
  steps = s.steps ⊳ take_producer_log band seen true;
}
step_leaves (TakeProducer band seen false) s = record s { steps = s.steps ⊳ take_producer_log band seen false }
step_leaves (GiveProducer band index) s = record s { view = with_lock_at band unlocked s.view; steps = s.steps ⊳ give_producer_log band index }
step_leaves (LoadSize found) s = record s { view = load_size_view found s.view; steps = s.steps ⊳ load_size_log found }
step_leaves (ProducerSlot band found) s = record s {
  view = if found == 0 then with_lock_at band (with_room (at band s.view.locks)) s.view else producer_slot_view_full (brought_packet s.view) (found - 1) s.view;
  steps = s.steps ⊳ load_slot_log s.view.share.about band (at band s.view.locks).index found;
}
step_leaves (StoreSlot band n) s = record s { view = store_slot_view band n s.view; steps = s.steps ⊳ store_slot_log s.view.share.about band (at band s.view.locks).index (n + 1) }
step_leaves (HeadSlot band found) s = record s {
  view = if found == 0 then head_slot_view_empty band s.view else head_slot_view band (found - 1) s.view;
  steps = s.steps ⊳ load_slot_log s.view.share.about band (at band s.view.holder.ends).head found;
}
step_leaves (ZeroSlot band i) s = record s { view = zero_slot_view band s.view; steps = s.steps ⊳ store_slot_log s.view.share.about band i 0 }
step_leaves (SetEnds band head tail) s = record s { station = option_map (λ st. with_ends st band head tail) s.station }
step_leaves (SetStation st) s = record s { station = Some st }
step_leaves (Settle n fate) s = record s {
  view = settle_view (carried_station s) (band_in s.view.share.about.infos n) n fate s.view;
  steps = s.steps ⊳ settle_log s.view.share.about n (word_of fate);
}
step_leaves (BeginPurge event bands found) s = record s { view = begin_purge_view (cause.Event event) bands s.view; steps = s.steps ⊳ load_state_log found }
step_leaves (BeginHungPurge bands found) s = record s { view = begin_purge_view (cause.Hung s.view.holder.station.unit) bands s.view; steps = s.steps ⊳ load_state_log found }
step_leaves (PurgeSlot band found) s = record s {
  view = if found == 0 then purge_slot_view_empty (purge_of s.view) s.view else purge_slot_view band (found - 1) (purge_left s.view) s.view;
  steps = s.steps ⊳ load_slot_log s.view.share.about band (at band s.view.holder.ends).head found;
}
step_leaves ResetMissed s = record s { view = reset_missed_view s.view; steps = s.steps ⊳ clear_missed_log }
step_leaves ResetDraining s = record s { view = reset_draining_view s.view; steps = s.steps ⊳ clear_draining_log }
step_leaves (BeginResize len event held slots found) s = record s { view = begin_resize_view (resizing_of len event held slots) s.view; steps = s.steps ⊳ load_size_log found }
step_leaves (ClearSlot band i found) s = record s { view = clear_slot_view band i (resize_of s.view) s.view; steps = s.steps ⊳ clear_slot_log s.view.share.about band i found }
step_leaves (FillSlot band i n) s = record s {
  view = fill_slot_view band i n (drop 1 (at band (resize_of s.view).works).hand) (resize_of s.view) s.view;
  steps = s.steps ⊳ store_slot_log s.view.share.about band i (n + 1);
}
step_leaves (SetProducer band index) s = record s { view = with_lock_at band (locked_at index) s.view; steps = s.steps ⊳ set_producer_log band index }
step_leaves (StoreSize len) s = record s { view = store_size_view (resize_of s.view) s.view; steps = s.steps ⊳ store_size_log len }
step_leaves (BeginControl found) s = record s { view = begin_control_view s.view; steps = s.steps ⊳ load_base_log found }
step_leaves (EndControl found) s = record s { view = end_control_view s.view; steps = s.steps ⊳ load_base_log found }
step_leaves (SetDeactivated event was) s = record s { view = set_deactivated_view event s.view; steps = s.steps ⊳ set_deactivated_log event was }
step_leaves ClearDeactivated s = record s { view = clear_deactivated_view s.view; steps = s.steps ⊳ clear_deactivated_log }
step_leaves SwapDevice s = record s { view = swap_view (carried_station s) s.view; steps = s.steps ⊳ store_xoff_log s.view.share.about 0 0 }
step_leaves (OpenXoff queue) s = record s { view = open_xoff_view queue s.view; steps = s.steps ⊳ store_xoff_log s.view.share.about queue 0 }
step_leaves (Split owner) s = record s { view = split_view owner s.view; steps = s.steps ⊳ cut }
step_leaves (TakeIn other made q g found) s = record s { view = learn_view q g (join_view s.view other); steps = with_join made s.steps ⊳ load_base_log found }

-- what it tells a seat that had this: of what it found, and of what a seat knows that has the table alone
abbrev pub step_tells : Step → Standing → Type 0
step_tells (LookLock found) s = IsSole s.view → (not (found == 0) ≡ s.view.whole.qdisc.locked) × (found ≢ 0 → solo (look_lock_view s.view) ≡ locked_to true (solo s.view))
step_tells (TryLock None) s = IsSole s.view → (s.view.whole.qdisc.locked ≡ true) × (solo (look_lock_view s.view) ≡ locked_to true (solo s.view))
step_tells (TryLock (Some d)) s = IsResting d.size d.ends × (0 < d.size) × (d.hand ≡ None) × (d.resizing ≡ None) × (d.shut ≡ None) × IsKnownSlot s.view.share.about d.slot
    × (s.view.control.first ≡ true → d.units ≡ units_of s.view.trail)
    × (IsSole s.view → (s.view.whole.qdisc.locked ≡ false) × (solo (try_lock_view d s.view) ≡ locked_to true (solo s.view)) × IsAccounts (try_lock_view d s.view))
step_tells Unlock s = solo (unlock_view s.view) ≡ locked_to false (solo s.view)
step_tells (LoadLock found) s = IsSoleAtRest s.view → KnowsRest s.view
step_tells (LoadState found) s = (solo (load_state_view found s.view) ≡ solo s.view) × (IsSole s.view → SeesState s.view found)
step_tells (Check n found) s = (is_set 2 found ≡ true → HasEvent found (λ event. event ≡ found / 256 - 1)) × (solo (step_leaves (Check n found) s).view ≡ check_alone n found (solo s.view))
    × (IsSole s.view → SeesState s.view found) × (s.view.control.first ≡ true → SeesDown s.view found)
step_tells (Recheck n found) s = (solo (step_leaves (Recheck n found) s).view ≡ recheck_alone n found (solo s.view)) × (IsSole s.view → SeesState s.view found)
step_tells (LookMissed found) s = (solo (miss_view true s.view) ≡ missed_to true (solo s.view)) × (IsSole s.view → is_set 4 found ≡ s.view.whole.qdisc.missed)
step_tells (Miss was) s = (solo (miss_view was s.view) ≡ missed_to true (solo s.view)) × (IsSole s.view → was ≡ s.view.whole.qdisc.missed)
step_tells (SetSched was) s = (solo (set_sched_view was s.view) ≡ set_sched_alone was (solo s.view)) × (IsSole s.view → was ≡ s.view.whole.qdisc.sched)
step_tells ClearSched s = solo (pass_view s.view) ≡ clear_sched_alone (solo s.view)
step_tells ClearMissed s = solo (pass_view s.view) ≡ missed_to false (solo s.view)
step_tells ClearDraining s = solo (pass_view s.view) ≡ draining_to false (solo s.view)
step_tells (SetMissed was) s = solo (set_bit_view s.view) ≡ set_bit_alone s.view (missed_to true (solo s.view))
step_tells (SetDraining was) s = solo (set_bit_view s.view) ≡ set_bit_alone s.view (draining_to true (solo s.view))
step_tells (Requeue was) s = solo (step_leaves (Requeue was) s).view ≡ device_to (carried_station s).device (heard Back (missed_to true (solo s.view)))
step_tells (LoadXoff queue found) s = (holds_lock s.view.place.position ≡ true → found ≢ 2 → s.view.holder.station.device.hung ≡ false) × HasRoomForHand s.view
    × (solo (load_xoff_view found s.view) ≡ load_xoff_alone found s.view (solo s.view)) × SeesXoff queue s.view found
step_tells (StoreXoff queue value) s = solo (store_xoff_view s.view) ≡ heard (Stop queue value) (solo s.view)
step_tells (LookStop queue found) s = IsSole s.view → found ≡ slice_index (account_of s.view).stops queue
step_tells (Wake queue opened) s = IsSole s.view → opened ≡ (slice_index (account_of s.view).stops queue == 1)
step_tells Enter s = solo (enter_view s.view) ≡ enter_alone (is_some (bringing_packet s.view)) (solo s.view)
step_tells Leave s = solo (pass_view s.view) ≡ solo s.view
step_tells (TakeTurn n found) s = found ≡ slice_index s.view.turns (owner_in s.view.share.about.infos n)
step_tells (LoadTurn owner found) s = 0 < times owner s.view.share.owners → found ≡ slice_index s.view.turns owner
step_tells (LoadProducer band found) s = SeesProducer band s.view found
step_tells (TakeProducer band seen got) s = (got ≡ true → seen / 2 < s.view.share.about.max_len) × TakesProducer band s.view seen got
step_tells (LoadSize found) s = (0 < found) × (found ≤ s.view.share.about.max_len) × (holds_lock s.view.place.position ≡ true → found ≡ s.view.holder.size)
step_tells (ProducerSlot band found) s = (found ≤ 1000000) × SeesEnd band s.view found
step_tells (HeadSlot band found) s = (found ≤ 1000000) × SeesHead band s.view found × (found ≢ 0 → IsPacketOf s.view.share.about (found - 1))
step_tells (Settle n fate) s = solo (step_leaves (Settle n fate) s).view ≡ settle_alone (carried_station s) fate (solo s.view)
step_tells (BeginPurge event bands found) s = (down_of s.view.trail ≡ Some event) × HoldsAtMost s.view.holder.size bands × HoldPackets s.view.share.about.infos bands × AreKnown s.view bands
step_tells (BeginHungPurge bands found) s = HoldsAtMost s.view.holder.size bands × HoldPackets s.view.share.about.infos bands × AreKnown s.view bands
step_tells (PurgeSlot band found) s = let held = held_of (at band (purge_left s.view).bands) in (found ≤ 1000000) × (found ≡ 0 → held ≡ []) × (found ≢ 0 → slice_get held 0 ≡ Some (found - 1))
step_tells (BeginResize len event held slots found) s = ((b : ℕ) → b < 3 → IsBeforeResize s.view.holder.size s.view.share.about.max_len (at b slots) (held b) (at b s.view.holder.ends))
    × ((b n : ℕ) → b < 3 → Contains (held b) n → (band_in s.view.share.about.infos n ≡ b) × (n < length s.view.share.about.infos))
    × (s.view.control.phase ≡ Purged → (b : ℕ) → b < 3 → held b ≡ [])
    × (IsSole s.view → (b : ℕ) → b < 3 → held b ≡ held_in (account_of s.view) b)
step_tells (ClearSlot band i found) s = let w = at band (resize_of s.view).works in (found ≡ slice_index w.slots i) × (is_member found w ≡ true → found ≤ 1000000)
step_tells SwapDevice s = GoesAway s.view
step_tells _ s = Unit {0}

-- LISTS OF STEPS, the first step first

abbrev pub steps_leave : List Step → Standing → Standing
steps_leave [] s = s
steps_leave (x ∷ xs) s = steps_leave xs (step_leaves x s)

abbrev pub steps_tell : List Step → Standing → Type 0
steps_tell [] s = Unit {0}
steps_tell (x ∷ xs) s = step_tells x s × steps_tell xs (step_leaves x s)

module _ {D : Type 0} where
  abbrev pub standing : Cpu D → Standing
  standing c = record { view = view c; slot = slot c; station = c.station; indices = c.indices; steps = steps c }

  -- The seat makes these steps. Each part stands by itself: search finds nothing in an equation of two standings.
  pub record MakesSteps (xs : List Step) (b a : Cpu D) : Type 0 where
    pub seat : IsSameSeat b a
    pub knows : view a ≡ (steps_leave xs (standing b)).view
    pub has : slot a ≡ (steps_leave xs (standing b)).slot
    pub carries : a.station ≡ (steps_leave xs (standing b)).station
    pub places : a.indices ≡ (steps_leave xs (standing b)).indices
    pub made : steps a ≡ (steps_leave xs (standing b)).steps
    pub told : steps_tell xs (standing b)
