-- The steps on the stop words.
use Rattle.std.specs.Option.{option_map_or, option_map}
use Rattle.std.specs.Prelude.{ℕ, List, Option, Bool, true, false, ◌≡◌, Some, None, ◌==◌, if◌then◌else◌, ◌&&◌, ◌<◌, length, is_some, slice_index, ◌+◌, nat_lt, slice_set}
use Rattle.lq_log.specs.Made.{Made, load, store, exchange}
use Rattle.lq_model.specs.Account.{Pick, Stop as StopEvent, Wake}
use Rattle.lq_model.specs.Plan.{queue_in}
use Rattle.lq_model.specs.Positions.{holds_lock}
use Rattle.lq_model.specs.Steps.{queue_of_blocked, queue_of_slot, after_sent}
use Rattle.lq_model.specs.declared.fate.Info.{Info}
use Rattle.lq_model.specs.declared.machine.Answer.TheVariants.{Plain}
use Rattle.lq_model.specs.declared.machine.Blocked.TheVariants.{InHand, NoneTaken}
use Rattle.lq_model.specs.declared.machine.Packet.{Packet}
use Rattle.lq_model.specs.declared.machine.Position.TheVariants.{Gate, Deq, BlockedLoad, Control, Scan, Xmit, BlockedClear, BlockedMiss, BlockedDrain, StoreXoff, Sched}
use Rattle.lq_model.specs.declared.machine.Position.{Position}
use Rattle.lq_table.specs.Moves.{past_with, seen_by, moved}
use Rattle.lq_table.specs.Places.{xoff_word}
use Rattle.lq_table.specs.Sees.{steps, Solo, heard, IsSole, account_of, IsAccounts, HasSent}
use Rattle.lq_table.specs.Views.{Setup, View, machine_packet, HolderPart}

-- load_xoff: a queue's stop word is loaded, where a packet is to be sent, a queue was found stopped, or a dequeue begins.

abbrev pub load_xoff_log : Setup → ℕ → ℕ → Made
load_xoff_log k queue found = load (xoff_word k queue) found

-- the queue whose stop word is loaded where a seat stands: that of its packet, the one that was found stopped, or, where a
-- dequeue begins, that of the packet in the requeue slot
abbrev pub load_xoff_queue : List Info → Option ℕ → Position → ℕ → ℕ
load_xoff_queue infos slot (Gate p direct) asked = p.queue
load_xoff_queue infos slot (BlockedLoad b) asked = queue_of_blocked b
load_xoff_queue infos slot Deq asked = option_map_or (queue_in infos) slot 0
load_xoff_queue infos slot _ asked = asked

-- control may load each stop word
abbrev pub load_xoff_at : Position → Bool
load_xoff_at (Gate p direct) = true
load_xoff_at (BlockedLoad b) = true
load_xoff_at Deq = true
load_xoff_at (Control holds) = true
load_xoff_at _ = false

-- the seat stands where it may load the stop word of this queue
abbrev pub MayLoadXoff : List Info → ℕ → View → Type 0
MayLoadXoff infos queue v = (load_xoff_at v.place.position ≡ true) × (load_xoff_queue infos v.holder.slot v.place.position queue ≡ queue)

abbrev pub is_dequeue : Position → Bool
is_dequeue Deq = true
is_dequeue _ = false

-- where a dequeue goes on whose queue is open, with this packet in the requeue slot
abbrev pub slot_begins : Option Packet → Position
slot_begins None = Scan 0 false
slot_begins (Some p) = Gate p false

-- where a load of the stop word as x leads
abbrev pub load_xoff_leads : Option Packet → ℕ → Position → Position
load_xoff_leads slot x (Gate p direct) = if x == 0 then Xmit p direct else BlockedClear (InHand p direct)
load_xoff_leads slot x (BlockedLoad b) = if x == 0 then BlockedMiss b else BlockedDrain b
load_xoff_leads slot x Deq = if x == 0 then slot_begins slot else BlockedClear (NoneTaken (queue_of_slot slot))
load_xoff_leads slot x position = position

-- the packet in the requeue slot, if there is one, comes into the hand
abbrev pub picking : Option ℕ → View → View
picking None v = v
picking (Some n) v = record v {
  holder = record v.holder { slot = None; hand = Some n };
  whole = record v.whole { qdisc = record v.whole.qdisc { slot = None }; state = past_with Pick v.whole.state };
}

abbrev pub load_xoff_view_from : Position → Option ℕ → ℕ → View → View
load_xoff_view_from position slot x v =
    let w : View = record v { place = record v.place { position = load_xoff_leads (option_map (machine_packet v.share.about.infos) slot) x position } } in
    if is_dequeue position && (x == 0) then picking slot w else w

-- the stop word is loaded as x
abbrev pub load_xoff_view : ℕ → View → View
load_xoff_view x v = load_xoff_view_from v.place.position v.holder.slot x v

-- where a dequeue begins and its queue is open the packet in the requeue slot, if there is one, is picked
abbrev pub picks : Option ℕ → Solo → Solo
picks None v = v
picks (Some n) v = heard Pick v

-- where a dequeue begins and its queue is open the packet in the requeue slot is picked
abbrev pub load_xoff_alone : ℕ → View → Solo → Solo
load_xoff_alone x v w = if is_dequeue v.place.position && (x == 0) then picks v.holder.slot w else w

-- the device has room for one more packet, whose unit and place in what that has sent a fate word can name, and the requeue
-- slot is empty
abbrev pub HasRoom : HolderPart → Type 0
HasRoom h = (0 < h.station.device.spare) × (length h.station.device.accepted < 1000000) × (h.slot ≡ None) × (h.station.unit < 256)

-- the device has room for the packet that a holder has in hand
abbrev pub HasRoomForHand : View → Type 0
HasRoomForHand v = holds_lock v.place.position ≡ true → is_some v.holder.hand ≡ true → HasRoom v.holder

-- a stop word; and what a holder has, and its device accepted, is the account's
abbrev pub SeesXoff : ℕ → View → ℕ → Type 0
SeesXoff queue v found = (IsSole v → v.whole.state.shut ≡ None → found ≡ slice_index (account_of v).stops queue) × (IsSole v → holds_lock v.place.position ≡ true → IsAccounts v) × (IsSole v → holds_lock v.place.position ≡ true → HasSent v)

-- store_xoff: after an answer of the device a stop word is stored, or each of them where the device hangs.

abbrev pub store_xoff_log : Setup → ℕ → ℕ → Made
store_xoff_log k queue v = store (xoff_word k queue) v

-- what is stored in a stop word after an answer of the device
abbrev pub stop_value : Bool → ℕ
stop_value hung = if hung then 2 else 1

-- the seat stands where it is due to store this value as the queue's stop word: 2 where the device hangs
abbrev pub MayStoreXoff : ℕ → ℕ → View → Type 0
MayStoreXoff queue value v = (hung : Bool) × (direct : Bool) × (v.place.position ≡ StoreXoff queue hung direct) × (value ≡ stop_value hung) × (v.holder.station.device.hung ≡ hung)

-- after the store of a queue's stop word: the next queue's where the device hangs, or as after a packet that was sent
abbrev pub store_xoff_leads : View → ℕ → Bool → Bool → Position
store_xoff_leads v queue hung direct = if hung && nat_lt (queue + 1) v.share.about.queues then StoreXoff (queue + 1) hung direct else after_sent direct (seen_by v) v.place

-- the stop word is stored
abbrev pub store_xoff_view_from : Position → View → View
store_xoff_view_from (StoreXoff queue hung direct) v =
    record (moved Plain (seen_by v) (λ h. h) (past_with (StopEvent queue (stop_value hung))) v) { place = record v.place { position = store_xoff_leads v queue hung direct } }
store_xoff_view_from position v = v

abbrev pub store_xoff_view : View → View
store_xoff_view v = store_xoff_view_from v.place.position v

-- look_stop: the stop word is looked at before it is exchanged, and nothing is done.

-- wake: a stopped queue is opened.

abbrev pub wake_log : Setup → ℕ → Bool → Made
wake_log k queue opened = exchange (xoff_word k queue) 1 0 opened

abbrev pub wake_view : ℕ → View → View
wake_view queue v = record v { place = record v.place { position = Sched false }; whole = record v.whole { qdisc = record v.whole.qdisc { xoff = slice_set v.whole.qdisc.xoff queue 0 }; state = past_with (Wake queue) v.whole.state } }
