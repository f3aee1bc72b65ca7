-- The steps on the state word. Of each step: its name in the log, where a seat may make it, what it makes of the seat's view, what it makes
-- of a seat that has the table alone, what it tells such a seat, and what it tells each seat.
use Rattle.std.specs.Option.{option_map}
use Rattle.std.specs.Prelude.{Bool, ◌||◌, ℕ, ◌≡◌, ◌<◌, ◌*◌, ◌+◌, Some, is_some, true, false, None, ◌-◌, ◌/◌, if◌then◌else◌, not, ◌∷◌}
use Rattle.lq_account_laws.specs.Trail.{down_of}
use Rattle.lq_device.specs.Station.{StationState, with_slot, HasAnswered}
use Rattle.lq_log.specs.Made.{Made, load, set, clear}
use Rattle.lq_model.specs.Account.{Refuse, Direct, Back}
use Rattle.lq_model.specs.Machine.{Qdisc}
use Rattle.lq_model.specs.Positions.{in_hand}
use Rattle.lq_model.specs.declared.device.Tx.TheVariants.{Busy as NotSent}
use Rattle.lq_model.specs.declared.fate.Fate.TheVariants as fate
use Rattle.lq_model.specs.declared.machine.Answer.TheVariants.{Plain}
use Rattle.lq_model.specs.declared.machine.Packet.{Packet}
use Rattle.lq_model.specs.declared.machine.Position.TheVariants.{Control, Post, Test, Tail, Soft, Late, Miss, Sched, SoftClear, ClearMissed, BlockedClear, ClearDraining, BlockedMiss, Again, Quota, BlockedDrain, Xmit, Unlock}
use Rattle.lq_model.specs.declared.machine.Position.{Position}
use Rattle.lq_table.specs.Moves.{is_set, seen_by, stepped, moved, past_with, on_trail, pass_view}
use Rattle.lq_table.specs.Places.{state_place}
use Rattle.lq_table.specs.Rule.{shown}
use Rattle.lq_table.specs.Sees.{view, carried, position, account_of, Solo, heard}
use Rattle.lq_table.specs.Views.{View, machine_packet}
use Rattle.lq_table.specs.declared.shared.Cpu.{Cpu}

-- THE BITS

-- what a seat that has the table alone knows, with MISSED or DRAINING so
abbrev pub missed_to : Bool → Solo → Solo
missed_to bit v = record v { whole = record v.whole { missed = bit } }

abbrev pub draining_to : Bool → Solo → Solo
draining_to bit v = record v { whole = record v.whole { draining = bit } }

-- MISSED or DRAINING is set
abbrev pub some_bit : ℕ → Bool
some_bit n = is_set 4 n || is_set 8 n

-- the machine as a load of the state shows it
abbrev pub seen_state : Qdisc → Bool → ℕ → Qdisc
seen_state base bypass n = record base { bypass = bypass; sched = is_set 1 n; deactivated = is_set 2 n; missed = is_set 4 n; draining = is_set 8 n }

-- an event stands above the bits of this state word, and this holds of it
abbrev pub HasEvent : ℕ → (ℕ → Type 0) → Type 0
HasEvent word holds = (event : ℕ) × (bits : ℕ) × (bits < 16) × (event < 4294967296) × (word ≡ bits + 256 * (event + 1)) × holds event

-- the state word
pub record SeesState (v : View) (found : ℕ) : Type 0 where
  pub scheduled : is_set 1 found ≡ v.whole.qdisc.sched
  pub down : is_set 2 found ≡ is_some (account_of v).down
  pub missed : is_set 4 found ≡ v.whole.qdisc.missed
  pub draining : is_set 8 found ≡ v.whole.qdisc.draining
  -- the event that deactivated it stands above the bits
  pub event : (e : ℕ) → (account_of v).down ≡ Some e → (bits : ℕ) × (bits < 16) × (found ≡ bits + 256 * (e + 1))

-- The first seat finds the state as its trail tells: DEACTIVATED is set just where that has the station deactivated, and the
-- event stands above the bits.
pub record SeesDown (v : View) (found : ℕ) : Type 0 where
  pub down : is_set 2 found ≡ is_some (down_of v.trail)
  pub event : (e : ℕ) → down_of v.trail ≡ Some e → (bits : ℕ) × (bits < 16) × (found ≡ bits + 256 * (e + 1))

-- LOADS

-- load_state: the state is loaded, and the machine's seat goes by its bits.

abbrev pub load_state_log : ℕ → Made
load_state_log found = load state_place found

abbrev pub load_state_at : Position → Bool
load_state_at Post = true
load_state_at Test = true
load_state_at (Tail inside) = true
load_state_at Soft = true
load_state_at Late = true
load_state_at (Control holds) = true
load_state_at _ = false

abbrev pub load_state_view : ℕ → View → View
load_state_view n v = stepped Plain (seen_state (seen_by v) v.share.about.bypass n) v

-- check: the first load of the state in a transmit. A packet of a deactivated station is refused.

-- the station is deactivated by the event e: the packet n is refused
abbrev pub check_view_refused : ℕ → ℕ → ℕ → View → View
check_view_refused n e x v = record (moved Plain (seen_state (seen_by v) v.share.about.bypass x) (λ h. h) (past_with (Refuse n e)) v) { packets = record v.packets { fresh = None; owed = Some (n, fate.Refused e) }; trail = on_trail (Refuse n e) v }

-- the state was loaded in a transmit of the packet n: it is refused where DEACTIVATED is set, by the event above the bits
abbrev pub check_alone : ℕ → ℕ → Solo → Solo
check_alone n word v = if is_set 2 word then heard (Refuse n (word / 256 - 1)) v else v

-- recheck: the second load, under the run lock. Where nothing waits the packet goes past the bands.

-- nothing waits: the packet n goes past the bands
abbrev pub recheck_view_direct : ℕ → ℕ → View → View
recheck_view_direct n x v = record (moved Plain (seen_state (seen_by v) v.share.about.bypass x) (λ h. record h { hand = Some n }) (past_with (Direct n)) v) { packets = record v.packets { fresh = None }; trail = on_trail (Direct n) v }

-- and under the run lock: the packet goes past the bands where neither MISSED nor DRAINING is set
abbrev pub recheck_alone : ℕ → ℕ → Solo → Solo
recheck_alone n word v = if some_bit word then v else heard (Direct n) v

-- MISSED, AFTER A FAILED TRY

-- miss: MISSED is set.

abbrev pub miss_at : Position → Bool
miss_at (Miss attempt) = true
miss_at _ = false

-- it was set before or not
abbrev pub miss_view : Bool → View → View
miss_view was v = stepped Plain (record (seen_by v) { missed = was }) v

-- look_missed: the state is looked at before MISSED is set. In the log it is a load of the state.

-- SCHED

-- set_sched: SCHED is set. Where it was clear the seat is raised.

abbrev pub set_sched_log : Bool → Made
set_sched_log was = set state_place 1 was

abbrev pub set_sched_at : Position → Bool
set_sched_at (Sched inside) = true
set_sched_at _ = false

-- it was set before or not
abbrev pub set_sched_view : Bool → View → View
set_sched_view was v = stepped Plain (record (seen_by v) { sched = was }) v

abbrev pub set_sched_alone : Bool → Solo → Solo
set_sched_alone was v = record v { raised = v.raised || not was; whole = record v.whole { scheduled = true } }

-- clear_sched: a soft interrupt clears SCHED; its view is that of `pass`.

abbrev pub clear_sched_log : Made
clear_sched_log = clear state_place 18446744073709551614

abbrev pub clear_sched_at : Position → Bool
clear_sched_at (SoftClear deactivated) = true
clear_sched_at _ = false

abbrev pub clear_sched_alone : Solo → Solo
clear_sched_alone v = record v { whole = record v.whole { scheduled = false } }

-- MISSED AND DRAINING, BY THE HOLDER

-- clear_missed, clear_draining: a bit is cleared; the view is that of `pass`.

abbrev pub clear_missed_log : Made
clear_missed_log = clear state_place 18446744073709551611

abbrev pub clear_missed_at : Position → Bool
clear_missed_at ClearMissed = true
clear_missed_at (BlockedClear b) = true
clear_missed_at _ = false

abbrev pub clear_draining_log : Made
clear_draining_log = clear state_place 18446744073709551607

abbrev pub clear_draining_at : Position → Bool
clear_draining_at ClearDraining = true
clear_draining_at _ = false

-- set_missed, set_draining: a bit is set, and a packet in hand goes to the requeue slot with it.

abbrev pub set_missed_log : Bool → Made
set_missed_log was = set state_place 4 was

abbrev pub set_missed_at : Position → Bool
set_missed_at Again = true
set_missed_at Quota = true
set_missed_at (BlockedMiss b) = true
set_missed_at _ = false

abbrev pub set_draining_log : Bool → Made
set_draining_log was = set state_place 8 was

abbrev pub set_draining_at : Position → Bool
set_draining_at (BlockedDrain b) = true
set_draining_at _ = false

-- the packet in hand goes to the requeue slot
abbrev pub backing : View → View
backing v = moved Plain (seen_by v) (λ h. record h { slot = h.hand; hand = None }) (past_with Back) v

abbrev pub set_bit_view : View → View
set_bit_view v = if is_some (in_hand v.place.position) then backing v else pass_view v

abbrev pub set_bit_alone : View → Solo → Solo
set_bit_alone v w = if is_some (in_hand v.place.position) then heard Back w else w

-- requeue: the device didn't accept the packet, which goes to the requeue slot, and MISSED is set.

module _ {D : Type 0} where
  -- the station that it carries, but for the requeue slot, which is as the seat knows it
  abbrev pub carried_but_for_slot : Cpu D → StationState
  carried_but_for_slot c = with_slot (carried c) (view c).holder.slot

  -- the device of the station that it carries has answered Busy to the packet in hand, and the packet is in the requeue slot
  abbrev pub CarriesBusyDevice : Cpu D → Type 0
  CarriesBusyDevice c = (n : ℕ) × (p : Packet) × (direct : Bool) × (c.station ≡ Some (with_slot (carried c) (Some n))) × (position c ≡ Xmit p direct) × ((view c).holder.hand ≡ Some n)
      × HasAnswered NotSent p.queue n (shown (view c).holder) (carried_but_for_slot c)

abbrev pub requeue_view : StationState → View → View
requeue_view st v = record v {
  place = record v.place { position = Unlock };
  holder = record v.holder { station = st; slot = v.holder.hand; hand = None };
  whole = record v.whole {
    qdisc = record v.whole.qdisc { slot = option_map (machine_packet v.share.about.infos) v.holder.hand; missed = true };
    state = record v.whole.state { past = Back ∷ v.whole.state.past; station = st };
  };
}
