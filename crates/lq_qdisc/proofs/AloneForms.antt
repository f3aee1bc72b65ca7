-- The steps of a call, as a seat sees them that has the table alone, over a device that tells.
use Rattle.std.specs.Prelude.{◌≡◌, ℕ, true, false, ◌||◌, ◌&&◌, not, List, length, Some, None}
use Rattle.std.specs.Option.{option_map}
use Rattle.lq_model.specs.Account.{Account, Event, Back, Send, Stop, after, is_open}
use Rattle.lq_model.specs.Alone.{next_answer, next_taken, served}
use Rattle.lq_model.specs.Device.{DeviceState, told_after}
use Rattle.lq_model.specs.declared.device.Tx.{Tx}
use Rattle.lq_model.specs.declared.device.Tx.TheVariants.{Sent, SentStop, SentHang, Busy}
use Rattle.lq_model.specs.declared.fate.Info.{Info}
use Rattle.lq_table.specs.Sees.{Solo, heard, device_to}
use Rattle.lq_table.specs.States.{missed_to, draining_to}
use Rattle.lq_qdisc.proofs.DirectLemmas.{hearing_hung}
use Rattle.lq_qdisc.specs.Stations.{dirty, is_waiting, may_take}
use Rattle.lq_qdisc.specs.Alone.{IsAlone, IsOneSender, account_in, running}
use Rattle.lq_qdisc.specs.declared.answers.Taken.{Taken}
use Rattle.lq_qdisc.specs.declared.answers.Taken.TheVariants as taken
use Rattle.lq_qdisc.specs.declared.answers.Through.{Through}
use Rattle.lq_qdisc.specs.declared.answers.Through.TheVariants as through
use Rattle.lq_qdisc.specs.declared.answers.Why.TheVariants as why

-- the device answered, and is in this state now
abbrev pub offering : Event → DeviceState → Solo → Solo
offering event d v = device_to d (heard event v)

-- MISSED cleared, and DRAINING set or cleared
abbrev pub stopping : Solo → Solo
stopping v = draining_to true (missed_to false v)

abbrev pub cleaning : Solo → Solo
cleaning v = draining_to false (missed_to false v)

-- the lock was given back, and the seat is raised if MISSED was set
abbrev pub ended : Solo → Solo
ended v = record v {
  raised = v.raised || (v.whole.missed && not v.whole.scheduled);
  whole = record v.whole { locked = false; scheduled = v.whole.scheduled || v.whole.missed };
}

-- the packet n came into the hand
pub record TakesPacket (start : Account) (n : ℕ) (old new : Solo) : Type 0 where
  pub event : Event
  pub next : next_taken (account_in start old) ≡ Some event
  pub hand : (after event (account_in start old)).hand ≡ Some n
  pub is : new ≡ heard event old

abbrev pub TakesAlone : List Info → Account → Taken → Solo → Solo → Type 0
TakesAlone infos start taken.Empty old new = (may_take (account_in start old) ≡ true) × (next_taken (account_in start old) ≡ None) × (new ≡ cleaning old)
TakesAlone infos start taken.Stopped old new = (is_waiting infos (account_in start old) ≡ true) × (new ≡ stopping old)
TakesAlone infos start (taken.Packet n) old new = (may_take (account_in start old) ≡ true) × TakesPacket start n old new

-- what follows an answer of the device to a packet of this queue, where there are so many queues
abbrev pub answering : Tx → ℕ → ℕ → DeviceState → Solo → Solo
answering Sent queue queues d v = offering Send d v
answering SentStop queue queues d v = heard (Stop queue 1) (offering Send d v)
answering SentHang queue queues d v = hearing_hung queues (offering Send d v)
answering Busy queue queues d v = missed_to true (offering Back d v)

abbrev pub through_of : Tx → Through
through_of Sent = through.Yes
through_of SentStop = through.Yes
through_of SentHang = through.Yes
through_of Busy = through.Back why.Busy

-- the packet in hand was offered on this queue, which is open
pub record SendsAlone (start : Account) (queue : ℕ) (answered : Through) (old new : Solo) : Type 0 where
  pub opens : is_open (account_in start old) queue ≡ true
  pub answer : Tx
  pub is : answer ≡ next_answer (running start old)
  pub told : new.whole.device.told ≡ option_map (told_after answer) old.whole.device.told
  pub view_is : new ≡ answering answer queue (length (account_in start old).stops) new.whole.device old
  pub through : answered ≡ through_of answer

-- or it was laid into the requeue slot, since the queue isn't open
abbrev pub LaysAlone : Account → ℕ → Solo → Solo → Type 0
LaysAlone start queue old new = (is_open (account_in start old) queue ≡ false) × (new ≡ missed_to true (heard Back (stopping old)))

abbrev pub DirectsAlone : Account → ℕ → Through → Solo → Solo → Type 0
DirectsAlone start queue through.Yes old new = SendsAlone start queue through.Yes old new
DirectsAlone start queue (through.Back why.Busy) old new = SendsAlone start queue (through.Back why.Busy) old new
DirectsAlone start queue (through.Back why.Stopped) old new = LaysAlone start queue old new

-- a station that may be run, in no run
pub record MayRun (start : Account) (v : Solo) : Type 0 where
  pub sender : IsOneSender start v
  pub active : (account_in start v).down ≡ None
  pub unlocked : v.whole.locked ≡ false
  pub scheduled : v.whole.scheduled ≡ v.raised

-- a run attempt served the station
pub record AttemptsAlone (infos : List Info) (start : Account) (old new : Solo) : Type 0 where
  pub alone : IsAlone infos start new
  pub does : served infos (running start new) ≡ served infos (dirty (running start old))
