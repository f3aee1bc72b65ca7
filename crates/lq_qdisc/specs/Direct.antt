-- What handing a packet to the device leaves of what the holder of the run lock knows.
use Rattle.std.specs.Prelude.{◌≡◌, ◌≢◌, ◌==◌, ℕ, zero, suc, Bool, true, false, if◌then◌else◌, length, slice_index, List, ◌∷◌, Some, None}
use Rattle.lq_device.specs.Station.{StationState, HasAnswered}
use Rattle.lq_model.specs.Account.{Event, Back, Send, Stop}
use Rattle.lq_model.specs.Device.{is_busy}
use Rattle.lq_model.specs.Steps.{run_counted}
use Rattle.lq_model.specs.declared.device.Tx.{Tx}
use Rattle.lq_model.specs.declared.device.Tx.TheVariants.{Sent, SentStop, SentHang, Busy}
use Rattle.lq_model.specs.declared.machine.Position.{Position}
use Rattle.lq_model.specs.declared.machine.Position.TheVariants.{Post, Quota, StoreXoff, Unlock}
use Rattle.lq_run.specs.Runs.{begins}
use Rattle.lq_table.specs.Views.{View}
use Rattle.lq_table.specs.Rule.{shown}
use Rattle.lq_table.specs.Fates.{fate_sent}
use Rattle.lq_table.specs.States.{missed_to, draining_to}
use Rattle.lq_table.specs.Sees.{Solo, IsSole, IsAccounts, HasSent, account_of, solo, heard, device_to}
use Rattle.lq_qdisc.specs.declared.answers.Through.{Through}
use Rattle.lq_qdisc.specs.declared.answers.Through.TheVariants as through
use Rattle.lq_qdisc.specs.declared.answers.Why.TheVariants as why
use Rattle.lq_model.specs.declared.state.TheConstants.{QUOTA}

-- the events of storing in each queue below this one that the device hangs, the latest first, before those that came earlier
abbrev pub hung_below : ℕ → List Event → List Event
hung_below zero past = past
hung_below (suc queue) past = Stop queue 2 ∷ hung_below queue past

-- the stops that follow an answer of the device to a packet of this queue, where there are so many queues
abbrev pub stopped_by : Tx → ℕ → ℕ → List Event → List Event
stopped_by Sent queue queues past = past
stopped_by SentStop queue queues past = Stop queue 1 ∷ past
stopped_by SentHang queue queues past = hung_below queues past
stopped_by Busy queue queues past = past

-- a step that stores a stop word leaves all as it was but where the seat stands, and the event
pub record StaysAt (old new : View) : Type 0 where
  pub share : new.share ≡ old.share
  pub packets : new.packets ≡ old.packets
  pub locks : new.locks ≡ old.locks
  pub holder : new.holder ≡ old.holder
  pub control : new.control ≡ old.control
  pub turns : new.turns ≡ old.turns
  pub settled : new.settled ≡ old.settled
  pub trail : new.trail ≡ old.trail
  pub told : new.whole.told ≡ old.whole.told
  pub raised : new.place.raised ≡ old.place.raised
  pub run : new.place.run ≡ old.place.run

-- a seat that has the table alone heard of them
abbrev pub hearing_stops : Tx → ℕ → ℕ → Solo → Solo
hearing_stops answer queue queues v = record v { whole = record v.whole { past = stopped_by answer queue queues v.whole.past } }

-- A seat that has the table alone sees the queue of the packet in hand open, and that what it has as holder is the account's.
abbrev pub SeesOpen : ℕ → View → Type 0
SeesOpen queue v = IsSole v → (slice_index (account_of v).stops queue ≡ 0) × IsAccounts v × HasSent v

-- The device accepted the packet n, and its fate is stored: sent by this unit, as the next of what that sent.
pub record Accepts (n queue : ℕ) (old new : View) : Type 0 where
  pub answer : Tx
  pub station : StationState
  pub called : HasAnswered answer queue n (shown old.holder) station
  pub accepted : is_busy answer ≡ false
  pub past : new.whole.state.past ≡ stopped_by answer queue old.share.about.queues (Send ∷ old.whole.state.past)
  pub holder : new.holder ≡ record old.holder { station = station; hand = None; last = Some n }
  pub settled : new.settled ≡ (n, fate_sent old.holder.station) ∷ old.settled
  pub step : solo new ≡ hearing_stops answer queue old.share.about.queues (device_to station.device (heard Send (solo old)))
  pub sole : SeesOpen queue old

-- It answered Busy: the packet n lies in the requeue slot, and MISSED is set.
pub record IsBusyAt (n queue : ℕ) (old new : View) : Type 0 where
  pub station : StationState
  pub called : HasAnswered Busy queue n (shown old.holder) station
  pub holder : new.holder ≡ record old.holder { station = station; slot = Some n; hand = None }
  pub settled : new.settled ≡ old.settled
  pub step : solo new ≡ device_to station.device (heard Back (missed_to true (solo old)))
  pub sole : SeesOpen queue old

-- The stop word of the packet's queue was loaded as 1 or 2: the packet n lies in the requeue slot, and MISSED is set.
pub record LaysAside (n queue : ℕ) (old new : View) : Type 0 where
  pub holder : new.holder ≡ record old.holder { slot = Some n; hand = None }
  pub settled : new.settled ≡ old.settled
  pub sole : IsSole old → (slice_index (account_of old).stops queue ≢ 0) × (solo new ≡ missed_to true (heard Back (draining_to true (missed_to false (solo old)))))

-- what a direct transmit of the packet n, which is of this queue, answers
abbrev pub Directs : Through → ℕ → ℕ → View → View → Type 0
Directs through.Yes n queue old new = Accepts n queue old new
Directs (through.Back why.Stopped) n queue old new = LaysAside n queue old new
Directs (through.Back why.Busy) n queue old new = IsBusyAt n queue old new

-- where the seat stands in a run, by how many packets that has sent
abbrev pub position_in_run : View → Position
position_in_run v = if v.place.run == QUOTA then Quota else begins v

-- where it stands after it
abbrev pub position_after : Through → Bool → View → Position
position_after through.Yes direct v = if direct then Post else position_in_run v
position_after (through.Back reason) direct v = Unlock

-- where it stands once the fate of a packet of this queue is stored, which the device accepted with this answer
abbrev pub sent_leads : Tx → ℕ → Bool → View → Position
sent_leads Sent queue direct v = position_after through.Yes direct v
sent_leads SentStop queue direct v = StoreXoff queue false direct
sent_leads SentHang queue direct v = StoreXoff 0 true direct
sent_leads Busy queue direct v = position_after through.Yes direct v

-- how many packets the run has sent after it
abbrev pub run_after : Through → ℕ → ℕ
run_after through.Yes run = run_counted run
run_after (through.Back reason) run = run

-- how many packets the device has accepted
abbrev pub accepted_count : View → ℕ
accepted_count v = length v.holder.station.device.accepted
