-- What a sender's calls at its seat do: the steps of the calls of the crates below, in the order in which they are made.
use Rattle.std.specs.Prelude.{◌≡◌, ℕ, Bool}
use Rattle.lq_control.specs.EndSteps.{EndStation}
use Rattle.lq_control.specs.Steps.{ChangeTxQueueLen, DevActivate, DevDeactivate, Drain, ResizeLive, SwapAt}
use Rattle.lq_model.specs.Device.{DeviceState}
use Rattle.lq_model.specs.declared.plan.EventKind.{EventKind}
use Rattle.lq_model.specs.declared.plan.EventKind.TheVariants as kind
use Rattle.lq_qdisc.specs.Sends.{WakesBelow}
use Rattle.lq_qdisc.specs.StepLists.{LeadsBy}
use Rattle.lq_qdisc.specs.Steps.{TransmitsBy}
use Rattle.lq_qdisc.specs.declared.answers.Sending.{Sending}
use Rattle.lq_seat.specs.State.{SeatState, Setup, seat_state}
use Rattle.lq_table.specs.Views.{Known}

-- The seat made the steps of this call, at a table that was made of its setup: from what it then knew to what it knew after.
abbrev pub Makes : (Setup → Known → Known → Type 0) → SeatState → SeatState → Type 0
Makes call old new = (before : Known) × (after : Known) × (seat_state old.table before ≡ old) × (seat_state old.table after ≡ new) × call old.made before after

-- packet n is transmitted, in its turn
abbrev pub Transmits : ℕ → Setup → Known → Known → Type 0
Transmits n k old new = (answer : Sending) × TransmitsBy k n answer old new

-- the stop word of each queue is looked at, and exchanged where it is 1; the truth value says whether one was
abbrev pub LooksAtStops : Bool → Setup → Known → Known → Type 0
LooksAtStops opened k old new = WakesBelow k k.queues opened old new

-- soft interrupts are done, one after the other
abbrev pub DoesInterrupts : Setup → Known → Known → Type 0
DoesInterrupts k old new = LeadsBy (Drain k) old new

-- and then those of soft interrupts
abbrev pub MakesAndServes : (Setup → Known → Known → Type 0) → SeatState → SeatState → Type 0
MakesAndServes call old new = (between : SeatState) × (between.made ≡ old.made) × Makes call old between × Makes DoesInterrupts between new

-- an event of the plan is done that swaps no device
abbrev pub ControlsBy : ℕ → EventKind → Setup → Known → Known → Type 0
ControlsBy event kind.Down k old new = (count : ℕ) × LeadsBy (DevDeactivate k event count) old new
ControlsBy event kind.Up k old new = LeadsBy DevActivate old new
ControlsBy event (kind.Resize len) k old new = (count : ℕ) × LeadsBy (ResizeLive event len count) old new
ControlsBy event (kind.TxQueueLen len) k old new = (count : ℕ) × LeadsBy (ChangeTxQueueLen k event len count) old new
ControlsBy event (kind.Swap params) k old new = ⊥

-- the device is swapped
abbrev pub SwapsBy : ℕ → DeviceState → DeviceState → Setup → Known → Known → Type 0
SwapsBy event came went k old new = (unit : ℕ) × LeadsBy (SwapAt k event unit came went) old new

-- the station is brought to its end
abbrev pub EndsStation : Setup → Known → Known → Type 0
EndsStation k old new = (count : ℕ) × LeadsBy (EndStation k count) old new
