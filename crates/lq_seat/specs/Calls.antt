-- What a sender's calls make of its seat at a station.
use Rattle.std.specs.Prelude.{◌≡◌, ℕ, ◌+◌, ◌-◌, ◌*◌, ◌<◌, ◌≤◌, Bool, true, false, List, [], ◌∷◌, ◌++◌, length, slice_index, slice_set, Option, Some, None}
use Rattle.lq_account_laws.specs.Controls.{with_control}
use Rattle.lq_account_laws.specs.Trail.{down_of}
use Rattle.lq_control.specs.Control.{IsAfterUnits}
use Rattle.lq_model.specs.Account.{Event, Refuse}
use Rattle.lq_model.specs.Alone.{RunningStation, brought_in, changed, new_device, opened, served}
use Rattle.lq_model.specs.Device.{DeviceState}
use Rattle.lq_model.specs.Legal.{brought}
use Rattle.lq_model.specs.Plan.{Plan, owner_in, rank_in, station_in}
use Rattle.lq_model.specs.declared.device.Params.{Params}
use Rattle.lq_model.specs.declared.plan.EventKind.{EventKind}
use Rattle.lq_model.specs.declared.plan.EventKind.TheVariants as kind
use Rattle.lq_plan.specs.Limits.{IsKindWithin}
use Rattle.lq_qdisc.specs.Alone.{Does}
use Rattle.lq_seat.specs.State.{HasServed, SeatState, first_account, latest_unit, no_device, solo_of, station_count, times, units_of}
use Rattle.lq_seat.specs.Steps.{ControlsBy, DoesInterrupts, LooksAtStops, Makes, MakesAndServes, SwapsBy, Transmits}
use Rattle.lq_table.specs.Made.{◌⊳◌, cut, with_join, load_base_log}
pub use Rattle.lq_table.specs.Seats.{with_turns, without}

-- for a seat that has the table alone and whose device tells, the station is just as after this step of the run of one sender
abbrev pub DoesAlone : (RunningStation → RunningStation) → SeatState → SeatState → Type 0
DoesAlone step old new = Does old.made.infos (first_account old.made) step (solo_of old) (solo_of new)

-- SENDING

abbrev pub refused_by : Event → Option ℕ
refused_by (Refuse n event) = Some event
refused_by event = None

-- packet n came after the events of a trail, refused exactly where that has the station deactivated
pub record Came (n : ℕ) (old new : List Event) : Type 0 where
  pub event : Event
  pub brings : brought event ≡ Some n
  pub refused : down_of old ≡ refused_by event
  pub trail : new ≡ event ∷ old

-- packet n is the seat's to send: it is the station's, and the next of an owner of the seat
pub record MaySendNext (n : ℕ) (s : SeatState) : Type 0 where
  pub within : n < length s.made.infos
  pub station : station_in s.made.infos n ≡ s.made.station
  pub own : 0 < times (owner_in s.made.infos n) s.owners
  pub turn : slice_index s.turns (owner_in s.made.infos n) ≡ 2 * rank_in s.made.infos n

-- the turns after packet n
abbrev pub turns_after : ℕ → SeatState → List ℕ
turns_after n s = slice_set s.turns (owner_in s.made.infos n) (2 * rank_in s.made.infos n + 2)

-- packet n was sent, and no soft interrupt is owed
pub record SendsPacket (n : ℕ) (old new : SeatState) : Type 0 where
  pub is : new ≡ record old { turns = turns_after n old; raised = false; trail = new.trail; whole = new.whole; steps = new.steps }
  pub came : old.first ≡ true → owner_in old.made.infos n ≡ 0 → Came n old.trail new.trail
  pub by : MakesAndServes (Transmits n) old new
  pub alone : DoesAlone (λ r. served old.made.infos (brought_in old.made.infos old.made.bypass n r)) old new

-- WAKES AND SOFT INTERRUPTS

-- the queues were woken, and the seat may owe a soft interrupt; where none of them was opened, it knows what it knew
pub record WakesQueues (one_opened : Bool) (old new : SeatState) : Type 0 where
  pub is : new ≡ record old { raised = new.raised; whole = new.whole; steps = new.steps }
  pub by : Makes (LooksAtStops one_opened) old new
  pub none : one_opened ≡ false → new ≡ record old { steps = new.steps }
  pub alone : DoesAlone opened old new

-- soft interrupts were done until none was owed
pub record Drains (old new : SeatState) : Type 0 where
  pub is : new ≡ record old { raised = false; whole = new.whole; steps = new.steps }
  pub by : Makes DoesInterrupts old new
  pub alone : DoesAlone (served old.made.infos) old new

-- EVENTS

-- where each event may come: an activation where the station is deactivated, and every other where it is active
abbrev pub MayDoEvent : EventKind → List Event → Type 0
MayDoEvent kind.Down trail = down_of trail ≡ None
MayDoEvent kind.Up trail = (event : ℕ) × (down_of trail ≡ Some event)
MayDoEvent (kind.Resize len) trail = down_of trail ≡ None
MayDoEvent (kind.TxQueueLen len) trail = down_of trail ≡ None
MayDoEvent (kind.Swap params) trail = down_of trail ≡ None

-- the seat may do an event of this kind
pub record MayChange (kind : EventKind) (s : SeatState) : Type 0 where
  pub first : s.first ≡ true
  pub within : IsKindWithin s.made.max_len kind
  pub may : MayDoEvent kind s.trail

-- an event of the plan that is no swap of the device was done, up to the soft interrupts
pub record Changes (plan : Plan) (event : ℕ) (kind : EventKind) (old new : SeatState) : Type 0 where
  pub is : new ≡ record old { raised = new.raised; trail = with_control plan event kind old.trail; whole = new.whole; steps = new.steps }
  pub by : Makes (ControlsBy event kind) old new
  pub alone : DoesAlone (changed plan event kind) old new

-- it was done, and no soft interrupt is owed
pub record DoesEvent (plan : Plan) (event : ℕ) (kind : EventKind) (old new : SeatState) : Type 0 where
  pub is : new ≡ record old { raised = false; trail = with_control plan event kind old.trail; whole = new.whole; steps = new.steps }
  pub by : MakesAndServes (ControlsBy event kind) old new
  pub alone : DoesAlone (λ r. served old.made.infos (changed plan event kind r)) old new

-- the seat may have its device swapped for this one, of this unit
pub record MaySwap (unit : ℕ) (device : DeviceState) (s : SeatState) : Type 0 where
  pub first : s.first ≡ true
  pub active : down_of s.trail ≡ None
  pub small : unit < 256
  pub later : IsAfterUnits s.made.station s.trail unit
  pub fresh : (device.accepted ≡ []) × (device.asked ≡ []) × (device.hung ≡ false)
  pub room : station_count s.made.infos s.made.station ≤ device.spare

-- the device was swapped: one came, and the other went
pub record DoesSwap (plan : Plan) (event : ℕ) (params : Params) (came went : DeviceState) (old new : SeatState) : Type 0 where
  pub is : new ≡ record old {
    raised = false;
    trail = with_control plan event (kind.Swap params) old.trail;
    origin = came;
    gone = (latest_unit old.made.station (units_of old.trail), went.accepted) ∷ old.gone;
    whole = new.whole;
    steps = new.steps;
  }
  pub by : MakesAndServes (SwapsBy event came went) old new
  pub has_served : HasServed old.made.infos old.made.station old.origin went
  pub alone : came.told ≡ Some (new_device params) → DoesAlone (λ r. served old.made.infos (changed plan event (kind.Swap params) r)) old new

-- SEVERAL SEATS

-- the seat without one share and this owner
abbrev pub keeping_seat : ℕ → SeatState → SeatState
keeping_seat o s = record s { shares = s.shares - 1; owners = without o s.owners; steps = s.steps ⊳ cut }

-- a new seat of the same table, with one share and this owner
abbrev pub offspring_seat : ℕ → SeatState → SeatState
offspring_seat o s = record s { shares = 1; owners = o ∷ []; first = false; raised = false; trail = []; origin = no_device; gone = []; told = false; steps = [] }

-- another seat of the same table, which may be joined into this one
pub record IsBeside (s other : SeatState) : Type 0 where
  pub table : other.table ≡ s.table
  pub made : other.made ≡ s.made
  pub first : other.first ≡ false
  pub raised : other.raised ≡ false

-- the other seat was joined into this one, which was told the whole station
abbrev pub Joins : SeatState → SeatState → SeatState → Type 0
Joins old other new = new ≡ record old {
  shares = old.shares + other.shares;
  owners = old.owners ++ other.owners;
  turns = with_turns other.owners other.turns old.turns;
  told = true;
  whole = new.whole;
  steps = new.steps;
}

-- with that seat's steps, and one load more, of the table's base word
abbrev pub LoadsBase : SeatState → SeatState → SeatState → Type 0
LoadsBase old other new = (found : ℕ) × (new.steps ≡ with_join other.steps old.steps ⊳ load_base_log found)
