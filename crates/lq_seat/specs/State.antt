-- What a caller knows of a station's table, and of a sender's seat there.
use Rattle.std.specs.Prelude.{◌≡◌, ◌≤◌, ℕ, Bool, true, false, List, [], length, filter, replicate, slice_get, Some}
use Rattle.atomic_table.specs.Seated.{TableId}
use Rattle.lq_account_laws.specs.Progress.{len_of}
use Rattle.lq_control.specs.Finish.{AreRanks}
use Rattle.lq_model.specs.Account.{Account, Event, after_all}
use Rattle.lq_model.specs.Alone.{RunningStation, bypass_of}
use Rattle.lq_model.specs.Device.{DeviceState}
use Rattle.lq_model.specs.Plan.{Plan, queues_at}
use Rattle.lq_model.specs.declared.fate.Info.{Info}
use Rattle.lq_model.specs.declared.plan.StationPlan.{StationPlan}
use Rattle.lq_plan.specs.Limits.{max_len_at}
use Rattle.lq_qdisc.specs.Alone.{IsAlone, running}
use Rattle.lq_table.specs.Made.{Made}
use Rattle.lq_table.specs.Views.{Known}
use Rattle.lq_table.specs.Sees.{known, setup, Solo, Whole}
pub use Rattle.lq_table.specs.Keyed.{below}
pub use Rattle.lq_table.specs.Rule.{AreInfos, HasServed, HangsWhere, IsCallOf, latest_unit, station_count, times, units_of}
pub use Rattle.lq_table.specs.Sees.{closed_home, is_heard}
pub use Rattle.lq_table.specs.Views.{Setup, first_account, no_device, no_station}
use Rattle.lq_table.specs.declared.shared.Cpu.{Cpu}
use Rattle.lq_table.specs.declared.shared.Shared.{Shared}

-- A TABLE

-- which table it is, what it was made of, and the plan of its station
pub record TableState : Type 0 where
  pub id : TableId
  pub made : Setup
  pub plan : StationPlan

-- what the plan asks a station's table to be made of
abbrev pub setup_of : Plan → List Info → ℕ → Setup
setup_of plan infos j = record { infos = infos; senders = plan.senders; max_len = max_len_at plan.stations j; bypass = bypass_of plan j; station = j; len = len_of plan j; queues = queues_at plan.stations j }

-- the table is that of the plan's station
pub record IsTableOf (plan : Plan) (infos : List Info) (j : ℕ) (t : TableState) : Type 0 where
  pub setup_is : t.made ≡ setup_of plan infos j
  pub plan_is : slice_get plan.stations j ≡ Some t.plan

-- what a table is made of fits: each packet's owner, band and queue are there, and the packets are numbered by rank
pub record IsWellMade (k : Setup) : Type 0 where
  pub few : length k.infos ≤ 1000000
  pub infos : AreInfos k.infos k.station k.senders k.queues
  pub ranks : AreRanks k.infos

-- A SEAT

-- the table, and what it was made of; the seat's shares and owners, and whether it is the first one; whether it owes a soft
-- interrupt; the turn words, twice the count of each owner's packets that were brought; control's trail, the device that came and what
-- each unit sent that a swap took away, as the first seat knows them; whether it was told the whole station, and that; and the
-- steps that the seat made on the table's words, the latest first
pub record SeatState : Type 0 where
  pub table : TableId
  pub made : Setup
  pub shares : ℕ
  pub owners : List ℕ
  pub first : Bool
  pub raised : Bool
  pub turns : List ℕ
  pub trail : List Event
  pub origin : DeviceState
  pub gone : List (ℕ × List ℕ)
  pub told : Bool
  pub whole : Whole
  pub steps : List Made

-- the seat is one of this table
pub record IsHere (t : TableState) (s : SeatState) : Type 0 where
  pub table : s.table ≡ t.id
  pub made : s.made ≡ t.made

-- the only seat of a new table, over this device
abbrev pub new_seat : TableId → Setup → DeviceState → SeatState
new_seat table k device = record {
  table = table;
  made = k;
  shares = 1024;
  owners = below k.senders;
  first = true;
  raised = false;
  turns = replicate k.senders 0;
  trail = [];
  origin = device;
  gone = [];
  told = true;
  whole = record { past = []; missed = false; draining = false; scheduled = false; locked = false; device = device };
  steps = [];
}

-- it has all shares, and was told the whole station
abbrev pub HasAllOf : SeatState → Type 0
HasAllOf s = (s.shares ≡ 1024) × (s.told ≡ true)

-- the station's account, as the seat knows it
abbrev pub seat_account : SeatState → Account
seat_account s = after_all (first_account s.made) s.whole.past

-- what a seat knows that has the table alone: no account is changed by a look that finds a band empty
abbrev pub solo_of : SeatState → Solo
solo_of s = record { shares = s.shares; told = s.told; raised = s.raised; whole = record s.whole { past = filter is_heard s.whole.past } }

-- the seat has the table alone, and its device tells
abbrev pub HasAlone : SeatState → Type 0
HasAlone s = IsAlone s.made.infos (first_account s.made) (solo_of s)

-- the station of the run of one sender
abbrev pub running_of : SeatState → RunningStation
running_of s = running (first_account s.made) (solo_of s)

-- AS THE TABLE HAS THEM

abbrev pub seat_state : TableId → Known → SeatState
seat_state table k = record {
  table = table;
  made = k.view.share.about;
  shares = k.view.share.shares;
  owners = k.view.share.owners;
  first = k.view.control.first;
  raised = k.view.place.raised;
  turns = k.view.turns;
  trail = k.view.trail;
  origin = k.view.control.origin;
  gone = k.view.control.gone;
  told = k.view.whole.told;
  whole = record {
    past = k.view.whole.state.past;
    missed = k.view.whole.qdisc.missed;
    draining = k.view.whole.qdisc.draining;
    scheduled = k.view.whole.qdisc.sched;
    locked = k.view.whole.qdisc.locked;
    device = k.view.whole.state.station.device;
  };
  steps = k.steps;
}

module _ {D : Type 0} where
  abbrev pub seat_seen : Cpu D → SeatState
  seat_seen c = seat_state c.known.seat.table_id (known c)

  abbrev pub table_seen : Shared D → TableState
  table_seen t = record { id = t.table.kit.shared.table_id; made = setup t; plan = t.plan }
