-- The machine for which the words and views of a table stand, and that somebody comes for what waits in it.
use Rattle.std.specs.Prelude.{◌≡◌, ◌⊎◌, ℕ, ◌+◌, ◌*◌, ◌<◌, ◌≤◌, false, length, slice_index, Contains, Option}
use Rattle.atomic_table.specs.Table as table
use Rattle.lq_device.specs.Station.{StationState}
use Rattle.lq_model.specs.Machine.{Machine}
use Rattle.lq_model.specs.declared.machine.Packet.{Packet}
use Rattle.lq_run_core.specs.Comes.{ControlMoves, SomebodyMoves}
use Rattle.lq_run_core.specs.Progress.{Course, Goes}
use Rattle.lq_run_core.specs.Waits.{AllOpen, IsWaiting, WaitsOpen, packets}
use Rattle.lq_table.specs.Between.{StandsForMachine}
use Rattle.lq_table.specs.Rule.{Words, machine_of, Rule}
use Rattle.lq_table.specs.Moves.{is_set}
use Rattle.lq_table.specs.Views.{Setup, View}

-- a table between two steps: its words, the slot with the station, and what each seat knows
abbrev pub Table : Type 0
Table = table.State (Option StationState) View

-- the machine for which they stand, and the one that the rule tells
abbrev pub machine_for : {k : Setup} {s : Table} → StandsForMachine k s → Machine
machine_for {s = s} x = machine_of x.qdisc s.views

abbrev pub machine_by : {k : Setup} {s : Table} → Rule k s → Machine
machine_by {s = s} r = machine_of r.qdisc s.views

-- each stop word is 0
abbrev pub AreQueuesOpen : Words → Type 0
AreQueuesOpen w = (queue : ℕ) → slice_index w.xoff queue ≡ 0

-- DEACTIVATED is clear, and each stop word is 0
pub record AreOpen (w : Words) : Type 0 where
  pub active : is_set 2 w.state ≡ false
  pub queues_open : AreQueuesOpen w

-- Somebody comes for each packet that waits, and no order of moves keeps it.
pub record LeavesNoPacket (m : Machine) : Type 0 where
  pub comes : (p : Packet) → m.qdisc.deactivated ≡ false → WaitsOpen p m → SomebodyMoves m ⊎ ControlMoves m
  -- while it waits and all queues are open, few moves come
  pub few : (p : Packet) (n : Machine) (c : Course) → Goes (WaitsOpen p) m c n → c.moves ≤ 20 * packets m + 42 * length m.seats + c.cost
  -- after more of them, with none of control, the device has accepted it
  pub sent : (p : Packet) (n : Machine) (c : Course) → IsWaiting p m → Goes AllOpen m c n → c.with_control ≡ false
      → 20 * packets m + 42 * length m.seats + c.cost < c.moves → Contains c.accepted p
