-- The machine of the run lock: its words and bits, its packets and its seats.
use Rattle.std.specs.Prelude.{ℕ, ◌+◌, ◌*◌, Bool, true, false, ◌||◌, nat_lt, ◌==◌, if◌then◌else◌, List, [], ◌∷◌, length, slice_index, slice_index_or, replicate, Option, None}
use Rattle.lq_model.specs.declared.machine.Packet.{Packet}
use Rattle.lq_model.specs.declared.machine.Phase.{Phase}
use Rattle.lq_model.specs.declared.machine.Phase.TheVariants.{Active}
use Rattle.lq_model.specs.declared.machine.Position.TheVariants.{Idle}
use Rattle.lq_model.specs.declared.machine.Seat.{Seat}

-- WORDS AND BITS

-- a purge under way: the bands below this one were found empty, and which bits were cleared after them
pub record Purge : Type 0 where
  pub band : ℕ
  pub missed : Bool
  pub draining : Bool

-- what the seats share
pub record Qdisc : Type 0 where
  -- the bits of the state
  pub sched : Bool
  pub deactivated : Bool
  pub missed : Bool
  pub draining : Bool
  -- the run lock
  pub locked : Bool
  -- the stop word of each queue: 0 open, 1 stopped, 2 hung
  pub xoff : List ℕ
  -- the calls inside
  pub inside : ℕ
  -- the lists of the three bands, each of at most len packets
  pub bands : List (List Packet)
  pub len : ℕ
  -- the requeue slot
  pub slot : Option Packet
  -- whether a packet may go past the bands
  pub bypass : Bool
  -- how many packets were sent, and refused as full
  pub sent : ℕ
  pub full : ℕ
  -- how far control has come
  pub phase : Phase
  pub purge : Option Purge

abbrev pub bit : Bool → ℕ
bit b = if b then 1 else 0

abbrev pub state_word : Qdisc → ℕ
state_word q = bit q.sched + 2 * bit q.deactivated + 4 * bit q.missed + 8 * bit q.draining

-- MISSED or DRAINING is set
abbrev pub is_non_empty : Qdisc → Bool
is_non_empty q = q.missed || q.draining

abbrev pub is_queue_open : Qdisc → ℕ → Bool
is_queue_open q queue = slice_index q.xoff queue == 0

-- several queues share the bands
abbrev pub has_several_queues : Qdisc → Bool
has_several_queues q = nat_lt 1 (length q.xoff)

abbrev pub band_at : Qdisc → ℕ → List Packet
band_at q band = slice_index_or q.bands band []

abbrev pub is_closed : Phase → Bool
is_closed Active = false
is_closed _ = true

-- SEATS

abbrev pub idle_seat : Seat
idle_seat = record { position = Idle; raised = false; run = 0 }

-- THE MACHINE

pub record Machine : Type 0 where
  pub qdisc : Qdisc
  pub seats : List Seat

abbrev pub seat_at : Machine → ℕ → Seat
seat_at m i = slice_index_or m.seats i idle_seat

-- all words 0, all lists empty, all seats idle
abbrev pub first_qdisc : ℕ → Bool → ℕ → Qdisc
first_qdisc len bypass queues = record {
  sched = false;
  deactivated = false;
  missed = false;
  draining = false;
  locked = false;
  xoff = replicate queues 0;
  inside = 0;
  bands = [] ∷ [] ∷ [] ∷ [];
  len = len;
  slot = None;
  bypass = bypass;
  sent = 0;
  full = 0;
  phase = Active;
  purge = None;
}

abbrev pub first_machine : ℕ → ℕ → Bool → ℕ → Machine
first_machine seats len bypass queues = record { qdisc = first_qdisc len bypass queues; seats = replicate seats idle_seat }
