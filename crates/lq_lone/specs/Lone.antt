-- A station of the run of one sender as code has it: one queue, and a device that accepts each packet and stops the queue at it.
use Rattle.std.specs.Prelude.{◌≡◌, ℕ, ◌+◌, ◌<◌, Bool, true, false, if◌then◌else◌, List, [], ◌∷◌, ◌++◌, length, slice_get, Option, Some, None, is_some, option_to_list}
use Rattle.lq_model.specs.Account.{Fates}
use Rattle.lq_model.specs.Alone.{RunningStation}
use Rattle.lq_model.specs.Band.{Band, empty_band, held_of, taken_by}
use Rattle.lq_model.specs.Plan.{queue_in}
use Rattle.lq_model.specs.Wire.{sent_now}
use Rattle.lq_model.specs.declared.fate.Info.{Info}
use Rattle.lq_model.specs.declared.plan.EventKind.{EventKind}
use Rattle.lq_model.specs.declared.plan.EventKind.TheVariants as kind
use Rattle.lq_lone.specs.declared.line.Line.{Line}
use Rattle.lq_lone.specs.declared.lone.Lone.{Lone}

abbrev pub line_band : Line → Band
line_band line = record { line = line.joined.items; taken = line.taken }

-- what code doesn't keep of a station: its bands as a function, what was sent, the fates, the event that deactivated it, and how far Busy is
pub record Rest : Type 0 where
  pub bands : ℕ → Band
  pub unit : ℕ
  pub sent : ℕ → List ℕ
  pub fates : Fates
  pub down : Option ℕ
  pub busy_limit : ℕ
  pub busies : ℕ

-- the station with what code keeps: the length, the requeue slot, whether the queue is stopped, and whether a packet may go past the bands
abbrev pub station_with : Rest → ℕ → Option ℕ → Bool → Bool → RunningStation
station_with x len slot stopped clean = record {
  account = record {
    len = len;
    bands = x.bands;
    slot = slot;
    hand = None;
    unit = x.unit;
    sent = x.sent;
    fates = x.fates;
    stops = (if stopped then 1 else 0) ∷ [];
    down = x.down;
  };
  clean = clean;
  device = record { params = record { burst = 1; busy_every = 0; busy_limit = x.busy_limit; hang_after = 0 }; busies = x.busies };
}

-- what code keeps
pub record LoneState : Type 0 where
  pub len : ℕ
  pub low : Band
  pub mid : Band
  pub high : Band
  pub slot : Option ℕ
  pub stopped : Bool
  pub clean : Bool
  pub down : Bool

abbrev pub lone_state : Lone → LoneState
lone_state m = record { len = m.len; low = line_band m.low; mid = line_band m.mid; high = line_band m.high; slot = m.slot; stopped = m.stopped; clean = m.clean; down = m.down }

-- it is this station
pub record IsLone (m : LoneState) (s : RunningStation) : Type 0 where
  pub rest : Rest
  pub is : s ≡ station_with rest m.len m.slot m.stopped m.clean
  pub low : rest.bands 0 ≡ m.low
  pub mid : rest.bands 1 ≡ m.mid
  pub high : rest.bands 2 ≡ m.high
  pub down : is_some rest.down ≡ m.down

-- each packet has queue 0
abbrev pub HaveOneQueue : List Info → Type 0
HaveOneQueue infos = (n : ℕ) → queue_in infos n ≡ 0

-- the station went from one state to another, at which the device accepted just this packet, if any
pub record StepsLone (accepted : Option ℕ) (new : LoneState) (s t : RunningStation) : Type 0 where
  pub is : IsLone new t
  pub sent : sent_now t ≡ sent_now s ++ option_to_list accepted

-- how many packets wait
abbrev pub slot_count : Option ℕ → ℕ
slot_count o = if is_some o then 1 else 0

abbrev pub waiting : LoneState → ℕ
waiting m = length (held_of m.low) + length (held_of m.mid) + length (held_of m.high) + slot_count m.slot

-- a station at its start
abbrev pub new_state : ℕ → LoneState
new_state len = record { len = len; low = empty_band; mid = empty_band; high = empty_band; slot = None; stopped = false; clean = true; down = false }

-- the first packet that a band holds
abbrev pub first_of : Band → Option ℕ
first_of band = slice_get (held_of band) 0

-- the packet of the slot was taken, or else the first of the lowest band that holds one; all else is as it was
pub data TakesNext (taken : Option ℕ) (old new : LoneState) : Type 0 where
  slot_taken : (n : ℕ) → taken ≡ Some n → old.slot ≡ Some n → new ≡ record old { slot = None } → TakesNext taken old new
  low_taken : (n : ℕ) → taken ≡ Some n → old.slot ≡ None → first_of old.low ≡ Some n
      → new ≡ record old { low = taken_by old.low 1 } → TakesNext taken old new
  mid_taken : (n : ℕ) → taken ≡ Some n → old.slot ≡ None → first_of old.low ≡ None → first_of old.mid ≡ Some n
      → new ≡ record old { mid = taken_by old.mid 1 } → TakesNext taken old new
  high_taken : (n : ℕ) → taken ≡ Some n → old.slot ≡ None → first_of old.low ≡ None → first_of old.mid ≡ None → first_of old.high ≡ Some n
      → new ≡ record old { high = taken_by old.high 1 } → TakesNext taken old new
  none_taken : taken ≡ None → old.slot ≡ None → first_of old.low ≡ None → first_of old.mid ≡ None → first_of old.high ≡ None → new ≡ old → TakesNext taken old new

-- nothing is held, or the station isn't served
pub data HasNothingToServe (m : LoneState) : Type 0 where
  is_stopped : m.stopped ≡ true → HasNothingToServe m
  is_down : m.down ≡ true → HasNothingToServe m
  is_empty : m.clean ≡ true → m.slot ≡ None → first_of m.low ≡ None → first_of m.mid ≡ None → first_of m.high ≡ None → HasNothingToServe m

-- an event that gives the bands a length gives them a slot
abbrev pub IsLengthened : EventKind → Type 0
IsLengthened (kind.Resize len) = 0 < len
IsLengthened (kind.TxQueueLen len) = 0 < len
IsLengthened _ = Unit {0}
