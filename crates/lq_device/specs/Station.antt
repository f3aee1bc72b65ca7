-- A station's device and what lies beside it, as callers see them, and what each call makes of them.
use Rattle.std.specs.Prelude.{◌≡◌, ℕ, ◌≤◌, List, [], ◌∷◌, length, slice_index, slice_set, Option, Some, None}
use Rattle.lq_model.specs.Device.{DeviceState, Answers}
use Rattle.lq_model.specs.declared.device.Tx.{Tx}

pub record StationState : Type 0 where
  -- what it has accepted is what the unit has sent
  pub device : DeviceState
  -- which of the bench's devices it is
  pub unit : ℕ
  -- the packet in the requeue slot
  pub slot : Option ℕ
  -- of each band's ring the slot that is consumed next, and the first slot that isn't emptied yet
  pub heads : List ℕ
  pub tails : List ℕ
  -- what the device answered last, once it has answered
  pub last : Option Tx

-- the packets that the unit has sent, in order of serial
abbrev pub sent_list : StationState → List ℕ
sent_list station = station.device.accepted

-- of three bands, and in none the tail is past the head
pub record AreBandEnds (heads tails : List ℕ) : Type 0 where
  pub three_heads : length heads ≡ 3
  pub three_tails : length tails ≡ 3
  pub in_order : (band : ℕ) → slice_index tails band ≤ slice_index heads band

abbrev pub initial_station : ℕ → DeviceState → StationState
initial_station unit device = record {
  device = device;
  unit = unit;
  slot = None;
  heads = 0 ∷ 0 ∷ 0 ∷ [];
  tails = 0 ∷ 0 ∷ 0 ∷ [];
  last = None;
}

abbrev pub with_slot : StationState → Option ℕ → StationState
with_slot station slot = record station { slot = slot }

abbrev pub with_ends : StationState → ℕ → ℕ → ℕ → StationState
with_ends station band head tail =
    record station { heads = slice_set station.heads band head; tails = slice_set station.tails band tail }

-- another device in the old one's place, which hasn't answered yet; the requeue slot and the ends stay
abbrev pub with_device : StationState → ℕ → DeviceState → StationState
with_device station unit device = record station { device = device; unit = unit; last = None }

-- The device answered a packet that was offered on a queue; all else is as it was.
pub record HasAnswered (answer : Tx) (queue packet : ℕ) (old new : StationState) : Type 0 where
  pub answers : Answers answer queue packet old.device new.device
  pub rest : new ≡ record old { device = new.device; last = Some answer }
