-- What a sender has put, and what it found full.
use Rattle.std.specs.Prelude.{◌≡◌, ◌<◌, ◌≤◌, ℕ, ◌+◌, ◌*◌, ◌/◌, ◌%◌, Bool, true, false, ◌&&◌, eqb, nat_lt, if◌then◌else◌, List, map, slice_get, Some, vec_capacity, vec_len}
use Rattle.lq_band_laws.specs.Times.{times}
use Rattle.lq_tap.specs.Sees.{IsMadeFor, IsSenderOf, view}
use Rattle.lq_tap.specs.Views.{View}
use Rattle.lq_tap.specs.declared.shared.Tap.{Tap}
use Rattle.lq_tap_run.specs.declared.lanes.Lane.{Lane}

-- the packets that were found full, without what they saw
abbrev pub numbers_of : List (ℕ × ℕ) → List ℕ
numbers_of fulls = map (λ full. full.0) fulls

-- how often a packet was put or found full
abbrev pub brought_by_lane : ℕ → View → ℕ
brought_by_lane n v = times n v.sender.puts + times n (numbers_of v.sender.fulls)

abbrev pub one_where : Bool → ℕ
one_where b = if b then 1 else 0

-- the sender has brought its packets below n, each once, and no other
pub record HasBrought (packets senders sender n : ℕ) (v : View) : Type 0 where
  pub once : (m : ℕ) → brought_by_lane m v ≡ one_where (eqb (m % senders) sender && nat_lt m n)
  pub below : (m : ℕ) → packets ≤ m → brought_by_lane m v ≡ 0

-- the tap is one for so many packets and senders
pub record CanPut (tap : Tap) (packets senders : ℕ) : Type 0 where
  pub made : IsMadeFor packets tap.len senders tap
  pub few_packets : packets ≤ 1000000
  pub few_senders : (0 < senders) × (senders ≤ 8)

-- the sender is about to bring n, its packet k
pub record LaneStandsAt (tap : Tap) (packets senders sender k n : ℕ) (lane : Lane) : Type 0 where
  pub seat : IsSenderOf tap lane.seat
  pub going : (view lane.seat).sender.going ≡ true
  pub next : (view lane.seat).sender.next ≡ n
  pub number : n ≡ sender + k * senders
  pub mine : n % senders ≡ sender
  pub fulls : lane.full.items ≡ (view lane.seat).sender.fulls
  pub few : vec_len lane.full ≤ k
  pub has : HasBrought packets senders sender n (view lane.seat)

-- there is room for all of its packets
abbrev pub LaneHasRoom : ℕ → ℕ → Lane → Type 0
LaneHasRoom packets senders lane = packets / senders + 1 ≤ vec_capacity lane.full

pub record IsLaneReady (tap : Tap) (packets senders sender : ℕ) (lane : Lane) : Type 0 where
  pub below : sender < senders
  pub stands : LaneStandsAt tap packets senders sender 0 sender lane
  pub room : LaneHasRoom packets senders lane

-- it has ended, and brought all of its packets
pub record IsLaneDone (tap : Tap) (packets senders sender : ℕ) (lane : Lane) : Type 0 where
  pub seat : IsSenderOf tap lane.seat
  pub over : (view lane.seat).sender.going ≡ false
  pub fulls : lane.full.items ≡ (view lane.seat).sender.fulls
  pub once : (m : ℕ) → brought_by_lane m (view lane.seat) ≡ one_where (eqb (m % senders) sender && nat_lt m packets)

-- each lane is that of the sender at its place
abbrev pub AreReady : Tap → ℕ → ℕ → List Lane → Type 0
AreReady tap packets senders lanes = (i : ℕ) (lane : Lane) → slice_get lanes i ≡ Some lane → IsLaneReady tap packets senders i lane

abbrev pub AreDone : Tap → ℕ → ℕ → List Lane → Type 0
AreDone tap packets senders lanes = (i : ℕ) (lane : Lane) → slice_get lanes i ≡ Some lane → IsLaneDone tap packets senders i lane
