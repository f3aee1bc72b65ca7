-- What becomes of a tap's packets, read off a list that has the fate of packet n at place n.
use Rattle.std.specs.Prelude.{◌≡◌, ◌≢◌, ◌↔◌, ◌<◌, ◌≤◌, ℕ, ◌-◌, ◌%◌, Bool, true, false, not, List, length, count_by, slice_get, Some, AllPairs}
use Rattle.lq_model.specs.Band.{batch}
use Rattle.lq_fates.specs.declared.tap_fate.TapFate.{TapFate}
use Rattle.lq_fates.specs.declared.tap_fate.TapFate.TheVariants.{Read, Full, Lost}

-- FATES

abbrev pub is_read : TapFate → Bool
is_read (Read place) = true
is_read _ = false

abbrev pub is_full_tap : TapFate → Bool
is_full_tap (Full seen) = true
is_full_tap _ = false

abbrev pub is_lost : TapFate → Bool
is_lost Lost = true
is_lost _ = false

-- how many packets were put into the ring: all that didn't find it full
abbrev pub put_count : List TapFate → ℕ
put_count fates = count_by (λ fate. not (is_full_tap fate)) fates

-- WHAT ISN'T READ

-- a packet n may be dropped as full where it saw that one: another packet, which was put into the ring, as were enough of
-- them to fill it but for a batch
pub record IsFullTapFate (len : ℕ) (fates : List TapFate) (n seen : ℕ) : Type 0 where
  pub another : seen ≢ n
  pub seen_put : (fate : TapFate) × (slice_get fates seen ≡ Some fate) × (is_full_tap fate ≡ false)
  pub enough : len - batch len ≤ put_count fates

-- what the fate of a packet n may be; a packet is lost only where others, that were put too, fill the ring
abbrev pub IsFateOf : ℕ → List TapFate → ℕ → TapFate → Type 0
IsFateOf len fates n (Read place) = Unit {0}
IsFateOf len fates n (Full seen) = IsFullTapFate len fates n seen
IsFateOf len fates n Lost = len ≤ put_count fates - 1

-- A RUN OF A TAP

-- the limits of a tap: its senders, the slots of its ring, and the packets of a batch
pub record IsTapWithin (senders len batch : ℕ) : Type 0 where
  pub some_senders : (1 ≤ senders) × (senders ≤ 8)
  pub some_slots : (1 ≤ len) × (len ≤ 4096)
  pub some_at_once : (1 ≤ batch) × (batch ≤ 64)

-- The fates of a run of so many packets, senders and slots, and the packets that were read, in order of place.
pub record IsTapRun (count senders len : ℕ) (fates : List TapFate) (read : List ℕ) : Type 0 where
  -- each packet has one fate
  pub one_each : length fates ≡ count
  -- the places are 0 up to the number that was read, each once
  pub places : (n place : ℕ) → (slice_get fates n ≡ Some (Read place)) ↔ (slice_get read place ≡ Some n)
  -- and each sender's packets stand in its order
  pub order : AllPairs (λ m n. m % senders ≡ n % senders → m < n) read
  -- where the ring has room for all packets, all are read
  pub room : count ≤ len → count_by is_read fates ≡ count
  -- each fate is one that the ring may give
  pub each : (n : ℕ) (fate : TapFate) → slice_get fates n ≡ Some fate → IsFateOf len fates n fate
  -- no more packets are lost than read
  pub few_lost : count_by is_lost fates ≤ count_by is_read fates
