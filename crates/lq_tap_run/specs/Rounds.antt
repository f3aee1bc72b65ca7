-- How the reader reads: round by round, by the steps of its seat.
use Rattle.std.specs.Prelude.{◌≡◌, ◌≢◌, ◌⊎◌, ℕ, ◌-◌, ◌/◌, List, [], length, drop, replicate}
use Rattle.lq_tap.specs.Made.{Made, ◌⊳◌, cut, with_join, did_load_base}
use Rattle.lq_tap.specs.Sees.{SeesEnded, steps, view}
use Rattle.lq_tap.specs.Steps.{GetsBatch, GivesBack}
use Rattle.lq_tap.specs.Told.{having_given_back, having_taken}
use Rattle.lq_tap.specs.declared.shared.TapSeat.{TapSeat}

-- A CALL

-- it asks for a batch of up to so many packets, and takes these
abbrev pub TakesBatch : ℕ → ℕ → List ℕ → TapSeat → TapSeat → Type 0
TakesBatch len asked batch old new = (view new ≡ having_taken batch (view old)) × GetsBatch len (view old).reader.ends batch asked (steps old) (steps new)

-- the second half of a batch: half as many packets, rounded down
abbrev pub second_half : List ℕ → List ℕ
second_half batch = drop (length batch - length batch / 2) batch

-- it gives that half back, the first so many packets of which are destroyed
abbrev pub GivesHalf : ℕ → List ℕ → TapSeat → TapSeat → Type 0
GivesHalf len batch old new = (lost : ℕ) × (view new ≡ having_given_back (second_half batch) lost (view old))
    × GivesBack len (view old).reader.ends (drop lost (second_half batch)) lost (steps old) (steps new)

-- ROUNDS

-- One round: a look, at which so many senders had ended, a batch, and its second half given back unless it is empty.
pub record IsRound (len asked found : ℕ) (batch : List ℕ) (old new : TapSeat) : Type 0 where
  pub looked : TapSeat
  pub taken : TapSeat
  pub looks : SeesEnded found old looked
  pub takes : TakesBatch len asked batch looked taken
  pub gives : ((batch ≡ []) × (new ≡ taken)) ⊎ ((batch ≢ []) × GivesHalf len batch taken new)

-- rounds one after the other, at each of which some sender hadn't ended when it looked, or the batch wasn't empty
pub data ReadsRounds (len senders asked : ℕ) (old : TapSeat) : TapSeat → Type 0 where
  no_round : ReadsRounds len senders asked old old
  one_round : (found : ℕ) (batch : List ℕ) (now new : TapSeat) → ReadsRounds len senders asked old now → IsRound len asked found batch now new
      → (found ≢ senders) ⊎ (batch ≢ []) → ReadsRounds len senders asked old new

-- such rounds, and then the last one: all senders had ended when it looked, and the batch was empty
abbrev pub ReadsToEnd : ℕ → ℕ → ℕ → TapSeat → TapSeat → Type 0
ReadsToEnd len senders asked old new = (now : TapSeat) × ReadsRounds len senders asked old now × IsRound len asked senders [] now new

-- A RUN

-- seats with some steps were joined, each with a load of the base word behind it, and nothing else was done
pub data JoinsSeats (old : List Made) : List Made → Type 0 where
  none_joined : JoinsSeats old old
  one_joined : (found : ℕ) (other made : List Made) → JoinsSeats old made → JoinsSeats old (with_join other made ⊳ did_load_base found)

-- What the reader of a run did, once the senders' seats were cut off its own: such rounds to the end, and then those seats were joined. Its seat made
-- the steps of these and no other, and what it took in them and didn't give back is what it read.
pub record ReadsByHalves (len senders asked : ℕ) (read : List ℕ) (seat : TapSeat) : Type 0 where
  pub first : TapSeat
  pub last : TapSeat
  pub unread : (steps first ≡ replicate senders cut) × ((view first).reader.taken ≡ [])
  pub rounds : ReadsToEnd len senders asked first last
  pub joins : JoinsSeats (steps last) (steps seat)
  pub read_is : (view last).reader.taken ≡ read
