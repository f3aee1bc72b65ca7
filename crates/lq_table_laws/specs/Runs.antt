-- Steps of a table's seats, one after another.
use Rattle.std.specs.Prelude.{◌≡◌, ℕ, ◌+◌, ◌<◌, List, [], ◌∷◌, ◌++◌, length, slice_set}
use Rattle.lq_device.specs.Station.{StationState}
use Rattle.lq_model.specs.Words.{word_of}
use Rattle.lq_model.specs.declared.fate.Fate.{Fate}
use Rattle.lq_table.specs.Fates.{MaySend, settle_view_sent}
use Rattle.lq_table.specs.Places.{fates_offset}
use Rattle.lq_table.specs.Rule.{Rule, words_of}
use Rattle.lq_table.specs.Views.{Setup}
use Rattle.lq_table_laws.specs.Stands.{AreQueuesOpen, Table}
use Rattle.lq_table_laws.specs.Stepped.{AreMoves, KeepsStation, Stepped}

-- the table after a step
abbrev pub table_after : {k : Setup} {place : ℕ} → Stepped k place → Table
table_after {place = place} t = record {
  words = slice_set t.old.words place t.stored;
  homes = t.homes;
  views = slice_set t.old.views t.seat t.after;
}

-- by the step the packet n, which the device has just accepted, gets its fate: Sent is stored
pub record IsSettledAsSent (k : Setup) (n : ℕ) (t : Stepped k (fates_offset k + n)) : Type 0 where
  pub within : n < length k.infos
  pub keeps : KeepsStation t
  pub fate : Fate
  pub station : StationState
  pub accepted : MaySend n fate station t.before
  pub stores : t.stored ≡ word_of fate
  pub told : t.after ≡ settle_view_sent station t.before

-- Steps of any seats, in whatever order, lead from one table to another, each from what the step before it left. Before and after each of
-- them every stop word is 0. They are so many moves of the machine, of which none is of control and which cost so much together. By
-- them the fates of these packets were stored as Sent, the first one first.
pub data Runs (k : Setup) (s : Table) (r : Rule k s) : ℕ → ℕ → List ℕ → (s' : Table) → Rule k s' → Type 0 where
  no_step : AreQueuesOpen (words_of k s.words) → Runs k s r 0 0 [] s r
  -- then a step that is some moves more, or none
  then_moves : (moves cost : ℕ) (sent : List ℕ) (place more more_cost : ℕ) (t : Stepped k place) → Runs k s r moves cost sent t.old t.rule
      → AreMoves more more_cost t → AreQueuesOpen (words_of k (table_after t).words)
      → Runs k s r (moves + more) (cost + more_cost) sent (table_after t) t.rule_after
  -- or one that stores the fate of a packet that was sent, which is one move and costs nothing
  then_sends : (moves cost : ℕ) (sent : List ℕ) (n : ℕ) (t : Stepped k (fates_offset k + n)) → Runs k s r moves cost sent t.old t.rule
      → IsSettledAsSent k n t → AreQueuesOpen (words_of k (table_after t).words)
      → Runs k s r (moves + 1) cost (sent ++ n ∷ []) (table_after t) t.rule_after
