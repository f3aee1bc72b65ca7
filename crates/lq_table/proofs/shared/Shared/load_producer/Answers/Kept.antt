-- `load_producer` keeps the rule of the table.
use Rattle.std.proofs.Common.{ℕ, ◌<◌}
use mathlib.Core.Option.{none}
use Rattle.atomic_table.specs.Table.{step, Allows}
use Rattle.lq_table.specs.Places.{producer_place}
use Rattle.lq_table.specs.Views.{Setup}
use Rattle.lq_table.specs.Rule.{Rule}
use Rattle.lq_table.specs.Moves.{Sat, unchanged}
use Rattle.lq_table.specs.Producers.{SeesProducer}
use Rattle.lq_table.proofs.shared.Shared.load_producer.Invariants.{load_producer_told}
use Rattle.lq_table.proofs.Loads.{also, loads_any}
use Rattle.lq_table.proofs.ProducerSole.{sees_producer}

module _ (k : Setup) (slots id : ℕ) (m : Sat) (b : ℕ) (below : b < 3) (some_share : 0 < m.0.share.shares) where
  pub loads_producer : Allows (Rule k) slots id m (producer_place b) (λ x. x) (load_producer_told b (step slots (producer_place b) 0 0 none) m)
  loads_producer = also k slots id m (producer_place b) (λ x. x) (unchanged (step slots (producer_place b) 0 0 none) m) (SeesProducer b m.0)
      (λ s r here. sees_producer k s r id m.0 here b below some_share)
      (loads_any k slots id m (producer_place b))
