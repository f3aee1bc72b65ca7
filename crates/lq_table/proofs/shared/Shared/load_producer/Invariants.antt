use Rattle.std.specs.Prelude.{Option, ℕ}
use Rattle.lq_table.specs.Producers.{SeesProducer}
use Rattle.lq_device.specs.Station.{StationState}
use Rattle.atomic_table.specs.Table.{Step}
use Rattle.lq_table.specs.Moves.{Sat, unchanged}
use Rattle.lq_table.proofs.shared.Shared.load_producer.Given as goal

abbrev pub load_producer_told : ℕ → Step (Option StationState) → Sat → ℕ → Sat → Type 0
load_producer_told b s m found m' = unchanged s m found m' × SeesProducer b m.0 found

abbrev pub ghosts-load_word : goal.ghosts-load_word
ghosts-load_word g a = record { told = load_producer_told a.about.now }
