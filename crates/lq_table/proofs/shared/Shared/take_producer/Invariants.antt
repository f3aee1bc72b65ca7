use Rattle.std.specs.Prelude.{◌/◌, Option, ℕ, ◌*◌, ◌<◌, ◌≡◌, ◌≢◌}
use Rattle.lq_table.specs.Keyed.{keyed_setup}
use Rattle.lq_table.specs.Producers.{SeesProducer, with_lock_at}
use Rattle.atomic_table.specs.Table.{Step}
use Rattle.lq_band_laws.specs.Ring.{locked_at}
use Rattle.lq_device.specs.Station.{StationState}
use Rattle.lq_table.specs.Moves.{Sat}
use Rattle.lq_table.proofs.shared.Shared.take_producer.Given as goal

-- the producer lock was free and is the seat's, with the index i; or it wasn't as the seat had seen it
abbrev pub take_producer_told : ℕ → ℕ → ℕ → Step (Option StationState) → Sat → ℕ → Sat → Type 0
take_producer_told b i limit _ m found m' = (found ≡ 2 * i → (m' ≡ (with_lock_at b (locked_at i) m.0, m.1)) × (i < limit)) × (found ≢ 2 * i → m' ≡ m)

abbrev pub take_producer_told_all : ℕ → ℕ → ℕ → Step (Option StationState) → Sat → ℕ → Sat → Type 0
take_producer_told_all b i limit s m found m' = take_producer_told b i limit s m found m' × SeesProducer b m.0 found

abbrev pub ghosts-compare_exchange_word : goal.ghosts-compare_exchange_word
ghosts-compare_exchange_word g a = let k = keyed_setup a.self.now.table.kit.shared.key in record { told = take_producer_told_all a.about.now (a.old / 2) k.max_len }
