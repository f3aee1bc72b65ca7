use Rattle.std.specs.Prelude.{Option, ℕ, ◌≡◌, ◌≢◌}
use Rattle.lq_table.specs.Locks.{look_lock_view}
use Rattle.lq_model.specs.Machine.{bit}
use Rattle.atomic_table.specs.Table.{Step}
use Rattle.lq_device.specs.Station.{StationState}
use Rattle.lq_table.specs.Moves.{Sat}
use Rattle.lq_table.specs.Sees.{IsSole}
use Rattle.lq_table.proofs.shared.Shared.look_lock.Given as goal

abbrev pub look_lock_told : Step (Option StationState) → Sat → ℕ → Sat → Type 0
look_lock_told _ m found m' = (found ≡ 0 → m' ≡ m) × (found ≢ 0 → m' ≡ (look_lock_view m.0, m.1))

abbrev pub look_lock_told_all : Step (Option StationState) → Sat → ℕ → Sat → Type 0
look_lock_told_all s m found m' = look_lock_told s m found m' × (IsSole m.0 → found ≡ bit m.0.whole.qdisc.locked)

abbrev pub ghosts-load_word : goal.ghosts-load_word
ghosts-load_word g a = record { told = look_lock_told_all }
