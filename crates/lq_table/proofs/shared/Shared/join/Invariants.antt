use Rattle.std.specs.Prelude.{Option, ℕ, ◌≡◌, ◌≤◌}
use Rattle.lq_table.specs.Seats.{learn_view}
use Rattle.atomic_table.specs.Table.{Step}
use Rattle.lq_device.specs.Station.{StationState}
use Rattle.lq_table.specs.Moves.{Sat}
use Rattle.lq_table.specs.Views.{State}
use Rattle.lq_model.specs.Machine.{Qdisc}
use Rattle.lq_table.proofs.shared.Shared.join.Given as goal

abbrev pub learn_told : Step (Option StationState) → Sat → ℕ → Sat → Type 0
learn_told _ m found m' = (q : Qdisc) × (g : State) × (m' ≡ (learn_view q g m.0, m.1))

-- the whole state, and that it has no more shares than there are
abbrev pub learn_told_all : Step (Option StationState) → Sat → ℕ → Sat → Type 0
learn_told_all step m found m' = learn_told step m found m' × (m.0.share.shares ≤ 1024)

abbrev pub ghosts-load_word : goal.ghosts-load_word
ghosts-load_word g a = record { told = learn_told_all }
