use Rattle.std.specs.Prelude.{Option, false, true, ℕ, ◌≡◌}
use Rattle.lq_table.specs.States.{HasEvent, SeesDown, SeesState, check_view_refused, load_state_view}
use Rattle.lq_table.specs.Views.{View}
use Rattle.atomic_table.specs.Table.{Step}
use Rattle.lq_device.specs.Station.{StationState}
use Rattle.lq_table.specs.Moves.{Sat, is_set}
use Rattle.lq_table.specs.Sees.{IsSole}
use Rattle.lq_table.proofs.shared.Shared.check.Given as goal

-- what the first load of the state in a transmit tells a seat alone, and the first seat
abbrev pub SeesChecked : View → ℕ → Type 0
SeesChecked v found = (IsSole v → SeesState v found) × (v.control.first ≡ true → SeesDown v found)

abbrev pub check_told : ℕ → Step (Option StationState) → Sat → ℕ → Sat → Type 0
check_told n _ m found m' =
    (is_set 2 found ≡ false → m' ≡ (load_state_view found m.0, m.1))
    × (is_set 2 found ≡ true → HasEvent found (λ e. m' ≡ (check_view_refused n e found m.0, m.1)))

abbrev pub check_told_all : ℕ → Step (Option StationState) → Sat → ℕ → Sat → Type 0
check_told_all n s m found m' = check_told n s m found m' × SeesChecked m.0 found

abbrev pub ghosts-load_word : goal.ghosts-load_word
ghosts-load_word g a = record { told = check_told_all a.about.now }
