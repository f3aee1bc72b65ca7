-- The text that tells what a schedule leaves.
use Rattle.std.proofs.Common.{◌≡◌, ℕ, ◌+◌, [], ◌∷◌, ◌++◌, refl, add-one}
use Rattle.std.specs.List.{flat_map}
use Rattle.std.proofs.lemmas.Grind.{flat_map-append}
use Rattle.std.proofs.lemmas.List.{append-nil}
use Rattle.lq_model.specs.Numbers.{first_numbers}
use Rattle.lq_model.specs.Machine.{Machine, seat_at}
use Rattle.lq_run_core.specs.TraceText.{seat_line}

-- a line for one seat more
pub seat_lines_more : (m : Machine) (i : ℕ)
    → flat_map (λ k. seat_line k (seat_at m k)) (first_numbers (i + 1)) ≡ flat_map (λ k. seat_line k (seat_at m k)) (first_numbers i) ++ seat_line i (seat_at m i)
seat_lines_more m i = rw (add-one i, flat_map-append (λ k. seat_line k (seat_at m k)) (first_numbers i) (i ∷ []), append-nil (seat_line i (seat_at m i))) refl
