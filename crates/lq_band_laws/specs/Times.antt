-- How often a number stands in a list.
use Rattle.std.specs.Prelude.{ℕ, ◌+◌, eqb, if◌then◌else◌, List, [], ◌∷◌}

abbrev pub times : ℕ → List ℕ → ℕ
times n [] = 0
times n (m ∷ ms) = (if eqb n m then 1 else 0) + times n ms
