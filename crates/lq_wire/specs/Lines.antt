-- A line of a text.
use Rattle.std.specs.Prelude.{ℕ, List, [], ◌∷◌, ◌++◌, codes}
use Rattle.std.specs.Fmt.{decimal}

-- three numbers with a blank between them
abbrev pub numbers_line : ℕ → ℕ → ℕ → List ℕ
numbers_line first second third = decimal first ++ (codes " " ++ (decimal second ++ (codes " " ++ (decimal third ++ 10 ∷ []))))
