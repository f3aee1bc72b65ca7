-- Lists of numbers that several definitions use.
use Rattle.std.specs.Prelude.{ℕ, zero, suc, List, [], ◌∷◌, ◌++◌, max, fold}

-- the numbers below n
abbrev pub first_numbers : ℕ → List ℕ
first_numbers zero = []
first_numbers (suc n) = first_numbers n ++ n ∷ []

-- the greatest of them; 0 of none
abbrev pub greatest : List ℕ → ℕ
greatest numbers = fold (λ most number. max most number) 0 numbers
