-- How far it is to the next multiple of a number.
use Rattle.std.specs.Prelude.{ℕ, ◌-◌, ◌%◌}

-- so many above a number stands the next multiple of another one; 0 where that is 0
abbrev pub left_to_multiple : ℕ → ℕ → ℕ
left_to_multiple number every = every - number % every
