-- The texts, a line at a time.
use Rattle.std.proofs.Common.{◌≡◌, ◌<◌, ◌≤◌, ◌+◌, ◌^◌, ◌++◌, ℕ, arith, List, length, sym, ap, ◌∙◌, add-one}
use Rattle.std.specs.Fmt.{decimal}
use Rattle.std.specs.List.{flat_map}
use Rattle.std.proofs.lemmas.Fmt.{length-decimal-le}
use Rattle.std.proofs.lemmas.List.{flat_map_more}
use Rattle.lq_model.specs.Numbers.{first_numbers}

pub lines_more : (f : ℕ → List ℕ) (before : List ℕ) (n : ℕ) → (before ++ flat_map f (first_numbers n)) ++ f n ≡ before ++ flat_map f (first_numbers (n + 1))
lines_more f before n = flat_map_more f before (first_numbers n) n ∙ ap (λ k. before ++ flat_map f (first_numbers k)) (sym (add-one n))

-- how long a number is
pub short_number : (n : ℕ) → n < 2 ^ 32 → length (decimal n) ≤ 10
short_number n h = length-decimal-le 10 n (omega arith) (let few : n < 10 ^ 10 = omega arith in few) (let few : n < 2 ^ 64 = omega arith in few)

pub long_number : (n : ℕ) → n < 2 ^ 64 → length (decimal n) ≤ 20
long_number n h = length-decimal-le 20 n (omega arith) (let few : n < 10 ^ 20 = omega arith in few) h
