-- Tests, bits and sums over seats, as the laws of progress use them.
use Rattle.std.proofs.Common.{◌≡◌, ◌≢◌, ℕ, zero, suc, ◌+◌, ◌<◌, ◌≤◌, Bool, true, false, ◌⊎◌, inl, inr, List, [], ◌∷◌, length, get_or, set, refl, arith}
use Rattle.std.specs.Prelude.{sum_by, ◌||◌, ◌&&◌, not}
use Rattle.std.specs.List.{list_any}
use Rattle.std.proofs.lemmas.List.Sums.{sum_by-cons}
use Rattle.lq_model.specs.declared.machine.Seat.{Seat}
use Rattle.lq_model.specs.Machine.{bit, idle_seat}

-- TESTS

pub or-second : (a b : Bool) → a ≡ false → (a || b) ≡ true → b ≡ true
or-second true b e h = cc
or-second false b e h = h

pub or-first : (a b : Bool) → b ≡ false → (a || b) ≡ true → a ≡ true
or-first true b e h = refl
or-first false b e h = cc

pub or-left : (a b : Bool) → a ≡ true → (a || b) ≡ true
or-left true b e = refl
or-left false b e = cc

pub or-right : (a b : Bool) → b ≡ true → (a || b) ≡ true
or-right true b e = refl
or-right false b e = e

pub or-more : (a a' b b' : Bool) → (a ≡ true → a' ≡ true) → (b ≡ true → b' ≡ true) → (a || b) ≡ true → (a' || b') ≡ true
or-more true a' b b' f g e = let h = f refl in grind arith
or-more false true b b' f g e = refl
or-more false false b b' f g e = g e

pub both : (a b : Bool) → a ≡ true → b ≡ true → (a && b) ≡ true
both true b e f = f
both false b e f = cc

pub and-false : (a b : Bool) → a ≡ false → (a && b) ≡ false
and-false true b e = cc
and-false false b e = refl

pub not-true : (b : Bool) → not b ≡ true → b ≡ false
not-true true e = cc
not-true false e = refl

-- BITS

pub bit-below : (b : Bool) → bit b ≤ 1
bit-below true = omega arith
bit-below false = omega arith

pub bit-none : (b : Bool) → bit b ≡ 0 → b ≡ false
bit-none true e = absurd (omega arith)
bit-none false e = refl

-- SEATS

-- where no seat passes a test none of them does
pub none-anywhere : (f : Seat → Bool) (seats : List Seat) → ((j : ℕ) → f (get_or seats j idle_seat) ≡ false) → list_any f seats ≡ false
none-anywhere f [] h = refl
none-anywhere f (x ∷ xs) h = let here = h 0 in let there = none-anywhere f xs (λ j. h (suc j)) in grind arith

-- a seat that passes a test, or none does
pub search-seats : (f : Seat → Bool) (seats : List Seat) → f idle_seat ≡ false
    → ((i : ℕ) × ((i < length seats) × (f (get_or seats i idle_seat) ≡ true))) ⊎ ((i : ℕ) → f (get_or seats i idle_seat) ≡ false)
search-seats f [] e = inr (λ i. e)
search-seats f (x ∷ xs) e = first (f x) refl (search-seats f xs e)
  where
    later : f x ≡ false → ((i : ℕ) × ((i < length xs) × (f (get_or xs i idle_seat) ≡ true))) ⊎ ((i : ℕ) → f (get_or xs i idle_seat) ≡ false)
        → ((i : ℕ) × ((i < length (x ∷ xs)) × (f (get_or (x ∷ xs) i idle_seat) ≡ true))) ⊎ ((i : ℕ) → f (get_or (x ∷ xs) i idle_seat) ≡ false)
    later none (inl found) = inl (suc found.0, (let lt = found.1.0 in omega arith, found.1.1))
    later none (inr all) = inr each
      where
        each : (i : ℕ) → f (get_or (x ∷ xs) i idle_seat) ≡ false
        each zero = none
        each (suc i) = all i

    first : (b : Bool) → f x ≡ b → ((i : ℕ) × ((i < length xs) × (f (get_or xs i idle_seat) ≡ true))) ⊎ ((i : ℕ) → f (get_or xs i idle_seat) ≡ false)
        → ((i : ℕ) × ((i < length (x ∷ xs)) × (f (get_or (x ∷ xs) i idle_seat) ≡ true))) ⊎ ((i : ℕ) → f (get_or (x ∷ xs) i idle_seat) ≡ false)
    first true is rest = inl (zero, (omega arith, is))
    first false is rest = later is rest

pub sum-none : (f : Seat → ℕ) (seats : List Seat) → ((i : ℕ) → f (get_or seats i idle_seat) ≡ 0) → sum_by f seats ≡ 0
sum-none f [] h = refl
sum-none f (x ∷ xs) h = omega (arith, sum_by-cons f x xs, h 0, sum-none f xs (λ i. h (suc i)))

sum-less : (f f' : Seat → ℕ) (seats : List Seat) → ((j : ℕ) → f' (get_or seats j idle_seat) ≤ f (get_or seats j idle_seat)) → sum_by f' seats ≤ sum_by f seats
sum-less f f' [] less = omega arith
sum-less f f' (x ∷ xs) less = omega (arith, sum_by-cons f x xs, sum_by-cons f' x xs, less 0, sum-less f f' xs (λ j. less (suc j)))

-- where no other seat's part grows, the sum grows by no more than the moved one's part does
pub sum-moved : (f f' : Seat → ℕ) (seats : List Seat) (i : ℕ) (s : Seat) → i < length seats
    → ((j : ℕ) → j ≢ i → f' (get_or seats j idle_seat) ≤ f (get_or seats j idle_seat))
    → sum_by f' (set seats i s) + f (get_or seats i idle_seat) ≤ sum_by f seats + f' s
sum-moved f f' [] i s within less = absurd (omega arith)
sum-moved f f' (x ∷ xs) zero s within less =
    omega (arith, sum_by-cons f x xs, sum_by-cons f' s xs, sum-less f f' xs (λ j. less (suc j) (λ e. absurd (omega arith))))
sum-moved f f' (x ∷ xs) (suc i) s within less =
    omega (
      arith,
      sum_by-cons f x xs,
      sum_by-cons f' x (set xs i s),
      less 0 (λ e. absurd (omega arith)),
      sum-moved f f' xs i s (omega arith) (λ j other. less (suc j) (λ e. other (omega arith))),
    )
