-- The pieces that a text is cut into, and the numbers that are read.
use Rattle.std.proofs.Common.{◌≡◌, ℕ, ◌+◌, ◌*◌, ◌-◌, ◌<◌, ◌≤◌, Bool, true, false, cond, List, [], ◌∷◌, length, get_or, take, drop, suc, Option, Some, None, min, refl, ap, arith}
use Rattle.std.specs.List.{slice_split, onto_first, position_from, list_all}
use Rattle.std.specs.Char.{is_ascii_digit}
use Rattle.std.specs.Str.Parse.{digits_value}
use Rattle.std.proofs.lemmas.List.Sums.{AllPass-from_list_all}
use Rattle.std.proofs.lemmas.Int.Digits.{digits_value_more}
use Rattle.std.proofs.lemmas.Str.{digit_value_digit}
use Rattle.lq_run_core.specs.Schedule.{capped}

-- WHERE A PIECE ENDS

none_cons : {X : Type 0} (b : Bool) (k : ℕ) (o : Option ℕ) (x : X) (xs : List X) (parts : List (List X)) → cond b (Some k) o ≡ None → (o ≡ None → parts ≡ xs ∷ []) → cond b ([] ∷ parts) (onto_first x parts) ≡ (x ∷ xs) ∷ []
none_cons true k o x xs parts e h = cc
none_cons false k o x xs parts e h = rw (h e) refl

-- no byte ends the first piece
pub split_none : {X : Type 0} (p : X → Bool) (k : ℕ) (xs : List X) → position_from p k xs ≡ None → slice_split p xs ≡ xs ∷ []
split_none p k [] e = refl
split_none p k (x ∷ xs) e = none_cons (p x) k (position_from p (k + 1) xs) x xs (slice_split p xs) e (split_none p (k + 1) xs)

-- the first piece ends at this index
record EndsAt {X : Type 0} (p : X → Bool) (k i : ℕ) (xs : List X) : Type 0 where
  from : k ≤ i
  within : i < k + length xs
  pieces : slice_split p xs ≡ take (i - k) xs ∷ slice_split p (drop (i - k + 1) xs)

ends_cons : {X : Type 0} (p : X → Bool) (b : Bool) (k i : ℕ) (x : X) (xs : List X) → p x ≡ b → cond b (Some k) (position_from p (k + 1) xs) ≡ Some i → (position_from p (k + 1) xs ≡ Some i → EndsAt p (k + 1) i xs) → EndsAt p k i (x ∷ xs)
ends_cons p true k i x xs here e h =
    let same : k ≡ i = cc in
    let none_before : i - k ≡ 0 = omega arith in
    record { from = omega arith; within = omega arith; pieces = rw (here, none_before) refl }
ends_cons p false k i x xs here e h =
    let after = h e in
    let from : k + 1 ≤ i = after.from in
    let before : i - k ≡ suc (i - (k + 1)) = omega arith in
    let behind : i - k + 1 ≡ suc (i - (k + 1) + 1) = omega arith in
    record { from = omega arith; within = omega (arith, after.within); pieces = rw (here, behind, before, after.pieces) refl }

split_some : {X : Type 0} (p : X → Bool) (k i : ℕ) (xs : List X) → position_from p k xs ≡ Some i → EndsAt p k i xs
split_some p k i [] e = cc
split_some p k i (x ∷ xs) e = ends_cons p (p x) k i x xs refl e (split_some p (k + 1) i xs)

pub split_first : {X : Type 0} (p : X → Bool) (i : ℕ) (xs : List X) → position_from p 0 xs ≡ Some i → slice_split p xs ≡ take i xs ∷ slice_split p (drop (i + 1) xs)
split_first p i xs e =
    let same : i - 0 ≡ i = omega arith in
    rw same at (split_some p 0 i xs e).pieces

first_of_split : {X : Type 0} (b : Bool) (x : X) (parts : List (List X)) → (piece : List X) × (pieces : List (List X)) × (parts ≡ piece ∷ pieces) → (piece : List X) × (pieces : List (List X)) × (cond b ([] ∷ parts) (onto_first x parts) ≡ piece ∷ pieces)
first_of_split true x parts h = ([], parts, refl)
first_of_split false x parts h = (x ∷ h.0, h.1, ap (onto_first x) h.2)

-- what is cut has a first piece
pub split_cons : {X : Type 0} (p : X → Bool) (xs : List X) → (piece : List X) × (pieces : List (List X)) × (slice_split p xs ≡ piece ∷ pieces)
split_cons p [] = ([], [], refl)
split_cons p (x ∷ xs) = first_of_split (p x) x (slice_split p xs) (split_cons p xs)

-- NUMBERS

digit_of : (c : ℕ) → is_ascii_digit c ≡ true → (48 ≤ c) × (c ≤ 57)
digit_of c e = grind arith

pub digit_at : (ds : List ℕ) (i : ℕ) → list_all is_ascii_digit ds ≡ true → i < length ds → (48 ≤ get_or ds i 0) × (get_or ds i 0 ≤ 57)
digit_at ds i e h = digit_of (get_or ds i 0) (AllPass-from_list_all is_ascii_digit ds e i 0 h)

-- one digit more
pub value_more : (ds : List ℕ) (i v tens w : ℕ) → i < length ds → list_all is_ascii_digit ds ≡ true → v ≡ capped (digits_value 10 (take i ds)) → tens ≡ min (v * 10) 4294967295 → w ≡ min (tens + (get_or ds i 0 - 48)) 4294967295 → w ≡ capped (digits_value 10 (take (i + 1) ds))
value_more ds i v tens w h e v_is tens_is w_is =
    let d = digit_at ds i e h in
    let value = digit_value_digit (get_or ds i 0) d in
    rw (digits_value_more 10 ds i h) (omega arith)
