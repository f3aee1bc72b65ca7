-- The numbers below one, and what a function gives for each of them.
use Rattle.std.proofs.Common.{◌≡◌, ◌<◌, ◌++◌, ◌∷◌, [], ℕ, zero, suc, List, length, map, slice_get, get_or, Some, refl, sym, ap, ◌∙◌, arith, inl, inr, length-append}
use Rattle.std.proofs.lemmas.List.{map-append, same_lists, get_or_append_left, get_or_push}
use Rattle.std.proofs.lemmas.Bool.{cases_lt}
use Rattle.std.proofs.lemmas.Option.{get_or_from_slice_get, slice_get-get_or, slice_get_within}
use Rattle.lq_model.specs.Numbers.{first_numbers}

pub length-first_numbers : (n : ℕ) → length (first_numbers n) ≡ n
length-first_numbers zero = refl
length-first_numbers (suc n) = omega (arith, length-append (first_numbers n) (n ∷ []), length-first_numbers n)

-- at place n of them stands n
value-at : (count n d : ℕ) → n < count → get_or (first_numbers count) n d ≡ n
value-at zero n d lt = absurd (omega arith)
value-at (suc count) n d lt = let len = length-first_numbers count in elim (cases_lt n count) [
  | inl before ↦ (get_or_append_left (first_numbers count) (count ∷ []) d n (omega arith) ∙ value-at count n d before)
  | inr after ↦ (let same : count ≡ n = omega arith in get_or_push (first_numbers count) count d n (len ∙ same) ∙ same)
]

pub first-at : (count n : ℕ) → n < count → slice_get (first_numbers count) n ≡ Some n
first-at count n lt =
    let len = length-first_numbers count in slice_get-get_or (first_numbers count) n 0 (omega arith) ∙ ap Some (value-at count n 0 lt)

-- what stands at place n is n
pub first-is : (count n k : ℕ) → slice_get (first_numbers count) n ≡ Some k → n ≡ k
first-is count n k there =
    let len = length-first_numbers count in let within = slice_get_within (first_numbers count) n k there in
    sym (value-at count n 0 (omega arith)) ∙ get_or_from_slice_get (first_numbers count) n k 0 there

-- WHAT A FUNCTION GIVES FOR EACH

pub length_for_each : {A : Type 0} (f : ℕ → A) (n : ℕ) → length (map f (first_numbers n)) ≡ n
length_for_each f zero = refl
length_for_each f (suc n) = ap length (map-append f (first_numbers n) (n ∷ [])) ∙ omega (arith, length-append (map f (first_numbers n)) (f n ∷ []), length_for_each f n)

pub at_number : {A : Type 0} (f : ℕ → A) (n i : ℕ) (d : A) → i < n → get_or (map f (first_numbers n)) i d ≡ f i
at_number f zero i d lt = absurd (omega arith)
at_number f (suc n) i d lt =
    let len : length (map f (first_numbers n)) ≡ n = length_for_each f n in
    ap (λ xs. get_or xs i d) (map-append f (first_numbers n) (n ∷ []))
    ∙ elim (cases_lt i n) [
      | inl before ↦ (get_or_append_left (map f (first_numbers n)) (f n ∷ []) d i (omega arith) ∙ at_number f n i d before)
      | inr after ↦ (let same : n ≡ i = omega arith in get_or_push (map f (first_numbers n)) (f n) d i (len ∙ same) ∙ ap f same)
    ]

pub same_for_each : {A : Type 0} (f g : ℕ → A) (n : ℕ) → ((k : ℕ) → k < n → f k ≡ g k) → map f (first_numbers n) ≡ map g (first_numbers n)
same_for_each f g zero same = refl
same_for_each f g (suc n) same =
    map-append f (first_numbers n) (n ∷ []) ∙ ap (λ xs. xs ++ f n ∷ []) (same_for_each f g n (λ k lt. same k (omega arith))) ∙ ap (λ x. map g (first_numbers n) ++ x ∷ []) (same n (omega arith))
    ∙ sym (map-append g (first_numbers n) (n ∷ []))

-- a list that gives the same for each
pub list_for_each : {A : Type 0} (f : ℕ → A) (xs : List A) (n : ℕ) → length xs ≡ n → ((k : ℕ) (d : A) → k < n → get_or xs k d ≡ f k) → xs ≡ map f (first_numbers n)
list_for_each f xs n len gives =
    let all : length (map f (first_numbers n)) ≡ n = length_for_each f n in
    same_lists xs (map f (first_numbers n)) (len ∙ sym all) (λ k d lt. gives k d (omega arith) ∙ sym (at_number f n k d (omega arith)))
