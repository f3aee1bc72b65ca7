-- How often packets stand in lists, counted over all packets.
use Rattle.std.proofs.Common.{◌≡◌, ◌≢◌, ◌<◌, ◌≤◌, ◌+◌, ◌∷◌, [], ℕ, zero, suc, Bool, eqb, List, length, take, get_or, slice_get, Some, refl, sym, ap, ◌∙◌, subst, add-one, arith, inl, inr, eq-eqb, ne_eqb, Contains}
use Rattle.std.specs.Prelude.{count_by}
use Rattle.std.proofs.lemmas.Bool.{cases_Bool, cases_eq}
use Rattle.std.proofs.lemmas.List.{take_all}
use Rattle.std.proofs.lemmas.List.Sums.{count_by_more_yes, count_by_more_no}
use Rattle.std.proofs.lemmas.Option.{slice_get_cases, get_or_from_slice_get}
use Rattle.lq_account_laws.proofs.Lists.{cons-in, here-in, there-in}
use Rattle.lq_band_laws.specs.Times.{times}
use Rattle.lq_tap_run.specs.Lanes.{numbers_of, one_where}

-- SUMS

-- of what is said of each number below n
abbrev pub sum_to : ℕ → (ℕ → ℕ) → ℕ
sum_to zero f = 0
sum_to (suc n) f = sum_to n f + f n

pub sum_both : (n : ℕ) (f g h : ℕ → ℕ) → ((k : ℕ) → k < n → h k ≡ f k + g k) → sum_to n h ≡ sum_to n f + sum_to n g
sum_both zero f g h both = refl
sum_both (suc n) f g h both =
    let rest : sum_to n h ≡ sum_to n f + sum_to n g = sum_both n f g h (λ k lt. both k (omega arith)) in let last : h n ≡ f n + g n = both n (omega arith) in omega arith

pub sum_none : (n : ℕ) (f : ℕ → ℕ) → ((k : ℕ) → k < n → f k ≡ 0) → sum_to n f ≡ 0
sum_none zero f none = refl
sum_none (suc n) f none = let rest : sum_to n f ≡ 0 = sum_none n f (λ k lt. none k (omega arith)) in let last : f n ≡ 0 = none n (omega arith) in omega arith

pub sum_ones : (n : ℕ) (f : ℕ → ℕ) → ((k : ℕ) → k < n → f k ≡ 1) → sum_to n f ≡ n
sum_ones zero f ones = refl
sum_ones (suc n) f ones = let rest : sum_to n f ≡ n = sum_ones n f (λ k lt. ones k (omega arith)) in let last : f n ≡ 1 = ones n (omega arith) in omega arith

-- of the one number that is x
abbrev is_one : ℕ → ℕ → ℕ
is_one x k = one_where (eqb k x)

is_one_here : (x : ℕ) → is_one x x ≡ 1
is_one_here x = ap one_where (eq-eqb x x refl)

is_one_other : (x k : ℕ) → k ≢ x → is_one x k ≡ 0
is_one_other x k other = ap one_where (ne_eqb k x other)

sum_one : (n x : ℕ) → x < n → sum_to n (is_one x) ≡ 1
sum_one zero x lt = absurd (omega arith)
sum_one (suc n) x lt = elim (cases_eq x n) [
  | inl same ↦
      let none : sum_to n (is_one x) ≡ 0 = sum_none n (is_one x) (λ k below. is_one_other x k (λ e. let lt : k < n = below in let at : k ≡ n = e ∙ same in omega arith)) in
      let here : is_one x n ≡ 1 = ap (is_one x) (sym same) ∙ is_one_here x in
      omega arith
  | inr other ↦
      let below : x < n = (let no : x ≢ n = other in omega arith) in
      let rest : sum_to n (is_one x) ≡ 1 = sum_one n x below in
      let here : is_one x n ≡ 0 = is_one_other x n (λ e. other (sym e)) in
      omega arith
]

-- LISTS

-- a list of numbers below n is as long as its numbers are many
pub length_is : (n : ℕ) (xs : List ℕ) → ((k : ℕ) → 0 < times k xs → k < n) → sum_to n (λ k. times k xs) ≡ length xs
length_is n [] below = sum_none n (λ k. times k []) (λ k lt. refl)
length_is n (x ∷ xs) below =
    let here : x < n = below x (let one : is_one x x ≡ 1 = is_one_here x in omega arith) in
    let rest : sum_to n (λ k. times k xs) ≡ length xs = length_is n xs (λ k lt. below k (omega arith)) in
    let both : sum_to n (λ k. times k (x ∷ xs)) ≡ sum_to n (is_one x) + sum_to n (λ k. times k xs) = sum_both n (is_one x) (λ k. times k xs) (λ k. times k (x ∷ xs)) (λ k lt. refl) in
    omega (arith, sum_one n x here)

-- a count of fates, where each is counted by its number
module _ {F : Type 0} (test : F → Bool) (fates : List F) (f : ℕ → ℕ) (each : (k : ℕ) (fate : F) → slice_get fates k ≡ Some fate → one_where (test fate) ≡ f k) where
  counted_to : (i : ℕ) → i ≤ length fates → count_by test (take i fates) ≡ sum_to i f
  counted_to zero le = refl
  counted_to (suc i) le =
      let rest : count_by test (take i fates) ≡ sum_to i f = counted_to i (omega arith) in
      elim (slice_get_cases fates i).1 [
        | inl there ↦
            let is : get_or fates i there.0 ≡ there.0 = get_or_from_slice_get fates i there.0 there.0 there.2 in
            let here : one_where (test there.0) ≡ f i = each i there.0 there.2 in
            elim (cases_Bool (test there.0)) [
              | inl passes ↦
                  let one : f i ≡ 1 = sym here ∙ ap one_where passes in
                  let more : count_by test (take (i + 1) fates) ≡ count_by test (take i fates) + 1 = count_by_more_yes test fates i there.0 there.1 (ap test is ∙ passes) in
                  ap (λ k. count_by test (take k fates)) (sym (add-one i)) ∙ more ∙ omega arith
              | inr fails ↦
                  let none : f i ≡ 0 = sym here ∙ ap one_where fails in
                  let more : count_by test (take (i + 1) fates) ≡ count_by test (take i fates) = count_by_more_no test fates i there.0 there.1 (ap test is ∙ fails) in
                  ap (λ k. count_by test (take k fates)) (sym (add-one i)) ∙ more ∙ omega arith
            ]
        | inr past ↦ absurd (let p = past.0 in omega arith)
      ]

  pub count_is : count_by test fates ≡ sum_to (length fates) f
  count_is = ap (count_by test) (sym (take_all (length fates) fates (omega arith))) ∙ counted_to (length fates) (omega arith)

-- THE PACKETS THAT WERE FOUND FULL

pub times_full : (n seen : ℕ) (fulls : List (ℕ × ℕ)) → Contains fulls (n, seen) → 0 < times n (numbers_of fulls)
times_full n seen [] (k, below, at) = absurd (omega arith)
times_full n seen (f ∷ fs) h = elim (cons-in f fs (n, seen) h) [
  | inl e ↦ (let one : one_where (eqb n f.0) ≡ 1 = ap one_where (eq-eqb n f.0 (sym (ap (λ (p : ℕ × ℕ). p.0) e))) in omega arith)
  | inr rest ↦ (let more : 0 < times n (numbers_of fs) = times_full n seen fs rest in omega arith)
]

pub full_seen : (n : ℕ) (fulls : List (ℕ × ℕ)) → 0 < times n (numbers_of fulls) → (seen : ℕ) × Contains fulls (n, seen)
full_seen n [] h = absurd (omega arith)
full_seen n (f ∷ fs) h = elim (cases_eq n f.0) [
  | inl e ↦ (f.1, subst (λ k. Contains (f ∷ fs) (k, f.1)) (sym e) (here-in f fs))
  | inr apart ↦
      let none : one_where (eqb n f.0) ≡ 0 = ap one_where (ne_eqb n f.0 apart) in
      let more = full_seen n fs (omega arith) in
      (more.0, there-in f fs (n, more.0) more.1)
]
