-- Packets in each sender's order, and how often a packet stands in a list.
use Rattle.std.proofs.Common.{◌≡◌, ◌≢◌, ℕ, zero, suc, ◌+◌, ◌<◌, ◌≤◌, Bool, List, [], ◌∷◌, ◌++◌, length, refl, sym, ap, subst, ⊎_elim, arith, slice_index_or, Contains, AllPairs, eq-eqb, ne_eqb}
use Rattle.std.specs.Prelude.{if◌then◌else◌}
use Rattle.std.proofs.lemmas.Bool.{cases_eq}
use Rattle.lq_band_laws.specs.Times.{times}
use Rattle.lq_band_laws.proofs.Times.{times_append, times_same, times_other, times_in}
use Rattle.lq_tap.specs.Told.{omitting}
use Rattle.lq_tap.specs.Settled.{ComesBefore}
use Rattle.lq_tap.specs.Rule.{Ordered}

-- TIMES

pub times_self : (n : ℕ) (ns : List ℕ) → 0 < times n (n ∷ ns)
times_self n ns = let e = times_same n n ns refl in omega arith

pub times_later : (m n : ℕ) (ns : List ℕ) → times m ns ≤ times m (n ∷ ns)
times_later m n ns = ⊎_elim (λ (e : m ≡ n). let x = times_same m n ns e in omega arith) (λ (e : m ≢ n). let x = times_other m n ns e in omega arith) (cases_eq m n)

pub times_one : (m n : ℕ) → 0 < times m (n ∷ []) → m ≡ n
times_one m n h = ⊎_elim (λ (e : m ≡ n). e) (λ (e : m ≢ n). let x = times_other m n [] e in absurd (omega arith)) (cases_eq m n)

-- without one of its x
pub times_omitting : (x y : ℕ) (xs : List ℕ) → 0 < times x xs → times y (omitting x xs) + times y (x ∷ []) ≡ times y xs
times_omitting x y [] h = absurd (omega arith)
times_omitting x y (z ∷ zs) h = ⊎_elim
    (λ (e : x ≡ z). subst (λ (b : Bool). times y (if b then zs else z ∷ omitting x zs) + times y (x ∷ []) ≡ times y (z ∷ zs)) (sym (eq-eqb x z e))
    (let a : times y (x ∷ []) ≡ times y (z ∷ []) = ap (λ (w : ℕ). times y (w ∷ [])) e in let b = times_append y (z ∷ []) zs in omega arith))
    (λ (n : x ≢ z). subst (λ (b : Bool). times y (if b then zs else z ∷ omitting x zs) + times y (x ∷ []) ≡ times y (z ∷ zs)) (sym (ne_eqb x z n))
    (let o = times_other x z zs n in let more = times_omitting x y zs (omega arith) in let a = times_append y (z ∷ []) zs in let b = times_append y (z ∷ []) (omitting x zs) in omega arith))
    (cases_eq x z)

pub length_omitting : (x : ℕ) (xs : List ℕ) → 0 < times x xs → length (omitting x xs) + 1 ≡ length xs
length_omitting x [] h = absurd (omega arith)
length_omitting x (z ∷ zs) h = ⊎_elim
    (λ (e : x ≡ z). subst (λ (b : Bool). length {A = ℕ} (if b then zs else z ∷ omitting x zs) + 1 ≡ length (z ∷ zs)) (sym (eq-eqb x z e)) (omega arith))
    (λ (n : x ≢ z). subst (λ (b : Bool). length {A = ℕ} (if b then zs else z ∷ omitting x zs) + 1 ≡ length (z ∷ zs)) (sym (ne_eqb x z n)) (let o = times_other x z zs n in let more = length_omitting x zs (omega arith) in omega arith))
    (cases_eq x z)

-- PIGEONHOLES: numbers below a bound that stand in a list once are no more than the bound

-- the numbers below a bound, counted in a list
abbrev times_below : ℕ → List ℕ → ℕ
times_below zero xs = 0
times_below (suc n) xs = times n xs + times_below n xs

times_below_cons : (n x : ℕ) (xs : List ℕ) → times_below n (x ∷ xs) ≡ times_below n (x ∷ []) + times_below n xs
times_below_cons zero x xs = refl
times_below_cons (suc n) x xs = let a = times_append n (x ∷ []) xs in let b = times_below_cons n x xs in omega arith

times_below_one : (n x : ℕ) → x < n → 0 < times_below n (x ∷ [])
times_below_one zero x h = absurd (omega arith)
times_below_one (suc n) x h = ⊎_elim (λ (e : n ≡ x). let a = times_same n x [] e in omega arith) (λ (e : n ≢ x). let more = times_below_one n x (omega arith) in omega arith) (cases_eq n x)

few_below : (n : ℕ) (xs : List ℕ) → ((m : ℕ) → times m xs ≤ 1) → times_below n xs ≤ n
few_below zero xs h = omega arith
few_below (suc n) xs h = let a = h n in let b = few_below n xs h in omega arith

all_below : (n : ℕ) (xs : List ℕ) → ((m : ℕ) → 0 < times m xs → m < n) → length xs ≤ times_below n xs
all_below n [] h = omega arith
all_below n (x ∷ xs) h = let here = times_below_one n x (h x (times_self x xs)) in let rest = all_below n xs (λ m some. h m (let l = times_later m x xs in omega arith)) in let c = times_below_cons n x xs in omega arith

pub no_more : (n : ℕ) (xs : List ℕ) → ((m : ℕ) → 0 < times m xs → m < n) → ((m : ℕ) → times m xs ≤ 1) → length xs ≤ n
no_more n xs below once = let a = all_below n xs below in let b = few_below n xs once in omega arith

-- ORDER

pub ordered_snoc : (s : ℕ) (xs : List ℕ) (n : ℕ) → Ordered s xs → ((m : ℕ) → 0 < times m xs → ComesBefore s m n) → Ordered s (xs ++ n ∷ [])
ordered_snoc s [] n o h = ((λ m some. absurd (omega arith)), tt)
ordered_snoc s (x ∷ xs) n o h = (
  (λ m some. let a = times_append m xs (n ∷ []) in ⊎_elim (λ (e : m ≡ n). subst (λ (z : ℕ). ComesBefore s x z) (sym e) (h x (times_self x xs))) (λ (e : m ≢ n). let z = times_other m n [] e in o.0 m (omega arith)) (cases_eq m n)),
  ordered_snoc s xs n o.1 (λ m some. h m (let l = times_later m x xs in omega arith)),
)

ordered_rest : (s : ℕ) (xs ys : List ℕ) → Ordered s (xs ++ ys) → Ordered s ys
ordered_rest s [] ys o = o
ordered_rest s (x ∷ xs) ys o = ordered_rest s xs ys o.1

-- some in the middle are left out
pub ordered_without : (s : ℕ) (xs ys zs : List ℕ) → Ordered s (xs ++ (ys ++ zs)) → Ordered s (xs ++ zs)
ordered_without s [] ys zs o = ordered_rest s ys zs o
ordered_without s (x ∷ xs) ys zs o = (
  (λ m some. o.0 m (let a = times_append m xs (ys ++ zs) in let b = times_append m ys zs in let c = times_append m xs zs in omega arith)),
  ordered_without s xs ys zs o.1,
)

pub ordered_first : (s : ℕ) (xs ys : List ℕ) → Ordered s (xs ++ ys) → Ordered s xs
ordered_first s [] ys o = tt
ordered_first s (x ∷ xs) ys o = ((λ m some. o.0 m (let a = times_append m xs ys in omega arith)), ordered_first s xs ys o.1)

pub ordered_pairs : (s : ℕ) (xs : List ℕ) → Ordered s xs → AllPairs (ComesBefore s) xs
ordered_pairs s [] o i j d before inside = absurd (omega arith)
ordered_pairs s (x ∷ xs) o zero zero d before inside = absurd (omega arith)
ordered_pairs s (x ∷ xs) o zero (suc j) d before inside = o.0 (slice_index_or xs j d) (times_in (slice_index_or xs j d) xs (at_place xs j d (omega arith)))
  where
    any_default : (xs : List ℕ) (j d e : ℕ) → j < length xs → slice_index_or xs j d ≡ slice_index_or xs j e
    any_default [] j d e h = absurd (omega arith)
    any_default (y ∷ ys) zero d e h = refl
    any_default (y ∷ ys) (suc j) d e h = any_default ys j d e (omega arith)

    at_place : (xs : List ℕ) (j d : ℕ) → j < length xs → Contains xs (slice_index_or xs j d)
    at_place xs j d h = (j, h, any_default xs j (slice_index_or xs j d) d h)
ordered_pairs s (x ∷ xs) o (suc i) zero d before inside = absurd (omega arith)
ordered_pairs s (x ∷ xs) o (suc i) (suc j) d before inside = ordered_pairs s xs o.1 i j d (omega arith) (omega arith)
