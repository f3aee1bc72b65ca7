-- How often a packet stands in a list.
use Rattle.lq_account_laws.specs.Places.{Precedes}
use Rattle.std.proofs.Common.{◌≡◌, ◌≢◌, ℕ, zero, suc, ◌+◌, ◌<◌, ◌≤◌, Bool, eqb, List, [], ◌∷◌, ◌++◌, drop, refl, sym, ap, subst, ⊎_elim, arith, Contains, AllPairs, eq-eqb, ne_eqb}
use Rattle.std.specs.Prelude.{if◌then◌else◌}
use Rattle.std.proofs.lemmas.Bool.{cases_eq}
use Rattle.lq_model.specs.declared.fate.Info.{Info}
use Rattle.lq_account_laws.proofs.Lists.{here-in, there-in, cons-in}
use Rattle.lq_account_laws.proofs.Order.{never-itself}
use Rattle.lq_band_laws.specs.Times.{times}

abbrev one_where : Bool → ℕ
one_where b = if b then 1 else 0

pub times_in : (n : ℕ) (xs : List ℕ) → Contains xs n → 0 < times n xs
times_in n [] (i, below, is) = absurd (omega arith)
times_in n (x ∷ xs) h = ⊎_elim
    (λ (e : x ≡ n). let z : one_where (eqb n x) ≡ 1 = ap one_where (eq-eqb n x (sym e)) in omega arith)
    (λ (r : Contains xs n). let more : 0 < times n xs = times_in n xs r in omega arith)
    (cons-in x xs n h)

pub in_times : (n : ℕ) (xs : List ℕ) → 0 < times n xs → Contains xs n
in_times n [] h = absurd (omega arith)
in_times n (x ∷ xs) h = ⊎_elim
    (λ (e : n ≡ x). subst (λ z. Contains (x ∷ xs) z) (sym e) (here-in x xs))
    (λ (no_ : n ≢ x). let z : one_where (eqb n x) ≡ 0 = ap one_where (ne_eqb n x no_) in there-in x xs n (in_times n xs (omega arith)))
    (cases_eq n x)

pub times_none : (n : ℕ) (xs : List ℕ) → (Contains xs n → ⊥) → times n xs ≡ 0
times_none n xs out = go (times n xs) refl
  where
    go : (k : ℕ) → times n xs ≡ k → times n xs ≡ 0
    go zero e = e
    go (suc k) e = absurd (out (in_times n xs (omega arith)))

pub times_append : (n : ℕ) (xs ys : List ℕ) → times n (xs ++ ys) ≡ times n xs + times n ys
times_append n [] ys = omega arith
times_append n (x ∷ xs) ys = let more : times n (xs ++ ys) ≡ times n xs + times n ys = times_append n xs ys in omega arith

pub times_same : (n m : ℕ) (xs : List ℕ) → n ≡ m → times n (m ∷ xs) ≡ times n xs + 1
times_same n m xs e = let z : one_where (eqb n m) ≡ 1 = ap one_where (eq-eqb n m e) in omega arith

pub times_other : (n m : ℕ) (xs : List ℕ) → n ≢ m → times n (m ∷ xs) ≡ times n xs
times_other n m xs h = let z : one_where (eqb n m) ≡ 0 = ap one_where (ne_eqb n m h) in omega arith

-- a list in each owner's order has no packet twice
pub times_once : (infos : List Info) (n : ℕ) (xs : List ℕ) → AllPairs (Precedes infos) xs → times n xs ≤ 1
times_once infos n [] all = omega arith
times_once infos n (x ∷ xs) all = ⊎_elim
    (λ (e : n ≡ x). let z : one_where (eqb n x) ≡ 1 = ap one_where (eq-eqb n x e) in let none_more : times n xs ≡ 0 = times_none n xs (λ h. again e h) in omega arith)
    (λ (no_ : n ≢ x). let z : one_where (eqb n x) ≡ 0 = ap one_where (ne_eqb n x no_) in let more : times n xs ≤ 1 = times_once infos n xs (λ i j d b w. all (suc i) (suc j) d (omega arith) (omega arith)) in omega arith)
    (cases_eq n x)
  where
    again : n ≡ x → Contains xs n → ⊥
    again e (i, below, is) = never-itself infos n (subst (λ (z : ℕ × ℕ). Precedes infos z.0 z.1) (λ a. (sym e a, is a)) (all 0 (suc i) n (omega arith) (omega arith)))

pub times_drop : (m t : ℕ) (xs : List ℕ) → times m (drop t xs) ≤ times m xs
times_drop m zero xs = omega arith
times_drop m (suc t) [] = omega arith
times_drop m (suc t) (x ∷ xs) = let more : times m (drop t xs) ≤ times m xs = times_drop m t xs in omega arith
