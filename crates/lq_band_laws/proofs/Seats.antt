-- Sums over seats, and facts of each seat, after a change of one.
use Rattle.std.proofs.Common.{◌≡◌, ◌≢◌, ℕ, zero, suc, ◌+◌, ◌≤◌, List, [], ◌∷◌, ◌++◌, set, refl, sym, ap, subst, ⊎_elim, arith}
use mathlib.Core.Option.{some, some-ne-none, some-injective}
use lib.ListN.{get_elem?}
use Rattle.atomic_table.proofs.Lists.{at_set, at_snoc}
use Rattle.lq_band_laws.specs.Seats.{total, Each}

module _ {A : Type 0} (f : A → ℕ) where
  pub total_set : (xs : List A) (id : ℕ) (v w : A) → get_elem? xs id ≡ some v → total f (set xs id w) + f v ≡ total f xs + f w
  total_set [] id v w e = absurd (some-ne-none v (sym e))
  total_set (x ∷ xs) zero v w e = let same : f x ≡ f v = ap f (some-injective x v e) in omega arith
  total_set (x ∷ xs) (suc id) v w e = let more : total f (set xs id w) + f v ≡ total f xs + f w = total_set xs id v w e in omega arith

  pub total_same : (xs : List A) (id : ℕ) (v w : A) → get_elem? xs id ≡ some v → f w ≡ f v → total f (set xs id w) ≡ total f xs
  total_same xs id v w e same = let t = total_set xs id v w e in omega arith

  pub total_one : (xs : List A) (id : ℕ) (v : A) → get_elem? xs id ≡ some v → f v ≤ total f xs
  total_one [] id v e = absurd (some-ne-none v (sym e))
  total_one (x ∷ xs) zero v e = let same : f x ≡ f v = ap f (some-injective x v e) in omega arith
  total_one (x ∷ xs) (suc id) v e = let more : f v ≤ total f xs = total_one xs id v e in omega arith

  -- two seats have no more than all have
  pub total_two : (xs : List A) (i j : ℕ) (v u : A) → get_elem? xs i ≡ some v → get_elem? xs j ≡ some u → j ≢ i → f v + f u ≤ total f xs
  total_two [] i j v u e e' apart = absurd (some-ne-none v (sym e))
  total_two (x ∷ xs) zero zero v u e e' apart = absurd (apart refl)
  total_two (x ∷ xs) zero (suc j) v u e e' apart = let same : f x ≡ f v = ap f (some-injective x v e) in let more : f u ≤ total f xs = total_one xs j u e' in omega arith
  total_two (x ∷ xs) (suc i) zero v u e e' apart = let same : f x ≡ f u = ap f (some-injective x u e') in let more : f v ≤ total f xs = total_one xs i v e in omega arith
  total_two (x ∷ xs) (suc i) (suc j) v u e e' apart = let more : f v + f u ≤ total f xs = total_two xs i j v u e e' (λ h. apart (ap suc h)) in omega arith

  pub total_snoc : (xs : List A) (w : A) → total f (xs ++ w ∷ []) ≡ total f xs + f w
  total_snoc [] w = omega arith
  total_snoc (x ∷ xs) w = let more : total f (xs ++ w ∷ []) ≡ total f xs + f w = total_snoc xs w in omega arith

module _ {A : Type 0} where
  -- what holds of each seat after a step of the seat id
  pub each_step : (P Q : A → Type 0) (xs : List A) (id : ℕ) (w : A) → Each P xs → Q w → ((j : ℕ) (u : A) → j ≢ id → get_elem? xs j ≡ some u → P u → Q u) → Each Q (set xs id w)
  each_step P Q xs id w old mine others j u e = ⊎_elim
      (λ (t : (j ≡ id) × (w ≡ u)). subst Q t.1 mine)
      (λ (t : (j ≢ id) × (get_elem? xs j ≡ some u)). others j u t.0 t.1 (old j u t.1))
      (at_set xs id j w u e)

  pub each_same : (P : A → Type 0) (xs : List A) (id : ℕ) (w : A) → Each P xs → P w → Each P (set xs id w)
  each_same P xs id w old mine = each_step P P xs id w old mine (λ _ _ _ _ h. h)

  pub each_one : (P : A → Type 0) (v : A) → P v → Each P (v ∷ [])
  each_one P v h zero u e = subst P (some-injective _ _ e) h
  each_one P v h (suc j) u e = absurd (some-ne-none u (sym e))

  pub each_snoc : (P : A → Type 0) (xs : List A) (w : A) → Each P xs → P w → Each P (xs ++ w ∷ [])
  each_snoc P xs w old mine j u e = ⊎_elim (λ was. old j u was) (λ (same : w ≡ u). subst P same mine) (at_snoc xs w u j e)

  pub total_le : (f g : A → ℕ) (xs : List A) → Each (λ x. f x ≤ g x) xs → total f xs ≤ total g xs
  total_le f g [] h = omega arith
  total_le f g (x ∷ xs) h = let a : f x ≤ g x = h 0 x refl in let b : total f xs ≤ total g xs = total_le f g xs (λ j v e. h (suc j) v e) in omega arith

  -- the same of all but one
  pub total_rest : (f g : A → ℕ) (xs : List A) (id : ℕ) (v : A) → Each (λ x. f x ≤ g x) xs → get_elem? xs id ≡ some v → total f xs + g v ≤ total g xs + f v
  total_rest f g [] id v h e = absurd (some-ne-none v (sym e))
  total_rest f g (x ∷ xs) zero v h e = let same : f x ≡ f v = ap f (some-injective x v e) in let same' : g x ≡ g v = ap g (some-injective x v e) in let b : total f xs ≤ total g xs = total_le f g xs (λ j u e. h (suc j) u e) in omega arith
  total_rest f g (x ∷ xs) (suc id) v h e = let a : f x ≤ g x = h 0 x refl in let b : total f xs + g v ≤ total g xs + f v = total_rest f g xs id v (λ j u e. h (suc j) u e) e in omega arith
