-- How many packets of a band were let in: no fewer than a list of such packets has, each once.
use Rattle.std.proofs.Common.{◌≡◌, ℕ, ◌≤◌, zero, suc, Bool, true, false, ◌&&◌, List, [], ◌∷◌, map, length, count_by, cond, set, zip, Contains, AllPairs, Some, refl, ap, ◌∙◌, subst, slice_get, option_map, arith, eq-eqb}
use Rattle.std.specs.Prelude.{◌==◌}
use Rattle.std.proofs.lemmas.Bool.{and_from}
use Rattle.std.proofs.lemmas.Option.{same_Some, slice_get-map}
use Rattle.std.proofs.lemmas.List.Sums.{sum_by-cons}
use Rattle.lq_model.specs.Settled.{let_in, is_let_in}
use Rattle.lq_model.specs.declared.fate.Fate.{Fate}
use Rattle.lq_model.specs.declared.fate.Info.{Info}
use Rattle.lq_account_laws.proofs.Lists.{here-in, there-in, pairs-drop, pairs-apart}

-- how many are true
abbrev trues : List Bool → ℕ
trues [] = 0
trues (true ∷ bs) = suc (trues bs)
trues (false ∷ bs) = trues bs

trues-map : {X : Type 0} (test : X → Bool) (zs : List X) → trues (map test zs) ≡ count_by test zs
trues-map test [] = refl
trues-map test (z ∷ zs) = go (test z) refl (trues-map test zs)
  where
    go : (b : Bool) → test z ≡ b → trues (map test zs) ≡ count_by test zs → trues (b ∷ map test zs) ≡ count_by test (z ∷ zs)
    go true e rest = let sum = sum_by-cons (λ w. cond (test w) 1 0) z zs in grind arith
    go false e rest = let sum = sum_by-cons (λ w. cond (test w) 1 0) z zs in grind arith

one-fewer : (bs : List Bool) (n : ℕ) → slice_get bs n ≡ Some true → trues bs ≡ suc (trues (set bs n false))
one-fewer [] n e = absurd cc
one-fewer (true ∷ bs) zero e = refl
one-fewer (false ∷ bs) zero e = absurd cc
one-fewer (true ∷ bs) (suc n) e = ap suc (one-fewer bs n e)
one-fewer (false ∷ bs) (suc n) e = one-fewer bs n e

others-same : (bs : List Bool) (n m : ℕ) → (m ≡ n → ⊥) → slice_get (set bs n false) m ≡ slice_get bs m
others-same [] n m other = refl
others-same (b ∷ bs) zero zero other = absurd (other refl)
others-same (b ∷ bs) zero (suc m) other = refl
others-same (b ∷ bs) (suc n) zero other = refl
others-same (b ∷ bs) (suc n) (suc m) other = others-same bs n m (λ same. other (ap suc same))

-- places that differ from one another, at each of which true stands
few-places : (R : ℕ → ℕ → Type 0) → ((n : ℕ) → R n n → ⊥) → (ns : List ℕ) (bs : List Bool) → AllPairs R ns → ((n : ℕ) → Contains ns n → slice_get bs n ≡ Some true) → length ns ≤ trues bs
few-places R never [] bs pairs all = omega arith
few-places R never (n ∷ ns) bs pairs all =
    let one = one-fewer bs n (all n (here-in n ns)) in
    let rest : length ns ≤ trues (set bs n false) = few-places R never ns (set bs n false) (pairs-drop R 1 (n ∷ ns) pairs)
    (λ m h. others-same bs n m (λ same. never n (subst (R n) same (pairs-apart R 1 (n ∷ ns) n m pairs (here-in n []) h))) ∙ all m (there-in n ns m h)) in
    omega arith

zip-get : {A B : Type 0} (xs : List A) (ys : List B) (i : ℕ) (x : A) (y : B) → slice_get xs i ≡ Some x → slice_get ys i ≡ Some y → slice_get (zip xs ys) i ≡ Some (x, y)
zip-get [] ys i x y p q = absurd cc
zip-get (a ∷ xs) [] i x y p q = absurd cc
zip-get (a ∷ xs) (b ∷ ys) zero x y p q = let first : a ≡ x = same_Some a x p in let second : b ≡ y = same_Some b y q in cc
zip-get (a ∷ xs) (b ∷ ys) (suc i) x y p q = zip-get xs ys i x y p q

-- packet n was let into the band of the station
pub record WasLetIn (fates : List Fate) (infos : List Info) (station band n : ℕ) : Type 0 where
  pub fate : Fate
  pub info : Info
  pub has_fate : slice_get fates n ≡ Some fate
  pub has_info : slice_get infos n ≡ Some info
  pub is_in : is_let_in fate ≡ true
  pub of_station : info.station ≡ station
  pub of_band : info.band ≡ band

pub no-fewer : (R : ℕ → ℕ → Type 0) → ((n : ℕ) → R n n → ⊥) → (fates : List Fate) (infos : List Info) (station band : ℕ) (ns : List ℕ) → AllPairs R ns
    → ((n : ℕ) → Contains ns n → WasLetIn fates infos station band n) → length ns ≤ let_in fates infos station band
no-fewer R never fates infos station band ns pairs all = subst (λ k. length ns ≤ k) (trues-map test (zip fates infos)) (few-places R never ns (map test (zip fates infos)) pairs here)
  where
    test : Fate × Info → Bool
    test = λ p. is_let_in p.0 && ((p.1.station == station) && (p.1.band == band))

    passes : (n : ℕ) (w : WasLetIn fates infos station band n) → test (w.fate, w.info) ≡ true
    passes n w = and_from _ _ w.is_in (and_from _ _ (eq-eqb _ _ w.of_station) (eq-eqb _ _ w.of_band))

    here : (n : ℕ) → Contains ns n → slice_get (map test (zip fates infos)) n ≡ Some true
    here n h =
        let w = all n h in
        slice_get-map test (zip fates infos) n ∙ (ap (option_map test) (zip-get fates infos n w.fate w.info w.has_fate w.has_info) ∙ ap Some (passes n w))
