-- What a list contains, and tables of which some places were changed.
use Rattle.std.proofs.Common.{◌≡◌, ℕ, ◌+◌, ◌<◌, zero, suc, List, [], ◌∷◌, ◌++◌, ◌⊎◌, inl, inr, take, drop, length, Contains, AllPairs, Option, Some, None, refl, sym, ap, ◌∙◌, subst, get_or, take-append-drop, arith, eqb-true, slice_get, filter_map, length-drop, get_or-drop}
use Rattle.std.specs.Prelude.{◌==◌}
use Rattle.std.specs.List.{cons_option}
use Rattle.std.proofs.lemmas.Option.{same_Some, slice_get_within, get_or_from_slice_get}
use Rattle.std.proofs.lemmas.Bool.{cond_both, eqb-false}
use Rattle.std.proofs.lemmas.List.{get_or-take, length-take, get_or_default}
use Rattle.std.proofs.lemmas.List.Elements.{Contains-append_left, Contains-append_right, Contains-append_cases, Contains-push_cases}
use Rattle.lq_model.specs.Account.{with_at, with_fates, Fates}
use Rattle.lq_model.specs.declared.fate.Fate.{Fate}

-- MEMBERS

pub none-in : {X : Type 0} (xs : List X) (x : X) → xs ≡ [] → Contains xs x → ⊥
none-in xs x e (k, below, at) = let none : length xs ≡ 0 = ap length e in omega arith

pub one-in : {X : Type 0} (y x : X) → Contains (y ∷ []) x → y ≡ x
one-in y x (zero, below, at) = at
one-in y x (suc k, below, at) = absurd (omega arith)

pub here-in : {X : Type 0} (y : X) (ys : List X) → Contains (y ∷ ys) y
here-in y ys = (0, omega arith, refl)

pub there-in : {X : Type 0} (y : X) (ys : List X) (x : X) → Contains ys x → Contains (y ∷ ys) x
there-in y ys x h = Contains-append_right (y ∷ []) ys x h

pub cons-in : {X : Type 0} (y : X) (ys : List X) (x : X) → Contains (y ∷ ys) x → (y ≡ x) ⊎ Contains ys x
cons-in y ys x h = elim (Contains-append_cases (y ∷ []) ys x h) [ inl one ↦ inl (one-in y x one) | inr rest ↦ inr rest ]

pub take-in : {X : Type 0} (n : ℕ) (xs : List X) (x : X) → Contains (take n xs) x → Contains xs x
take-in n xs x h = subst (λ ys. Contains ys x) (take-append-drop n xs) (Contains-append_left (take n xs) (drop n xs) x h)

pub drop-in : {X : Type 0} (n : ℕ) (xs : List X) (x : X) → Contains (drop n xs) x → Contains xs x
drop-in n xs x h = subst (λ ys. Contains ys x) (take-append-drop n xs) (Contains-append_right (take n xs) (drop n xs) x h)

-- of a list from a place on, to whose end one was put
pub drop-push-in : {X : Type 0} (n : ℕ) (xs : List X) (y x : X) → Contains (drop n (xs ++ y ∷ [])) x → Contains (drop n xs) x ⊎ (y ≡ x)
drop-push-in zero xs y x h = Contains-push_cases xs y x h
drop-push-in (suc n) [] y x h = absurd (none-in [] x refl (drop-nil-in n x h))
  where
    drop-nil-in : {X : Type 0} (n : ℕ) (x : X) → Contains (drop n []) x → Contains [] x
    drop-nil-in n x h = drop-in n [] x h
drop-push-in (suc n) (z ∷ xs) y x h = drop-push-in n xs y x h

-- the first of a list is in it
pub first-in : {X : Type 0} (xs : List X) (x : X) → slice_get xs 0 ≡ Some x → Contains xs x
first-in [] x e = cc
first-in (y ∷ ys) x e = subst (λ z. Contains (y ∷ ys) z) (cc) (here-in y ys)

pub first-taken : {X : Type 0} (xs : List X) (x : X) → slice_get xs 0 ≡ Some x → Contains (take 1 xs) x
first-taken [] x e = cc
first-taken (y ∷ ys) x e = subst (λ z. Contains (y ∷ []) z) (cc) (here-in y [])

pub get-in : {X : Type 0} (xs : List X) (i : ℕ) (x : X) → slice_get xs i ≡ Some x → Contains xs x
get-in xs i x e = (i, slice_get_within xs i x e, get_or_from_slice_get xs i x x e)

-- what stands behind so many is one more
pub drop-short : {X : Type 0} (n : ℕ) (xs : List X) (x : X) → Contains (drop n xs) x → n < length xs
drop-short n xs x (k, below, at) = omega (arith, length-drop n xs)

-- WHAT A FUNCTION GIVES OF A LIST

pub mapped-before : {X Y : Type 0} (g : X → Option Y) (e : X) (es : List X) (y : Y) → Contains (filter_map g es) y → Contains (filter_map g (e ∷ es)) y
mapped-before {Y = Y} g e es y h = go (g e)
  where
    go : (o : Option Y) → Contains (cons_option o (filter_map g es)) y
    go None = h
    go (Some z) = there-in z (filter_map g es) y h

pub mapped-now : {X Y : Type 0} (g : X → Option Y) (e : X) (es : List X) (y : Y) → g e ≡ Some y → Contains (filter_map g (e ∷ es)) y
mapped-now {Y = Y} g e es y now = subst (λ (o : Option Y). Contains (cons_option o (filter_map g es)) y) (sym now) (here-in y (filter_map g es))

pub mapped-cases : {X Y : Type 0} (g : X → Option Y) (e : X) (es : List X) (y : Y) → Contains (filter_map g (e ∷ es)) y → Contains (filter_map g es) y ⊎ (g e ≡ Some y)
mapped-cases {Y = Y} g e es y = go (g e)
  where
    go : (o : Option Y) → Contains (cons_option o (filter_map g es)) y → Contains (filter_map g es) y ⊎ (o ≡ Some y)
    go None h = inl h
    go (Some z) h = elim (cons-in z (filter_map g es) y h) [ inl same ↦ inr (ap Some same) | inr old ↦ inl old ]

-- A LIST TO WHOSE END ONE IS PUT

pub get-push-cases : {X : Type 0} (xs : List X) (y x : X) (i : ℕ) → slice_get (xs ++ y ∷ []) i ≡ Some x → (slice_get xs i ≡ Some x) ⊎ ((i ≡ length xs) × (y ≡ x))
get-push-cases [] y x zero e = inr (refl, same_Some y x e)
get-push-cases [] y x (suc i) e = absurd cc
get-push-cases (z ∷ xs) y x zero e = inl e
get-push-cases (z ∷ xs) y x (suc i) e = elim (get-push-cases xs y x i e) [ inl old ↦ inl old | inr new ↦ inr (ap suc new.0, new.1) ]

pub get-push-old : {X : Type 0} (xs ys : List X) (x : X) (i : ℕ) → slice_get xs i ≡ Some x → slice_get (xs ++ ys) i ≡ Some x
get-push-old [] ys x i e = absurd cc
get-push-old (z ∷ xs) ys x zero e = e
get-push-old (z ∷ xs) ys x (suc i) e = get-push-old xs ys x i e

pub get-push-new : {X : Type 0} (xs : List X) (y : X) → slice_get (xs ++ y ∷ []) (length xs) ≡ Some y
get-push-new [] y = refl
get-push-new (z ∷ xs) y = get-push-new xs y

-- PAIRS IN ORDER

pub pairs-drop : {X : Type 0} (R : X → X → Type 0) (n : ℕ) (xs : List X) → AllPairs R xs → AllPairs R (drop n xs)
pairs-drop R n xs all i j d below within =
    subst (λ x. R x (get_or (drop n xs) j d)) (sym (get_or-drop n xs i d))
    (subst (λ y. R (get_or xs (n + i) d) y) (sym (get_or-drop n xs j d)) (all (n + i) (n + j) d (omega arith) (omega (arith, length-drop n xs))))

pub pairs-take : {X : Type 0} (R : X → X → Type 0) (n : ℕ) (xs : List X) → AllPairs R xs → AllPairs R (take n xs)
pairs-take R n xs all i j d below within =
    let short : j < n = omega (arith, length-take n xs) in
    subst (λ x. R x (get_or (take n xs) j d)) (sym (get_or-take n xs i d (omega arith)))
    (subst (λ y. R (get_or xs i d) y) (sym (get_or-take n xs j d short)) (all i j d below (omega (arith, length-take n xs))))

-- what stands before a place and what stands at it or after it
pub pairs-apart : {X : Type 0} (R : X → X → Type 0) (n : ℕ) (xs : List X) (x y : X) → AllPairs R xs → Contains (take n xs) x → Contains (drop n xs) y → R x y
pairs-apart R n xs x y all (i, i-below, i-at) (j, j-below, j-at) =
    let short : i < n = omega (arith, length-take n xs) in
    let inside : n + j < length xs = omega (arith, length-drop n xs) in
    let first : get_or xs i x ≡ x = sym (get_or-take n xs i x short) ∙ i-at in
    let second : get_or xs (n + j) x ≡ y = get_or_default xs (n + j) x y inside ∙ (sym (get_or-drop n xs j y) ∙ j-at) in
    subst (λ z. R z y) first (subst (λ z. R (get_or xs i x) z) second (all i (n + j) x (omega arith) inside))

-- TABLES

-- a table of which one place was changed
pub at-cases : {X : Type 0} (P : X → Type 0) (n k : ℕ) (x : X) (f : ℕ → X) → (k ≡ n → P x) → ((k ≡ n → ⊥) → P (f k)) → P (with_at n x f k)
at-cases P n k x f here there = cond_both (k == n) x (f k) P (λ e. here (eqb-true k n e)) (λ e. there (eqb-false k n e))

-- fates of which those of some packets were settled
pub fates-cases : (P : Option Fate → Type 0) (ns : List ℕ) (k : ℕ) (f : Fate) (fates : Fates)
    → (Contains ns k → P (Some f)) → ((Contains ns k → ⊥) → P (fates k)) → P (with_fates ns f fates k)
fates-cases P [] k f fates here there = there (none-in [] k refl)
fates-cases P (n ∷ ns) k f fates here there =
    fates-cases P ns k f (with_at n (Some f) fates) (λ h. here (there-in n ns k h))
    (λ out. at-cases P n k (Some f) fates (λ same. here (subst (λ m. Contains (n ∷ ns) m) (sym same) (here-in n ns)))
    (λ other. there (λ h. elim (cons-in n ns k h) [ inl e ↦ other (sym e) | inr h ↦ out h ])))
