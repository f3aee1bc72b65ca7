-- The fates, marked one by one.
use Rattle.std.proofs.Common.{◌≡◌, ◌≢◌, ◌⊎◌, ◌<◌, ◌≤◌, ◌+◌, ◌++◌, ◌∷◌, [], ℕ, zero, suc, eqb, List, All, append_assoc, length-take, length, take, set, get_or, slice_get, Some, Contains, refl, sym, ap, ◌∙◌, subst, arith, inl, inr, ne_eqb, eq-eqb}
use Rattle.std.proofs.lemmas.Bool.{cases_eq}
use Rattle.std.proofs.lemmas.List.{length-set, take_more}
use Rattle.std.proofs.lemmas.List.Elements.{Contains-append_left, Contains-push}
use Rattle.std.proofs.lemmas.Option.{same_Some, slice_get-get_or}
use Rattle.lq_account_laws.proofs.Lists.{get-push-cases, get-push-new, get-push-old}
use Rattle.lq_band_laws.specs.Times.{times}
use Rattle.lq_fates.specs.declared.tap_fate.TapFate.{TapFate}
use Rattle.lq_fates.specs.declared.tap_fate.TapFate.TheVariants.{Read, Full, Lost}
use Rattle.lq_tap_run.specs.Lanes.{numbers_of, one_where}
use Rattle.lq_tap_run.specs.Marks.{AreMarked, AreMarkedFull, IsMarked, IsMarkedFull}
use Rattle.lq_tap_run.proofs.Bringing.{numbers_more, times_more}

-- LISTS

set_here : {X : Type 0} (xs : List X) (i : ℕ) (x : X) → i < length xs → slice_get (set xs i x) i ≡ Some x
set_here [] i x within = absurd (omega arith)
set_here (y ∷ ys) zero x within = refl
set_here (y ∷ ys) (suc i) x within = set_here ys i x (omega arith)

set_apart : {X : Type 0} (xs : List X) (i k : ℕ) (x : X) → k ≢ i → slice_get (set xs i x) k ≡ slice_get xs k
set_apart [] i k x other = refl
set_apart (y ∷ ys) zero zero x other = absurd (other refl)
set_apart (y ∷ ys) zero (suc k) x other = refl
set_apart (y ∷ ys) (suc i) zero x other = refl
set_apart (y ∷ ys) (suc i) (suc k) x other = set_apart ys i k x (λ e. other (ap suc e))

-- what is at a place of a list in which one was set
set_cases :
    {X : Type 0} (xs : List X) (i : ℕ) (new : X) (k : ℕ) (x : X) → i < length xs → slice_get (set xs i new) k ≡ Some x
    → ((k ≡ i) × (new ≡ x)) ⊎ ((k ≢ i) × (slice_get xs k ≡ Some x))
set_cases xs i new k x within at = elim (cases_eq k i) [
  | inl same ↦ inl (same, same_Some new x (sym (set_here xs i new within) ∙ ap (slice_get (set xs i new)) (sym same) ∙ at))
  | inr other ↦ inr (other, sym (set_apart xs i k new other) ∙ at)
]

-- THE PACKETS THAT WERE FOUND FULL

still_full : (fulls : List (ℕ × ℕ)) (n seen m : ℕ) (fate : TapFate) → m ≢ n → IsMarkedFull fulls m fate → IsMarkedFull (fulls ++ (n, seen) ∷ []) m fate
still_full fulls n seen m (Full s) other marked = Contains-append_left fulls ((n, seen) ∷ []) (m, s) marked
still_full fulls n seen m (Read place) other marked = absurd marked
still_full fulls n seen m Lost other marked =
    let none : one_where (eqb m n) ≡ 0 = ap one_where (ne_eqb m n other) in let more = numbers_more m n seen fulls in let was : times m (numbers_of fulls) ≡ 0 = marked in omega arith

pub mark_one_full :
    (count : ℕ) (fulls : List (ℕ × ℕ)) (fates : List TapFate) (n seen : ℕ) → n < length fates → AreMarkedFull count fulls fates
    → AreMarkedFull count (fulls ++ (n, seen) ∷ []) (set fates n (Full seen))
mark_one_full count fulls fates n seen within are = record {
  long = length-set fates n (Full seen) ∙ are.long;
  each = λ m fate at. elim (set_cases fates n (Full seen) m fate within at) [
    | inl here ↦ subst (IsMarkedFull (fulls ++ (n, seen) ∷ []) m) here.1 (subst (λ k. Contains (fulls ++ (n, seen) ∷ []) (k, seen)) (sym here.0) (Contains-push fulls (n, seen)))
    | inr there ↦ still_full fulls n seen m fate there.0 (are.each m fate there.1)
  ];
}

-- the next of a list of them
pub number_below : (full : List (ℕ × ℕ)) (i count : ℕ) → i < length full → All (λ n. n < count) (numbers_of full) → (get_or full i (0, 0)).0 < count
number_below [] i count lt all = absurd (omega arith)
number_below (f ∷ fs) zero count lt all = all 0 0 (omega arith)
number_below (f ∷ fs) (suc i) count lt all = number_below fs i count (omega arith) (λ k d below. all (suc k) d (omega arith))

pub mark_full_on :
    (count : ℕ) (fulls full : List (ℕ × ℕ)) (i : ℕ) (fates : List TapFate) → i < length full → (get_or full i (0, 0)).0 < length fates
    → AreMarkedFull count (fulls ++ take i full) fates → AreMarkedFull count (fulls ++ take (i + 1) full) (set fates (get_or full i (0, 0)).0 (Full (get_or full i (0, 0)).1))
mark_full_on count fulls full i fates lt below are =
    let f : ℕ × ℕ = get_or full i (0, 0) in
    let more : fulls ++ take (i + 1) full ≡ (fulls ++ take i full) ++ f ∷ [] = ap (λ (fs : List (ℕ × ℕ)). fulls ++ fs) (take_more full i (0, 0) lt) ∙ sym (append_assoc fulls (take i full) (f ∷ [])) in
    subst (λ (fs : List (ℕ × ℕ)). AreMarkedFull count fs (set fates f.0 (Full f.1))) (sym more) (mark_one_full count (fulls ++ take i full) fates f.0 f.1 below are)

-- THE PACKETS THAT WERE READ

in_list : (m place : ℕ) (xs : List ℕ) → slice_get xs place ≡ Some m → 0 < times m xs
in_list m place [] at = cc
in_list m zero (x ∷ xs) at = (let e : m ≡ x = (let f : Some x ≡ Some m = at in cc) in let one : one_where (eqb m x) ≡ 1 = ap one_where (eq-eqb m x e) in omega arith)
in_list m (suc place) (x ∷ xs) at = (let more : 0 < times m xs = in_list m place xs at in omega arith)

pub is_in : (m place : ℕ) (xs : List ℕ) → slice_get xs place ≡ Some m → 0 < times m xs
is_in = in_list

still_marked : (fulls : List (ℕ × ℕ)) (xs : List ℕ) (n m : ℕ) (fate : TapFate) → m ≢ n → IsMarked fulls xs m fate → IsMarked fulls (xs ++ n ∷ []) m fate
still_marked fulls xs n m (Full s) other marked = marked
still_marked fulls xs n m (Read place) other marked = get-push-old xs (n ∷ []) m place marked
still_marked fulls xs n m Lost other marked =
    let none : one_where (eqb m n) ≡ 0 = ap one_where (ne_eqb m n other) in let more = times_more m n xs in let was : times m xs ≡ 0 = marked.1 in (marked.0, omega arith)

pub mark_one_read :
    (count : ℕ) (fulls : List (ℕ × ℕ)) (xs : List ℕ) (fates : List TapFate) (n : ℕ) → n < length fates → times n xs ≡ 0 → AreMarked count fulls xs fates
    → AreMarked count fulls (xs ++ n ∷ []) (set fates n (Read (length xs)))
mark_one_read count fulls xs fates n within new are = record {
  long = length-set fates n (Read (length xs)) ∙ are.long;
  each = λ m fate at. elim (set_cases fates n (Read (length xs)) m fate within at) [
    | inl here ↦ subst (IsMarked fulls (xs ++ n ∷ []) m) here.1 (get-push-new xs n ∙ ap (λ (k : ℕ). Some k) (sym here.0))
    | inr there ↦ still_marked fulls xs n m fate there.0 (are.each m fate there.1)
  ];
  placed = λ place m at. elim (get-push-cases xs n m place at) [
    | inl old ↦
        let other : m ≢ n = λ e. (let some : 0 < times m xs = in_list m place xs old in let none : times m xs ≡ 0 = ap (λ k. times k xs) e ∙ new in omega arith) in
        set_apart fates n m (Read (length xs)) other ∙ are.placed place m old
    | inr last ↦
        ap (slice_get (set fates n (Read (length xs)))) (sym last.1) ∙ set_here fates n (Read (length xs)) within ∙ ap (λ (k : ℕ). Some (Read k)) (sym last.0)
  ];
}

-- nothing was read yet
none_read : (fulls : List (ℕ × ℕ)) (n : ℕ) (fate : TapFate) → IsMarkedFull fulls n fate → IsMarked fulls [] n fate
none_read fulls n (Full s) marked = marked
none_read fulls n (Read place) marked = absurd marked
none_read fulls n Lost marked = (marked, refl)

pub mark_none : (count : ℕ) (fulls : List (ℕ × ℕ)) (fates : List TapFate) → AreMarkedFull count fulls fates → AreMarked count fulls [] fates
mark_none count fulls fates are = record {
  long = are.long;
  each = λ n fate at. none_read fulls n fate (are.each n fate at);
  placed = λ place n at. cc;
}

pub not_before : (i : ℕ) (xs : List ℕ) → i < length xs → ((n : ℕ) → times n xs ≤ 1) → times (get_or xs i 0) (take i xs) ≡ 0
not_before i xs lt once =
    let n = get_or xs i 0 in
    let here : slice_get xs i ≡ Some n = slice_get-get_or xs i 0 lt in
    go i xs n here (once n)
  where
    go : (i : ℕ) (xs : List ℕ) (n : ℕ) → slice_get xs i ≡ Some n → times n xs ≤ 1 → times n (take i xs) ≡ 0
    go zero xs n at few = refl
    go (suc i) [] n at few = cc
    go (suc i) (x ∷ xs) n at few =
        let some : 0 < times n xs = in_list n i xs at in
        let rest : times n (take i xs) ≡ 0 = go i xs n at (omega arith) in
        omega arith

pub mark_read_on :
    (count : ℕ) (fulls : List (ℕ × ℕ)) (read : List ℕ) (i : ℕ) (fates : List TapFate) → i < length read → get_or read i 0 < length fates → ((n : ℕ) → times n read ≤ 1)
    → AreMarked count fulls (take i read) fates → AreMarked count fulls (take (i + 1) read) (set fates (get_or read i 0) (Read i))
mark_read_on count fulls read i fates lt below once are =
    let n = get_or read i 0 in
    let front : List ℕ = take i read in
    let long : length front ≡ i = omega (arith, length-take i read) in
    let marked : AreMarked count fulls (front ++ n ∷ []) (set fates n (Read (length front))) = mark_one_read count fulls front fates n below (not_before i read lt once) are in
    subst (λ (xs : List ℕ). AreMarked count fulls xs (set fates n (Read i))) (sym (take_more read i 0 lt))
    (subst (λ k. AreMarked count fulls (front ++ n ∷ []) (set fates n (Read k))) long marked)
