-- The joint list, serial by serial.
use Rattle.std.proofs.Common.{◌≡◌, inl, inr, ℕ, zero, suc, ◌+◌, ◌<◌, ◌≤◌, Bool, true, cond, List, [], ◌∷◌, ◌++◌, length, map, take, Option, Some, None, slice_get, slice_index_or, count_by, refl, sym, ap, ap₂, ◌∙◌, subst, arith}
use Rattle.std.proofs.Math.Nat.{le-max_left, le-max_right}
use Rattle.std.specs.List.{cons_option, filter_map, flat_map, sum_by}
use Rattle.std.proofs.lemmas.Grind.{flat_map-append}
use Rattle.std.proofs.lemmas.List.{append-nil, append_assoc, take_all, take_more}
use Rattle.std.proofs.lemmas.List.Elements.{filter_map-append}
use Rattle.std.proofs.lemmas.List.Sums.{sum_by-append, sum_by-cons}
use Rattle.std.specs.Prelude.{fold, max}
use Rattle.std.proofs.lemmas.Option.{same_Some}
use Rattle.lq_model.specs.Numbers.{first_numbers, greatest}
use Rattle.lq_mq.specs.Joint.{joint}
use Rattle.lq_mq.specs.Laws.{IsSubsequence}

-- the element at a place, if there is one
abbrev one-at : List ℕ → ℕ → List ℕ
one-at list k = cons_option (slice_get list k) []

-- the first elements, and one more
take-one : (list : List ℕ) (k : ℕ) → take (suc k) list ≡ take k list ++ one-at list k
take-one [] zero = refl
take-one [] (suc k) = refl
take-one (x ∷ xs) zero = refl
take-one (x ∷ xs) (suc k) = ap (λ ys. x ∷ ys) (take-one xs k)

-- what has this serial in each of the lists that is long enough
abbrev pub at_serial : List (List ℕ) → ℕ → List ℕ
at_serial lists serial = filter_map (λ list. slice_get list serial) lists

-- the joint list of the first serials
abbrev pub of-first : List (List ℕ) → ℕ → List ℕ
of-first lists k = flat_map (at_serial lists) (first_numbers k)

pub first-more : (lists : List (List ℕ)) (k : ℕ) → of-first lists (suc k) ≡ of-first lists k ++ at_serial lists k
first-more lists k = flat_map-append (at_serial lists) (first_numbers k) (k ∷ []) ∙ ap (λ ys. of-first lists k ++ ys) (append-nil (at_serial lists k))

-- how long the longest list is
abbrev pub longest : List (List ℕ) → ℕ
longest lists = greatest (map length lists)

-- the greatest of some numbers, all of them at least as great as one
abbrev most-of : ℕ → List ℕ → ℕ
most-of start numbers = fold (λ most number. max most number) start numbers

not-less : (start : ℕ) (numbers : List ℕ) → start ≤ most-of start numbers
not-less start [] = omega arith
not-less start (n ∷ numbers) = let rest = not-less (max start n) numbers in let most = le-max_left start n in omega arith

within-most : (start : ℕ) (lists : List (List ℕ)) (i : ℕ) (list : List ℕ) → slice_get lists i ≡ Some list → length list ≤ most-of start (map length lists)
within-most start [] i list at = cc
within-most start (l ∷ lists) zero list at =
    let same : l ≡ list = same_Some l list at in let long = ap length same in
    let rest = not-less (max start (length l)) (map length lists) in let most = le-max_right start (length l) in omega arith
within-most start (l ∷ lists) (suc i) list at = within-most (max start (length l)) lists i list at

within-longest : (lists : List (List ℕ)) (i : ℕ) (list : List ℕ) → slice_get lists i ≡ Some list → length list ≤ longest lists
within-longest lists i list at = within-most 0 lists i list at

-- SUBSEQUENCES

skips : (xs ys : List ℕ) (y : ℕ) → IsSubsequence xs ys → IsSubsequence xs (y ∷ ys)
skips [] ys y sub = _
skips (x ∷ xs) ys y sub = inr sub

skips-all : (xs ys zs : List ℕ) → IsSubsequence xs zs → IsSubsequence xs (ys ++ zs)
skips-all xs [] zs sub = sub
skips-all xs (y ∷ ys) zs sub = skips xs (ys ++ zs) y (skips-all xs ys zs sub)

subs-append : (xs ys us vs : List ℕ) → IsSubsequence xs us → IsSubsequence ys vs → IsSubsequence (xs ++ ys) (us ++ vs)
subs-append [] ys us vs one two = skips-all ys us vs two
subs-append (x ∷ xs) ys [] vs one two = absurd one
subs-append (x ∷ xs) ys (u ∷ us) vs (inl here) two = inl (here.0, subs-append xs ys us vs here.1 two)
subs-append (x ∷ xs) ys (u ∷ us) vs (inr later) two = inr (subs-append (x ∷ xs) ys us vs later two)

-- what one list has at a serial is among what all have
own-option : (o : Option ℕ) (rest : List ℕ) → IsSubsequence (cons_option o []) (cons_option o rest)
own-option None rest = _
own-option (Some x) rest = inl (refl, _)

later-option : (o : Option ℕ) (xs rest : List ℕ) → IsSubsequence xs rest → IsSubsequence xs (cons_option o rest)
later-option None xs rest sub = sub
later-option (Some y) xs rest sub = skips xs rest y sub

own-serial : (lists : List (List ℕ)) (i k : ℕ) (list : List ℕ) → slice_get lists i ≡ Some list → IsSubsequence (one-at list k) (at_serial lists k)
own-serial [] i k list at = cc
own-serial (l ∷ lists) zero k list at = let same : l ≡ list = same_Some l list at in subst (λ (x : List ℕ). IsSubsequence (one-at x k) (at_serial (l ∷ lists) k)) same (own-option (slice_get l k) (at_serial lists k))
own-serial (l ∷ lists) (suc i) k list at = later-option (slice_get l k) (one-at list k) (at_serial lists k) (own-serial lists i k list at)

own-first : (lists : List (List ℕ)) (i k : ℕ) (list : List ℕ) → slice_get lists i ≡ Some list → IsSubsequence (take k list) (of-first lists k)
own-first lists i zero list at = _
own-first lists i (suc k) list at =
    subst (λ (ys : List ℕ). IsSubsequence (take (suc k) list) ys) (sym (first-more lists k))
    (subst (λ (xs : List ℕ). IsSubsequence xs (of-first lists k ++ at_serial lists k)) (sym (take-one list k))
    (subs-append (take k list) (one-at list k) (of-first lists k) (at_serial lists k) (own-first lists i k list at) (own-serial lists i k list at)))

pub subsequences : (lists : List (List ℕ)) (i : ℕ) (list : List ℕ) → slice_get lists i ≡ Some list → IsSubsequence list (joint lists)
subsequences lists i list at =
    subst (λ (xs : List ℕ). IsSubsequence xs (joint lists)) (take_all (longest lists) list (within-longest lists i list at)) (own-first lists i (longest lists) list at)

-- COUNTS

module _ (test : ℕ → Bool) where
  count-append : (xs ys : List ℕ) → count_by test (xs ++ ys) ≡ count_by test xs + count_by test ys
  count-append xs ys = sum_by-append (λ (m : ℕ). cond (test m) 1 0) xs ys

  count-option : (o : Option ℕ) (rest : List ℕ) → count_by test (cons_option o rest) ≡ count_by test (cons_option o []) + count_by test rest
  count-option None rest = let none : count_by test (cons_option None []) ≡ 0 = refl in omega arith
  count-option (Some x) rest = count-append (x ∷ []) rest

  count-serial : (lists : List (List ℕ)) (k : ℕ) → count_by test (at_serial lists k) ≡ sum_by (λ (list : List ℕ). count_by test (one-at list k)) lists
  count-serial [] k = refl
  count-serial (l ∷ lists) k =
      count-option (slice_get l k) (at_serial lists k)
      ∙ (ap (λ c. count_by test (one-at l k) + c) (count-serial lists k) ∙ sym (sum_by-cons (λ (list : List ℕ). count_by test (one-at list k)) l lists))

  sums-add : (f g h : List ℕ → ℕ) (lists : List (List ℕ)) → ((l : List ℕ) → h l ≡ f l + g l) → sum_by f lists + sum_by g lists ≡ sum_by h lists
  sums-add f g h [] each = refl
  sums-add f g h (l ∷ lists) each =
      let rest = sums-add f g h lists each in let one = each l in
      let a = sum_by-cons f l lists in let b = sum_by-cons g l lists in let c = sum_by-cons h l lists in omega arith

  count-first : (lists : List (List ℕ)) (k : ℕ) → count_by test (of-first lists k) ≡ sum_by (λ (list : List ℕ). count_by test (take k list)) lists
  count-first lists zero = sym (none lists)
    where
      none : (lists : List (List ℕ)) → sum_by (λ (list : List ℕ). count_by test (take 0 list)) lists ≡ 0
      none [] = refl
      none (l ∷ lists) = let one : count_by test (take 0 l) ≡ 0 = refl in let more = sum_by-cons (λ (list : List ℕ). count_by test (take 0 list)) l lists in let rest = none lists in omega arith
  count-first lists (suc k) =
      ap (count_by test) (first-more lists k) ∙ (count-append (of-first lists k) (at_serial lists k)
      ∙ (ap₂ (λ a b. a + b) (count-first lists k) (count-serial lists k)
      ∙ sums-add (λ list. count_by test (take k list)) (λ list. count_by test (one-at list k)) (λ list. count_by test (take (suc k) list)) lists
      (λ l. ap (count_by test) (take-one l k) ∙ count-append (take k l) (one-at l k))))

  sums-same : (f g : List ℕ → ℕ) (lists : List (List ℕ)) → ((i : ℕ) (l : List ℕ) → slice_get lists i ≡ Some l → f l ≡ g l) → sum_by f lists ≡ sum_by g lists
  sums-same f g [] each = refl
  sums-same f g (l ∷ lists) each = sum_by-cons f l lists ∙ (ap₂ (λ a b. a + b) (each 0 l refl) (sums-same f g lists (λ i x at. each (suc i) x at)) ∙ sym (sum_by-cons g l lists))

  pub counts : (lists : List (List ℕ)) → count_by test (joint lists) ≡ sum_by (λ list. count_by test list) lists
  counts lists = count-first lists (longest lists)
      ∙ sums-same (λ list. count_by test (take (longest lists) list)) (λ list. count_by test list) lists
      (λ i l at. ap (count_by test) (take_all (longest lists) l (within-longest lists i l at)))

-- every element counts
count-all : (xs : List ℕ) → count_by (λ m. true) xs ≡ length xs
count-all [] = refl
count-all (x ∷ xs) = let more = sum_by-cons (λ (m : ℕ). 1) x xs in let rest = count-all xs in omega arith

pub joint-length : (lists : List (List ℕ)) → length (joint lists) ≡ sum_by length lists
joint-length lists = sym (count-all (joint lists)) ∙ (counts (λ m. true) lists ∙ sums-same (λ m. true) (λ list. count_by (λ m. true) list) length lists (λ i l at. count-all l))

-- ON THE WAY THROUGH THE LISTS

pub one-more : {X : Type 0} (f : X → Option ℕ) (xs : List X) (i : ℕ) (x : X) → i < length xs → x ≡ slice_index_or xs i x
    → filter_map f (take (i + 1) xs) ≡ filter_map f (take i xs) ++ cons_option (f x) []
one-more f xs i x within is =
    let more : take (i + 1) xs ≡ take i xs ++ x ∷ [] = take_more xs i x within ∙ ap (λ y. take i xs ++ y ∷ []) (sym is) in
    ap (filter_map f) more ∙ filter_map-append f (take i xs) (x ∷ [])

-- a list that has the serial, and one that hasn't
pub with-number : {X : Type 0} (f : X → Option ℕ) (xs : List X) (i : ℕ) (x : X) (old all new : List ℕ) (n : ℕ) → i < length xs → x ≡ slice_index_or xs i x → f x ≡ Some n
    → all ≡ old ++ filter_map f (take i xs) → new ≡ all ++ n ∷ [] → new ≡ old ++ filter_map f (take (i + 1) xs)
with-number f xs i x old all new n within is found was now =
    now ∙ (ap (λ ys. ys ++ n ∷ []) was ∙ (append_assoc old (filter_map f (take i xs)) (n ∷ [])
    ∙ ap (λ ys. old ++ ys) (ap (λ o. filter_map f (take i xs) ++ cons_option o []) (sym found) ∙ sym (one-more f xs i x within is))))

pub without-number : {X : Type 0} (f : X → Option ℕ) (xs : List X) (i : ℕ) (x : X) (old all : List ℕ) → i < length xs → x ≡ slice_index_or xs i x → f x ≡ None
    → all ≡ old ++ filter_map f (take i xs) → all ≡ old ++ filter_map f (take (i + 1) xs)
without-number f xs i x old all within is none was =
    was ∙ ap (λ ys. old ++ ys) (sym (append-nil (filter_map f (take i xs))) ∙ (ap (λ o. filter_map f (take i xs) ++ cons_option o []) (sym none) ∙ sym (one-more f xs i x within is)))

pub filter-mapped : {X Y : Type 0} (f : Y → Option ℕ) (g : X → Y) (xs : List X) → filter_map (λ x. f (g x)) xs ≡ filter_map f (map g xs)
filter-mapped f g [] = refl
filter-mapped f g (x ∷ xs) = ap (λ rest. cons_option (f (g x)) rest) (filter-mapped f g xs)
