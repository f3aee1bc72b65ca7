-- In which order the joint list has its packets.
use Rattle.std.proofs.Common.{◌≡◌, inl, inr, ℕ, zero, suc, ◌+◌, ◌<◌, ◌≤◌, ◌==◌, true, cond, List, [], ◌∷◌, ◌++◌, Option, Some, None, slice_get, All, count_by, refl, sym, ap, ◌∙◌, subst, arith}
use Rattle.std.specs.Prelude.{AllPairs}
use Rattle.std.specs.List.{cons_option}
use Rattle.std.proofs.lemmas.Bool.{cases_Bool, eq-eqb, eqb-true}
use Rattle.std.proofs.lemmas.List.Elements.{All-nil, All-cons}
use Rattle.std.proofs.lemmas.List.Kept.{AllPairs-cons}
use Rattle.std.proofs.lemmas.List.Sums.{sum_by-cons}
use Rattle.std.proofs.lemmas.Option.{same_Some}
use Rattle.lq_mq.specs.Joint.{joint}
use Rattle.lq_mq.specs.Laws.{IsBefore, HasAtSerial, IsSubsequence}
use Rattle.lq_mq.proofs.Serials.{at_serial, first-more, longest, of-first}

-- LISTS

-- `All` and `AllPairs`, element by element
abbrev pub Each : (ℕ → Type 0) → List ℕ → Type 0
Each P [] = Unit {0}
Each P (x ∷ xs) = P x × Each P xs

abbrev pub Pairs : (ℕ → ℕ → Type 0) → List ℕ → Type 0
Pairs R [] = Unit {0}
Pairs R (x ∷ xs) = Each (R x) xs × Pairs R xs

pub each-all : (P : ℕ → Type 0) (xs : List ℕ) → Each P xs → All P xs
each-all P [] h = All-nil P
each-all P (x ∷ xs) h = All-cons P x xs h.0 (each-all P xs h.1)

pub pairs-all : (R : ℕ → ℕ → Type 0) (xs : List ℕ) → Pairs R xs → AllPairs R xs
pairs-all R [] h = λ i j d lt within. absurd (omega arith)
pairs-all R (x ∷ xs) h = AllPairs-cons R x xs (each-all (R x) xs h.0) (pairs-all R xs h.1)

pub each-map : (P Q : ℕ → Type 0) → ((n : ℕ) → P n → Q n) → (xs : List ℕ) → Each P xs → Each Q xs
each-map P Q f [] h = _
each-map P Q f (x ∷ xs) h = (f x h.0, each-map P Q f xs h.1)

pub pairs-map : (R S : ℕ → ℕ → Type 0) → ((m n : ℕ) → R m n → S m n) → (xs : List ℕ) → Pairs R xs → Pairs S xs
pairs-map R S f [] h = _
pairs-map R S f (x ∷ xs) h = (each-map (R x) (S x) (f x) xs h.0, pairs-map R S f xs h.1)

each-append : (P : ℕ → Type 0) (xs ys : List ℕ) → Each P xs → Each P ys → Each P (xs ++ ys)
each-append P [] ys one two = two
each-append P (x ∷ xs) ys one two = (one.0, each-append P xs ys one.1 two)

-- each of the first list stands before each of the second
pairs-append : (R : ℕ → ℕ → Type 0) (xs ys : List ℕ) → Pairs R xs → Pairs R ys → Each (λ x. Each (R x) ys) xs → Pairs R (xs ++ ys)
pairs-append R [] ys one two across = two
pairs-append R (x ∷ xs) ys one two across = (each-append (R x) xs ys one.0 across.0, pairs-append R xs ys one.1 two across.1)

-- what an element has, from its place
each-at : (P : ℕ → Type 0) (xs : List ℕ) (place n : ℕ) → Each P xs → slice_get xs place ≡ Some n → P n
each-at P [] place n h at = cc
each-at P (x ∷ xs) zero n h at = let same : x ≡ n = same_Some x n at in subst P same h.0
each-at P (x ∷ xs) (suc place) n h at = each-at P xs place n h.1 at

-- ONE SERIAL

module _ (lists : List (List ℕ)) where
  -- the lists from number low on
  abbrev AreFrom : ℕ → List (List ℕ) → Type 0
  AreFrom low rest = (i : ℕ) (list : List ℕ) → slice_get rest i ≡ Some list → slice_get lists (low + i) ≡ Some list

  -- one of them has the number at this serial
  abbrev IsFrom : ℕ → ℕ → ℕ → Type 0
  IsFrom low k n = (i : ℕ) × (low ≤ i) × HasAtSerial lists i k n

  next-from : (low : ℕ) (list : List ℕ) (rest : List (List ℕ)) → AreFrom low (list ∷ rest) → AreFrom (suc low) rest
  next-from low list rest from i l at = let same : low + suc i ≡ suc low + i = omega arith in subst (λ k. slice_get lists k ≡ Some l) same (from (suc i) l at)

  first-from : (low : ℕ) (list : List ℕ) (rest : List (List ℕ)) → AreFrom low (list ∷ rest) → slice_get lists low ≡ Some list
  first-from low list rest from = let same : low + 0 ≡ low = omega arith in subst (λ k. slice_get lists k ≡ Some list) same (from 0 list refl)

  further : (low k n : ℕ) → IsFrom (suc low) k n → IsFrom low k n
  further low k n h = (h.0, omega arith, h.2)

  option-from : (low k : ℕ) (list : List ℕ) (o : Option ℕ) (rest : List ℕ) → slice_get lists low ≡ Some list → slice_get list k ≡ o → Each (IsFrom (suc low) k) rest → Each (IsFrom low k) (cons_option o rest)
  option-from low k list None rest here at later = each-map (IsFrom (suc low) k) (IsFrom low k) (further low k) rest later
  option-from low k list (Some n) rest here at later = ((low, omega arith, (list, here, at)), each-map (IsFrom (suc low) k) (IsFrom low k) (further low k) rest later)

  serial-from : (low k : ℕ) (rest : List (List ℕ)) → AreFrom low rest → Each (IsFrom low k) (at_serial rest k)
  serial-from low k [] from = _
  serial-from low k (list ∷ rest) from = option-from low k list (slice_get list k) (at_serial rest k) (first-from low list rest from) refl (serial-from (suc low) k rest (next-from low list rest from))

  option-pairs : (low k : ℕ) (list : List ℕ) (o : Option ℕ) (rest : List ℕ) → slice_get lists low ≡ Some list → slice_get list k ≡ o → Each (IsFrom (suc low) k) rest → Pairs (IsBefore lists) rest
      → Pairs (IsBefore lists) (cons_option o rest)
  option-pairs low k list None rest here at later pairs = pairs
  option-pairs low k list (Some m) rest here at later pairs = (each-map (IsFrom (suc low) k) (IsBefore lists m) (λ n h. (low, h.0, k, k, (list, here, at), h.2, inr (refl, omega arith))) rest later, pairs)

  serial-pairs : (low k : ℕ) (rest : List (List ℕ)) → AreFrom low rest → Pairs (IsBefore lists) (at_serial rest k)
  serial-pairs low k [] from = _
  serial-pairs low k (list ∷ rest) from =
      let more = next-from low list rest from in
      option-pairs low k list (slice_get list k) (at_serial rest k) (first-from low list rest from) refl (serial-from (suc low) k rest more) (serial-pairs (suc low) k rest more)

  all-from : AreFrom 0 lists
  all-from i list at = let same : i ≡ 0 + i = omega arith in subst (λ k. slice_get lists k ≡ Some list) same at

  -- ALL SERIALS

  -- one of the lists has the number at a serial below k
  abbrev IsBelow : ℕ → ℕ → Type 0
  IsBelow k n = (i : ℕ) × (serial : ℕ) × (serial < k) × HasAtSerial lists i serial n

  each-below : (k : ℕ) → Each (IsBelow k) (of-first lists k)
  each-below zero = _
  each-below (suc k) =
      subst (λ (xs : List ℕ). Each (IsBelow (suc k)) xs) (sym (first-more lists k))
      (each-append (IsBelow (suc k)) (of-first lists k) (at_serial lists k)
      (each-map (IsBelow k) (IsBelow (suc k)) (λ n h. (h.0, h.1, omega arith, h.3)) (of-first lists k) (each-below k))
      (each-map (IsFrom 0 k) (IsBelow (suc k)) (λ n h. (h.0, k, omega arith, h.2)) (at_serial lists k) (serial-from 0 k lists all-from)))

  pairs-below : (k : ℕ) → Pairs (IsBefore lists) (of-first lists k)
  pairs-below zero = _
  pairs-below (suc k) =
      let here = serial-from 0 k lists all-from in
      subst (λ (xs : List ℕ). Pairs (IsBefore lists) xs) (sym (first-more lists k))
      (pairs-append (IsBefore lists) (of-first lists k) (at_serial lists k) (pairs-below k) (serial-pairs 0 k lists all-from)
      (each-map (IsBelow k) (λ m. Each (IsBefore lists m) (at_serial lists k))
      (λ m h. each-map (IsFrom 0 k) (IsBefore lists m) (λ n f. (h.0, f.0, h.1, k, h.3, f.2, inl h.2)) (at_serial lists k) here)
      (of-first lists k) (each-below k)))

  pub each-is-sent : Each (λ n. (i : ℕ) × (serial : ℕ) × HasAtSerial lists i serial n) (joint lists)
  each-is-sent = each-map (IsBelow (longest lists)) (λ n. (i : ℕ) × (serial : ℕ) × HasAtSerial lists i serial n) (λ n h. (h.0, h.1, h.3)) (joint lists) (each-below (longest lists))

  pub pairs-in-order : Pairs (IsBefore lists) (joint lists)
  pairs-in-order = pairs-below (longest lists)

-- ONCE

module _ (R : ℕ → ℕ → Type 0) (n : ℕ) (apart : R n n → ⊥) where
  nowhere : (xs : List ℕ) → Each (R n) xs → count_by (λ m. m == n) xs ≡ 0
  nowhere [] h = refl
  nowhere (x ∷ xs) h =
      let rest = nowhere xs h.1 in let more = sum_by-cons (λ (m : ℕ). cond (m == n) 1 0) x xs in
      elim (cases_Bool (x == n)) [
        | inl same ↦ absurd (apart (subst (R n) (eqb-true x n same) h.0))
        | inr other ↦ more ∙ rw (other, rest) refl
      ]

  -- an element before which it does not stand itself is there once
  pub once : (xs : List ℕ) (place : ℕ) → Pairs R xs → slice_get xs place ≡ Some n → count_by (λ m. m == n) xs ≡ 1
  once [] place h at = cc
  once (x ∷ xs) zero h at =
      let same : x ≡ n = same_Some x n at in let rest = nowhere xs (subst (λ m. Each (R m) xs) same h.0) in let more = sum_by-cons (λ (m : ℕ). cond (m == n) 1 0) x xs in
      let is : (x == n) ≡ true = eq-eqb x n same in
      more ∙ rw (is, rest) refl
  once (x ∷ xs) (suc place) h at =
      let rest = once xs place h.1 at in let more = sum_by-cons (λ (m : ℕ). cond (m == n) 1 0) x xs in
      elim (cases_Bool (x == n)) [
        | inl same ↦ absurd (apart (subst (λ m. R m n) (eqb-true x n same) (each-at (R x) xs place n h.0 at)))
        | inr other ↦ more ∙ rw (other, rest) refl
      ]

-- what stands in a subsequence stands in the list
pub stands-in : (xs ys : List ℕ) (place n : ℕ) → IsSubsequence xs ys → slice_get xs place ≡ Some n → (there : ℕ) × (slice_get ys there ≡ Some n)
stands-in [] ys place n sub at = cc
stands-in (x ∷ xs) [] place n sub at = absurd sub
stands-in (x ∷ xs) (y ∷ ys) zero n (inl here) at = (0, ap (λ z. Some z) (sym here.0) ∙ at)
stands-in (x ∷ xs) (y ∷ ys) (suc place) n (inl here) at = let rest = stands-in xs ys place n here.1 at in (suc rest.0, rest.1)
stands-in (x ∷ xs) (y ∷ ys) place n (inr later) at = let rest = stands-in (x ∷ xs) ys place n later at in (suc rest.0, rest.1)
