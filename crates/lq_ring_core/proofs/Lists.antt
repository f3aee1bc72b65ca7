-- Lists.
use Rattle.std.proofs.Common.{◌≡◌, ◌↔◌, ℕ, arith, List, [], ◌∷◌, ◌++◌, length, take, drop, get_or, set, slice_index, ◌<◌, ◌≤◌, ◌-◌, ◌+◌, zero, suc, Some, slice_range, length-drop, Option, refl, sym, ap, ◌∙◌, add-one, append_assoc, append-nil}
use Rattle.std.proofs.Math.Seq.{take-append_seam, drop-append_seam}
use Rattle.std.proofs.Math.ListN.{drop_of_length-le}
use Rattle.std.specs.List.{slice_get}
use Rattle.std.proofs.lemmas.List.{get_or_default, drop-append-le, take-append-le, drop-drop, take-append-drop, length-take-le, take_all}
use Rattle.std.specs.Option.{IsNone, is_some}
use Rattle.std.proofs.lemmas.Bool.{false≢true}
use Rattle.std.proofs.lemmas.Grind.{common_steps}

-- what a `Vec` has after the whole of it was lent
pub refilled : (n : ℕ) (ws xs : List ℕ) → n ≡ length xs → length ws ≡ length xs → take n (ws ++ drop (length ws) xs) ≡ ws
refilled n ws xs e h = grind (arith, common_steps)

pub slice_get-none : (xs : List ℕ) (r : Option ℕ) → r ≡ slice_get xs 0 → IsNone r ↔ (xs ≡ [])
slice_get-none [] r e = (λ _. refl, λ _. rw e refl)
slice_get-none (x ∷ xs) r e = (λ h. absurd (false≢true (sym h ∙ ap is_some e)), λ h. absurd (let no : x ∷ xs ≡ [] = h in cc))

-- a number that was read within a `Vec` of n
pub read-slice_index : (xs : List ℕ) (n size i v : ℕ) → n ≡ length xs → size ≤ n → i < size → v ≡ get_or xs i v → v ≡ slice_index xs i
read-slice_index xs n size i v e within h read = read ∙ get_or_default xs i v 0 (omega arith)

-- A PART OF A LIST

pub slice_range-append : (xs ys : List ℕ) (a b : ℕ) → a ≤ b → b ≤ length xs → slice_range (xs ++ ys) a b ≡ slice_range xs a b
slice_range-append xs ys a b h within =
    let front : a ≤ length xs = omega arith in
    let part : b - a ≤ length (drop a xs) = omega (arith, length-drop a xs) in
    rw (drop-append-le, take-append-le)

-- and what stands behind it
pub slice_range-drop : (xs : List ℕ) (a b : ℕ) → a ≤ b → slice_range xs a b ++ drop b xs ≡ drop a xs
slice_range-drop xs a b h =
    let e : b ≡ a + (b - a) = omega arith in
    let behind : drop b xs ≡ drop (b - a) (drop a xs) = ap (λ n. drop n xs) e ∙ sym (drop-drop (b - a) a xs) in
    rw behind (take-append-drop (b - a) (drop a xs))

pub take-more : (k : ℕ) (xs : List ℕ) → take (suc k) xs ≡ take k xs ++ take 1 (drop k xs)
take-more zero xs = refl
take-more (suc k) [] = refl
take-more (suc k) (x ∷ xs) = ap (λ ys. x ∷ ys) (take-more k xs)

-- with one more
pub slice_range-push : (xs : List ℕ) (a b : ℕ) → a ≤ b → slice_range xs a (b + 1) ≡ slice_range xs a b ++ take 1 (drop b xs)
slice_range-push xs a b h =
    let more : b + 1 - a ≡ b - a + 1 = omega arith in
    let e : b ≡ a + (b - a) = omega arith in
    let behind : drop b xs ≡ drop (b - a) (drop a xs) = ap (λ n. drop n xs) e ∙ sym (drop-drop (b - a) a xs) in
    rw (more, add-one, behind) (take-more (b - a) (drop a xs))

pub length-slice_range : (xs : List ℕ) (a b : ℕ) → a ≤ b → b ≤ length xs → length (slice_range xs a b) ≡ b - a
length-slice_range xs a b h within = length-take-le (b - a) (drop a xs) (omega (arith, length-drop a xs))

pub slice_get-drop : (xs : List ℕ) (k : ℕ) → slice_get (drop k xs) 0 ≡ slice_get xs k
slice_get-drop xs zero = refl
slice_get-drop [] (suc k) = refl
slice_get-drop (x ∷ xs) (suc k) = slice_get-drop xs k

-- a list with a first element
pub length-first : (xs : List ℕ) (n : ℕ) → Some n ≡ slice_get xs 0 → 0 < length xs
length-first [] n e = absurd (cc)
length-first (x ∷ xs) n e = omega arith

pub length-drop_none : (n : ℕ) (xs : List ℕ) → drop n xs ≡ [] → length xs ≤ n
length-drop_none n xs e = omega (arith, length-drop n xs, ap length e)

some-none : (x n : ℕ) → Some x ≡ slice_get (drop n []) 0 → ⊥
some-none x zero e = cc
some-none x (suc n) e = cc

suc-add-one : (n : ℕ) → suc n + 1 ≡ suc (n + 1)
suc-add-one n = omega arith

-- the next of one list is written after those that were written before
pub set-taken : (xs out : List ℕ) (n x : ℕ) → Some x ≡ slice_get (drop n xs) 0 → n < length out
    → set (take n xs ++ drop n out) n x ≡ take (n + 1) xs ++ drop (n + 1) out
set-taken [] out n x e h = absurd (some-none x n e)
set-taken (y ∷ xs) [] n x e h = absurd (omega arith)
set-taken (y ∷ xs) (z ∷ out) zero x e h = let same : x ≡ y = cc in rw same
set-taken (y ∷ xs) (z ∷ out) (suc n) x e h = rw (suc-add-one n) (ap (λ ys. y ∷ ys) (set-taken xs out n x e (omega arith)))

-- one more is written after those that were written before
pub set-behind : (ys out : List ℕ) (n x : ℕ) → length ys ≡ n → n < length out → set (ys ++ drop n out) n x ≡ (ys ++ x ∷ []) ++ drop (n + 1) out
set-behind [] [] n x e h = absurd (omega arith)
set-behind [] (z ∷ out) zero x e h = refl
set-behind [] (z ∷ out) (suc n) x e h = absurd (omega arith)
set-behind (y ∷ ys) [] n x e h = absurd (omega arith)
set-behind (y ∷ ys) (z ∷ out) zero x e h = absurd (omega arith)
set-behind (y ∷ ys) (z ∷ out) (suc n) x e h = rw (suc-add-one n) (ap (λ zs. y ∷ zs) (set-behind ys out n x (omega arith) (omega arith)))

-- THREE PARTS, ONE AFTER THE OTHER

pub take-front : (xs ys : List ℕ) (n : ℕ) → length xs ≡ n → take n (xs ++ ys) ≡ xs
take-front xs ys n e = ap (λ m. take m (xs ++ ys)) (sym e) ∙ take-append_seam xs ys

pub drop-front : (xs ys : List ℕ) (n : ℕ) → length xs ≡ n → drop n (xs ++ ys) ≡ ys
drop-front xs ys n e = ap (λ m. drop m (xs ++ ys)) (sym e) ∙ drop-append_seam xs ys

pub drop-rest : (xs : List ℕ) (n : ℕ) → drop (length xs - n) (drop n xs) ≡ []
drop-rest xs n = drop_of_length-le (drop n xs) {i = length xs - n} (omega (arith, length-drop n xs))

-- what is written to a list from its start, from its place na, and from nb places after that
pub three-parts : (a b c out first second third : List ℕ) (na nb nc : ℕ) → length a ≡ na → length b ≡ nb → length c ≡ nc
    → first ≡ a ++ drop na out → second ≡ b ++ drop nb (drop na first) → third ≡ c ++ drop nc (drop nb second)
    → take na first ++ ((take nb second ++ (third ++ drop (length second - nb) (drop nb second))) ++ drop (length first - na) (drop na first))
    ≡ ((a ++ b) ++ c) ++ drop (na + nb + nc) out
three-parts a b c out first second third na nb nc la lb lc ea eb ec =
    let behind_a : drop na first ≡ drop na out = rw ea (drop-front a (drop na out) na la) in
    let front_a : take na first ≡ a = rw ea (take-front a (drop na out) na la) in
    let second_is : second ≡ b ++ drop nb (drop na out) = rw behind_a at eb in
    let behind_b : drop nb second ≡ drop nb (drop na out) = rw second_is (drop-front b (drop nb (drop na out)) nb lb) in
    let front_b : take nb second ≡ b = rw second_is (take-front b (drop nb (drop na out)) nb lb) in
    let third_is : third ≡ c ++ drop nc (drop nb (drop na out)) = rw behind_b at ec in
    let rest : drop nc (drop nb (drop na out)) ≡ drop (na + nb + nc) out = ap (drop nc) (drop-drop nb na out) ∙ drop-drop nc (na + nb) out in
    rw (front_a, front_b, drop-rest second nb, drop-rest first na, third_is, rest) (simp (append_assoc, append-nil))

-- a part up to the end
pub take-rest : (xs : List ℕ) (n : ℕ) → take (length xs - n) (drop n xs) ≡ drop n xs
take-rest xs n = take_all (length xs - n) (drop n xs) (omega (arith, length-drop n xs))
