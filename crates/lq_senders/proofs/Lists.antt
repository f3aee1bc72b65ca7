-- Lists and their parts.
use Rattle.std.proofs.Common.{◌≡◌, ℕ, zero, suc, ◌<◌, ◌+◌, Bool, true, false, cond, filter, List, [], ◌∷◌, ◌++◌, length, take, drop, Some, refl, sym, ap, ◌∙◌, slice_get, map, arith}
use Rattle.std.proofs.lemmas.List.{take_more}
use Rattle.std.proofs.lemmas.Option.{get_or_from_slice_get, slice_get_within}
use Rattle.std.specs.Prelude.{slice_index_or}
use Rattle.lq_senders.proofs.Seats.{read-at}

pub length-mapped : {X Y : Type 0} (f : X → Y) (xs : List X) → length (map f xs) ≡ length xs
length-mapped f [] = refl
length-mapped f (x ∷ xs) = ap suc (length-mapped f xs)

pub take-all : {X : Type 0} (xs : List X) → take (length xs) xs ≡ xs
take-all [] = refl
take-all (x ∷ xs) = ap (λ l. x ∷ l) (take-all xs)

drop-first : {X : Type 0} (k : ℕ) (xs : List X) → slice_get (drop k xs) 0 ≡ slice_get xs k
drop-first zero xs = refl
drop-first (suc k) [] = refl
drop-first (suc k) (x ∷ xs) = drop-first k xs

-- what was left begins with the next
pub next-left : {X : Type 0} (k : ℕ) (xs ys : List X) (x : X) → ys ≡ drop k xs → 0 < length ys → x ≡ slice_index_or ys 0 x → slice_get xs k ≡ Some x
next-left k xs ys x left some is = sym (ap (λ l. slice_get l 0) left ∙ drop-first k xs) ∙ read-at ys 0 x some is

-- the first ones with the next
pub first-with-next : {X : Type 0} (k : ℕ) (xs ys : List X) (x : X) → ys ≡ drop k xs → 0 < length ys → x ≡ slice_index_or ys 0 x → take k xs ++ x ∷ [] ≡ take (k + 1) xs
first-with-next k xs ys x left some is =
    let there = next-left k xs ys x left some is in
    sym (take_more xs k x (slice_get_within xs k x there) ∙ ap (λ z. take k xs ++ z ∷ []) (get_or_from_slice_get xs k x x there))

-- what stands after a first part
pub get-past : {X : Type 0} (xs ys : List X) (k : ℕ) → slice_get (xs ++ ys) (length xs + k) ≡ slice_get ys k
get-past [] ys k = let same : 0 + k ≡ k = omega arith in ap (slice_get ys) same
get-past (x ∷ xs) ys k = let more : suc (length xs) + k ≡ suc (length xs + k) = omega arith in ap (slice_get (x ∷ (xs ++ ys))) more ∙ get-past xs ys k

-- what a test leaves of one element
pub one-passes : {X : Type 0} (test : X → Bool) (x : X) → test x ≡ true → filter test (x ∷ []) ≡ x ∷ []
one-passes test x is = ap (λ b. cond b (x ∷ []) []) is

pub one-fails : {X : Type 0} (test : X → Bool) (x : X) → test x ≡ false → filter test (x ∷ []) ≡ []
one-fails test x is = ap (λ b. cond b (x ∷ []) []) is
