-- The greatest of the stop words.
use Rattle.std.proofs.Common.{◌≡◌, ℕ, zero, suc, ◌+◌, ◌<◌, ◌≤◌, List, [], ◌∷◌, length, length-drop, take, drop, get_or, refl, sym, ap, ◌∙◌, arith}
use Rattle.std.specs.Prelude.{fold, max, slice_index}
use Rattle.std.proofs.Math.Nat.{le-max_left, le-max_right, zero-max}
use Rattle.std.proofs.lemmas.List.{take_more, get_or-drop}
use Rattle.std.proofs.lemmas.List.Sums.{fold-append}
use mathlib.Core.Option.{some}
use lib.ListN.{get_elem?}
use Rattle.lq_table.specs.Places.{line_of}
use Rattle.lq_table.proofs.ReadBack.{got}

abbrev pub greatest_from : ℕ → List ℕ → ℕ
greatest_from a words = fold (λ most word. max most word) a words

not_less : (a : ℕ) (words : List ℕ) → a ≤ greatest_from a words
not_less a [] = omega arith
not_less a (x ∷ words) = let more : max a x ≤ greatest_from (max a x) words = not_less (max a x) words in let l = le-max_left a x in omega arith

-- where the greatest is 0 each is
pub all_zero_below : (a : ℕ) (words : List ℕ) → greatest_from a words ≡ 0 → (i : ℕ) → slice_index words i ≡ 0
all_zero_below a [] none_ i = refl
all_zero_below a (x ∷ words) none_ zero = let more : max a x ≤ greatest_from (max a x) words = not_less (max a x) words in let l = le-max_right a x in omega arith
all_zero_below a (x ∷ words) none_ (suc i) = all_zero_below (max a x) words none_ i

-- with one word more
pub greatest_more : (a : ℕ) (words : List ℕ) (i : ℕ) → i < length words → greatest_from a (take (i + 1) words) ≡ max (greatest_from a (take i words)) (get_or words i 0)
greatest_more a words i below = ap (greatest_from a) (take_more words i 0 below) ∙ fold-append (λ most word. max most word) a (take i words) (get_or words i 0 ∷ [])

-- THE STOP WORDS, READ ONE BY ONE

abbrev pub stops_of : ℕ → List ℕ → List ℕ
stops_of others words = slice_index words (line_of 3) ∷ drop others words

pub reads_first : (words : List ℕ) (others word : ℕ) → get_elem? words (line_of 3) ≡ some word → word ≡ greatest_from 0 (take (0 + 1) (stops_of others words))
reads_first words others word at = sym (got words (line_of 3) word 0 at) ∙ sym (zero-max (slice_index words (line_of 3)))

pub reads_next : (words : List ℕ) (others queue word : ℕ) → others + queue < length words → get_elem? words (others + queue) ≡ some word
    → max (greatest_from 0 (take (queue + 1) (stops_of others words))) word ≡ greatest_from 0 (take (queue + 1 + 1) (stops_of others words))
reads_next words others queue word inside at =
    let next : queue + 1 ≡ suc queue = omega arith in
    let read : get_or (stops_of others words) (queue + 1) 0 ≡ word = ap (λ (i : ℕ). get_or (stops_of others words) i 0) next ∙ (get_or-drop others words queue 0 ∙ got words (others + queue) word 0 at) in
    sym (greatest_more 0 (stops_of others words) (queue + 1) (let l = length-drop others words in omega arith) ∙ ap (max (greatest_from 0 (take (queue + 1) (stops_of others words)))) read)
