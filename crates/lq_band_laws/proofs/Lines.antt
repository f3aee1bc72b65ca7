-- The words of a line's packets.
use Rattle.std.proofs.Common.{◌≡◌, ◌≢◌, ℕ, zero, suc, ◌+◌, ◌-◌, ◌<◌, ◌≤◌, List, [], ◌∷◌, ◌++◌, length, drop, get_or, refl, sym, ap, ◌∙◌, arith, Some, Contains, length-drop}
use Rattle.std.proofs.lemmas.List.{get_or-drop}
use Rattle.std.specs.List.{slice_get}
use Rattle.lq_band_laws.specs.Ring.{word_at}

pub word_at-past : (line : List ℕ) (i : ℕ) → length line ≤ i → word_at line i ≡ 0
word_at-past [] i h = refl
word_at-past (n ∷ ns) zero h = absurd (omega arith)
word_at-past (n ∷ ns) (suc i) h = word_at-past ns i (omega arith)

pub word_at-within : (line : List ℕ) (i : ℕ) → i < length line → 0 < word_at line i
word_at-within [] i h = absurd (omega arith)
word_at-within (n ∷ ns) zero h = omega arith
word_at-within (n ∷ ns) (suc i) h = word_at-within ns i (omega arith)

-- a word that isn't 0 is the packet's, plus 1
pub word_at-get : (line : List ℕ) (i : ℕ) → 0 < word_at line i → slice_get line i ≡ Some (word_at line i - 1)
word_at-get [] i h = absurd (omega arith)
word_at-get (n ∷ ns) zero h = let e : n ≡ n + 1 - 1 = omega arith in ap Some e
word_at-get (n ∷ ns) (suc i) h = word_at-get ns i h

pub word_at-snoc : (line : List ℕ) (n i : ℕ) → i ≢ length line → word_at (line ++ n ∷ []) i ≡ word_at line i
word_at-snoc [] n zero h = absurd (h refl)
word_at-snoc [] n (suc i) h = refl
word_at-snoc (m ∷ ms) n zero h = refl
word_at-snoc (m ∷ ms) n (suc i) h = word_at-snoc ms n i (λ e. h (omega arith))

pub word_at-last : (line : List ℕ) (n : ℕ) → word_at (line ++ n ∷ []) (length line) ≡ n + 1
word_at-last [] n = refl
word_at-last (m ∷ ms) n = word_at-last ms n

pub drop-get : {A : Type 0} (n i : ℕ) (xs : List A) → slice_get (drop n xs) i ≡ slice_get xs (n + i)
drop-get zero i xs = ap (slice_get xs) (let e : i ≡ 0 + i = omega arith in e)
drop-get (suc n) i [] = refl
drop-get (suc n) i (x ∷ xs) = let e : suc n + i ≡ suc (n + i) = omega arith in drop-get n i xs ∙ ap (slice_get (x ∷ xs)) (sym e)

pub word_at-get_or : (line : List ℕ) (i d : ℕ) → i < length line → word_at line i ≡ get_or line i d + 1
word_at-get_or [] i d h = absurd (omega arith)
word_at-get_or (n ∷ ns) zero d h = refl
word_at-get_or (n ∷ ns) (suc i) d h = word_at-get_or ns i d (omega arith)

-- a packet among those from a place on stands at one of these places
pub word_at-held : (line : List ℕ) (t n : ℕ) → Contains (drop t line) n → (k : ℕ) × (word_at line (t + k) ≡ n + 1)
word_at-held line t n (k, inside, is) =
    let e = length-drop t line in
    (k, word_at-get_or line (t + k) n (omega arith) ∙ ap (λ (x : ℕ). x + 1) (sym (get_or-drop t line k n) ∙ is))
