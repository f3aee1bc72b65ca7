-- A ring's held packets are told by its slots and the consumer's head.
use Rattle.std.proofs.Common.{◌≡◌, ℕ, zero, suc, ◌+◌, ◌<◌, ◌≤◌, List, [], ◌∷◌, drop, refl, sym, ap, ap₂, ◌∙◌, arith, inr}
use mathlib.Core.Logic.{dite}
use native.Mathlib.Decide.{dec_lt}
use Rattle.lq_model.specs.Band.{Band, held_of}
use Rattle.lq_ring_core.specs.Slots.{slot_at}
use Rattle.lq_band_laws.specs.Ring.{Ends, Lock, word_at, IsRing}
use Rattle.lq_band_laws.proofs.Kept.{content-held}
use Rattle.lq_band_laws.proofs.Lines.{word_at-past}

pub same_words : (xs ys : List ℕ) → ((i : ℕ) → word_at xs i ≡ word_at ys i) → xs ≡ ys
same_words [] [] h = refl
same_words [] (y ∷ ys) h = absurd (let e : 0 ≡ y + 1 = h 0 in omega arith)
same_words (x ∷ xs) [] h = absurd (let e : x + 1 ≡ 0 = h 0 in omega arith)
same_words (x ∷ xs) (y ∷ ys) h = ap₂ (λ (z : ℕ) (zs : List ℕ). z ∷ zs) (let e : x + 1 ≡ y + 1 = h 0 in omega arith) (same_words xs ys (λ i. h (suc i)))

word_at-drop : (line : List ℕ) (t i : ℕ) → word_at (drop t line) i ≡ word_at line (t + i)
word_at-drop line zero i = ap (word_at line) (let e : i ≡ 0 + i = omega arith in e)
word_at-drop [] (suc t) i = refl
word_at-drop (x ∷ xs) (suc t) i = let e : suc (t + i) ≡ suc t + i = omega arith in word_at-drop xs t i ∙ ap (word_at (x ∷ xs)) e

module _ (size : ℕ) (slots : List ℕ) (c : Ends) where
  -- the slot of each place from the head on has the packet, or nothing behind the last
  pub held_word : (word : ℕ) (seats : List Lock) (band : Band) → IsRing size slots word seats band c → (i : ℕ) → c.head + i < c.tail + size → word_at (held_of band) i ≡ slot_at slots size (c.head + i)
  held_word word seats band r i below = let first = r.ends.tail_first in
      word_at-drop band.line band.taken i
      ∙ (ap (word_at band.line) (let t = r.taken_is in let e : band.taken + i ≡ r.lap + (c.head + i) = omega arith in e)
      ∙ (sym (content-held band.line r.lap c (c.head + i) (inr (omega arith))) ∙ sym (r.slots_are.window (c.head + i) (omega arith) below)))

  pub held_past : (word : ℕ) (seats : List Lock) (band : Band) → IsRing size slots word seats band c → (i : ℕ) → c.tail + size ≤ c.head + i → word_at (held_of band) i ≡ 0
  held_past word seats band r i past = word_at-drop band.line band.taken i
      ∙ word_at-past band.line (band.taken + i) (let l = r.line_is in let t = r.taken_is in let f = r.fits in omega arith)

  pub same_held : (word word' : ℕ) (seats seats' : List Lock) (band band' : Band) → IsRing size slots word seats band c → IsRing size slots word' seats' band' c → held_of band ≡ held_of band'
  same_held word word' seats seats' band band' r r' = same_words (held_of band) (held_of band') (λ i. dite (dec_lt (c.head + i) (c.tail + size))
      (λ below. held_word word seats band r i below ∙ sym (held_word word' seats' band' r' i below))
      (λ past. held_past word seats band r i (omega arith) ∙ sym (held_past word' seats' band' r' i (omega arith))))
