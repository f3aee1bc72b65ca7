-- What the exchanges make of a band's slots.
use Rattle.std.proofs.Common.{◌≡◌, ◌≢◌, ◌⊎◌, inl, inr, ℕ, zero, suc, ◌+◌, ◌-◌, ◌<◌, ◌≤◌, Bool, true, false, List, [], ◌∷◌, ◌++◌, length, take, drop, get_or, refl, sym, ap, ◌∙◌, subst, arith, ⊎_elim, Contains, length-drop, take-append-drop, eq-eqb}
use Rattle.std.specs.Prelude.{◌||◌}
use Rattle.std.proofs.lemmas.Bool.{cases_lt}
use Rattle.std.proofs.lemmas.List.{length-take, drop_all}
use Rattle.lq_account_laws.proofs.Lists.{there-in}
use Rattle.lq_ring_core.proofs.Places.{round-below, round-above}
use Rattle.lq_ring_core.specs.Slots.{round}
use Rattle.lq_band_laws.specs.Ring.{word_at}
use Rattle.lq_band_laws.specs.HalfResized.{IsBeforeResize, IsRefilled}
use Rattle.lq_band_laws.proofs.Lines.{word_at-past, word_at-within}
use Rattle.lq_table.specs.Resizes.{is_word}
use Rattle.lq_table.proofs.ResizeSlotsKept.{word_member}
use Rattle.lq_ring.specs.Work.{rotated, zeroed_to}
use Rattle.lq_ring.proofs.Works.{AreMembers, rotated_low, rotated_high, rotated_out, rotated_long, zeroed_at, zeroed_out, zeroed_long, contains_word}

pub not_word : (x : ℕ) (ns : List ℕ) → ((n : ℕ) → Contains ns n → x ≢ n + 1) → is_word x ns ≡ false
not_word x ns other = go (is_word x ns) refl
  where
    go : (c : Bool) → is_word x ns ≡ c → is_word x ns ≡ false
    go false e = e
    go true e = let m = word_member x ns e in absurd (other (x - 1) m.1 m.0)

held_word : (ls : List ℕ) (j : ℕ) → (word_at ls j ≡ 0) ⊎ (is_word (word_at ls j) ls ≡ true)
held_word [] j = inl refl
held_word (n ∷ ns) zero = inr (ap (λ (b : Bool). b || is_word (n + 1) ns) (eq-eqb (n + 1) (n + 1) refl))
held_word (n ∷ ns) (suc j) = ⊎_elim (λ z. inl z) (λ (y : is_word (word_at ns j) ns ≡ true). inr (more _ y)) (held_word ns j)
  where
    more : (x : ℕ) → is_word x ns ≡ true → is_word x (n ∷ ns) ≡ true
    more x y = let m = word_member x ns y in ap (λ (z : ℕ). is_word z (n ∷ ns)) m.0 ∙ (contains_word (x - 1) (n ∷ ns) (there-in n ns (x - 1) m.1) ∙ refl)

take_word : (len j : ℕ) (ls : List ℕ) → j < len → word_at (take len ls) j ≡ word_at ls j
take_word zero j ls h = absurd (omega arith)
take_word (suc len) j [] h = refl
take_word (suc len) zero (n ∷ ns) h = refl
take_word (suc len) (suc j) (n ∷ ns) h = take_word len j ns (omega arith)

zero_past : (ls : List ℕ) (j : ℕ) → word_at ls j ≡ 0 → length ls ≤ j
zero_past ls j e = ⊎_elim (λ (h : j < length ls). absurd (let w = word_at-within ls j h in omega arith)) (λ h. h) (cases_lt j (length ls))

some_within : (ls : List ℕ) (j : ℕ) → word_at ls j ≢ 0 → j < length ls
some_within ls j e = ⊎_elim (λ h. h) (λ (h : length ls ≤ j). absurd (e (word_at-past ls j h))) (cases_lt j (length ls))

-- where nothing follows so many, they are all
pub drop_none-take : (n : ℕ) (ls : List ℕ) → drop n ls ≡ [] → ls ≡ take n ls
drop_none-take zero ls e = e
drop_none-take (suc n) [] e = refl
drop_none-take (suc n) (x ∷ ls) e = ap (λ (xs : List ℕ). x ∷ xs) (drop_none-take n ls e)

module _ (size limit : ℕ) (s held : List ℕ) (tail head len : ℕ) (u : IsBeforeResize size limit s held (record { head = head; tail = tail; edge = head })) where
  abbrev pub cleared : List ℕ
  cleared = zeroed_to tail (head - tail) s

  abbrev pub turned_slots : List ℕ
  turned_slots = rotated head size cleared

  pub stale_other : (j : ℕ) → tail ≤ j → j < head → is_word (get_or s j 0) (take len held ++ drop len held) ≡ false
  stale_other j low high = not_word (get_or s j 0) (take len held ++ drop len held) (λ n h. u.stale j n low high (subst (λ (ls : List ℕ). Contains ls n) (take-append-drop len held) h))

  -- the slots between the head and the size, and those below the tail
  at_place : (j : ℕ) → head + j < tail + size → (x : ℕ) → round size (head + j) ≡ x → get_or s x 0 ≡ word_at held j
  at_place j h x e = ap (λ (z : ℕ). get_or s z 0) (sym e) ∙ u.window j h

  pub cleared_members : AreMembers (take len held ++ drop len held) cleared
  cleared_members x = let r = u.rests in let first = r.0 in let head_in = r.1 in ⊎_elim
      (λ (low : x < tail). at_j (x + size - head) (zeroed_out tail (head - tail) s x (inl low) ∙ at_place (x + size - head) (omega arith) x (round-above size (head + (x + size - head)) (omega arith) ∙ (let q : head + (x + size - head) - size ≡ x = omega arith in q))))
      (λ (from : tail ≤ x). ⊎_elim
      (λ (stale : x < head). inl (zeroed_at tail (head - tail) s x (let l = u.long in let i = u.inside in omega arith) from (omega arith)))
      (λ (later : head ≤ x). ⊎_elim
      (λ (inside : x < size). at_j (x - head) (zeroed_out tail (head - tail) s x (inr (omega arith)) ∙ at_place (x - head) (omega arith) x (let q : head + (x - head) ≡ x = omega arith in ap (round size) q ∙ round-below size x inside)))
      (λ (past : size ≤ x). inl (zeroed_out tail (head - tail) s x (inr (omega arith)) ∙ u.beyond x past))
      (cases_lt x size))
      (cases_lt x head))
      (cases_lt x tail)
    where
      at_j : (j : ℕ) → get_or cleared x 0 ≡ word_at held j → (get_or cleared x 0 ≡ 0) ⊎ (is_word (get_or cleared x 0) (take len held ++ drop len held) ≡ true)
      at_j j e = subst (λ (z : ℕ × List ℕ). (z.0 ≡ 0) ⊎ (is_word z.0 z.1 ≡ true)) (λ i. (sym e i, sym (take-append-drop len held) i)) (held_word held j)

  pub long3 : length turned_slots ≡ limit
  long3 = rotated_long head size cleared ∙ (zeroed_long tail (head - tail) s ∙ u.long)

  pub turned_in : (x : ℕ) → x < size → get_or turned_slots x 0 ≡ word_at held x
  turned_in x below = let r = u.rests in let first = r.0 in let head_in = r.1 in let i = u.inside in let l = u.long in let z = zeroed_long tail (head - tail) s in let f = u.fits in ⊎_elim
      (λ (low : x + head < size). rotated_low head size cleared (omega arith) (omega arith) x low ∙ (zeroed_out tail (head - tail) s (head + x) (inr (omega arith)) ∙ at_place x (omega arith) (head + x) (round-below size (head + x) (omega arith))))
      (λ (high : size ≤ x + head). rotated_high head size cleared (omega arith) (omega arith) x below high ∙ ⊎_elim
      (λ (first_ : x + head - size < tail). zeroed_out tail (head - tail) s (x + head - size) (inl first_) ∙ at_place x (omega arith) (x + head - size) (round-above size (head + x) (omega arith) ∙ (let q : head + x - size ≡ x + head - size = omega arith in q)))
      (λ (later : tail ≤ x + head - size). zeroed_at tail (head - tail) s (x + head - size) (omega arith) later (omega arith) ∙ sym (word_at-past held x (omega arith)))
      (cases_lt (x + head - size) tail))
      (cases_lt (x + head) size)

  pub turned_out : (x : ℕ) → size ≤ x → get_or turned_slots x 0 ≡ 0
  turned_out x past = let r = u.rests in let first = r.0 in let head_in = r.1 in let i = u.inside in let l = u.long in let z = zeroed_long tail (head - tail) s in
      rotated_out head size cleared (omega arith) (omega arith) x past ∙ (zeroed_out tail (head - tail) s x (inr (omega arith)) ∙ u.beyond x past)

  pub turned_members : AreMembers (take len held ++ drop len held) turned_slots
  turned_members x = ⊎_elim
      (λ (inside : x < size). subst (λ (z : ℕ × List ℕ). (z.0 ≡ 0) ⊎ (is_word z.0 z.1 ≡ true)) (λ i. (sym (turned_in x inside) i, sym (take-append-drop len held) i)) (held_word held x))
      (λ (past : size ≤ x). inl (turned_out x past))
      (cases_lt x size)

  few : length held ≤ size
  few = let r = u.rests in let first = r.0 in let f = u.fits in omega arith

  -- the end: m is the lesser of the two lengths
  module _ (m : ℕ) (lesser : ((m ≡ len) × (len < size)) ⊎ ((m ≡ size) × (size ≤ len))) where
    pub dropped_in : (n : ℕ) → n < size - m → get_or turned_slots (m + n) 0 ≡ word_at (drop len held) n
    dropped_in n h = ⊎_elim
        (λ (l : (m ≡ len) × (len < size)). let e = l.0 in turned_in (m + n) (omega arith) ∙ (ap (λ (z : ℕ). word_at held (z + n)) e ∙ drop_word len n held))
        (λ (l : (m ≡ size) × (size ≤ len)). absurd (let e = l.0 in omega arith))
        lesser
      where
        drop_word : (t j : ℕ) (line : List ℕ) → word_at line (t + j) ≡ word_at (drop t line) j
        drop_word zero j line = ap (word_at line) (let e : 0 + j ≡ j = omega arith in e)
        drop_word (suc t) j [] = refl
        drop_word (suc t) j (n ∷ ns) = ap (word_at (n ∷ ns)) (let e : suc t + j ≡ suc (t + j) = omega arith in e) ∙ drop_word t j ns

    pub none_left : drop (size - m) (drop len held) ≡ []
    none_left = drop_all (size - m) (drop len held) (let dl = length-drop len held in let f = few in ⊎_elim (λ (l : (m ≡ len) × (len < size)). let e = l.0 in omega arith) (λ (l : (m ≡ size) × (size ≤ len)). let e = l.0 in omega arith) lesser)

    pub refilled : len ≤ limit → IsRefilled (zeroed_to m (size - m) turned_slots) (take len held) len
    refilled fits = let l3 = long3 in let lz = zeroed_long m (size - m) turned_slots in let lt = length-take len held in let f = few in let i = u.inside in record {
      wide = omega arith;
      fits = omega arith;
      filled = λ j h. ⊎_elim
          (λ (low : j < m). zeroed_out m (size - m) turned_slots j (inl low) ∙ (turned_in j (⊎_elim (λ (l : (m ≡ len) × (len < size)). omega arith) (λ (l : (m ≡ size) × (size ≤ len)). let e = l.0 in omega arith) lesser) ∙ sym (take_word len j held h)))
          (λ (high : m ≤ j). ⊎_elim
          (λ (l : (m ≡ len) × (len < size)). absurd (let e = l.0 in omega arith))
          (λ (l : (m ≡ size) × (size ≤ len)). let e = l.0 in zeroed_out m (size - m) turned_slots j (inr (omega arith)) ∙ (turned_out j (omega arith) ∙ sym (word_at-past (take len held) j (omega arith))))
          lesser)
          (cases_lt j m);
      beyond = λ j h. ⊎_elim
          (λ (l : (m ≡ len) × (len < size)). let e = l.0 in ⊎_elim
          (λ (inside : j < size). zeroed_at m (size - m) turned_slots j (omega arith) (omega arith) (omega arith))
          (λ (past : size ≤ j). zeroed_out m (size - m) turned_slots j (inr (omega arith)) ∙ turned_out j past)
          (cases_lt j size))
          (λ (l : (m ≡ size) × (size ≤ len)). let e = l.0 in zeroed_out m (size - m) turned_slots j (inr (omega arith)) ∙ turned_out j (omega arith))
          lesser;
    }

    pub counted : (n : ℕ) → n ≤ m → ((j : ℕ) → j < n → get_or turned_slots j 0 ≢ 0) → (n < m → get_or turned_slots n 0 ≡ 0) → n ≡ length (take len held)
    counted n h filled ends =
        let lt = length-take len held in let f = few in
        let below : m ≤ size = ⊎_elim (λ (l : (m ≡ len) × (len < size)). let e = l.0 in omega arith) (λ (l : (m ≡ size) × (size ≤ len)). let e = l.0 in omega arith) lesser in
        let reach : n ≤ length held = go n refl below in ⊎_elim
        (λ (short : n < m). let past = zero_past held n (sym (turned_in n (omega arith)) ∙ ends short) in ⊎_elim (λ (l : (m ≡ len) × (len < size)). let e = l.0 in omega arith) (λ (l : (m ≡ size) × (size ≤ len)). let e = l.0 in omega arith) lesser)
        (λ (all : m ≤ n). ⊎_elim (λ (l : (m ≡ len) × (len < size)). let e = l.0 in omega arith) (λ (l : (m ≡ size) × (size ≤ len)). let e = l.0 in omega arith) lesser)
        (cases_lt n m)
      where
        go : (k : ℕ) → n ≡ k → m ≤ size → n ≤ length held
        go zero e b = omega arith
        go (suc k) e b = let w = some_within held k (λ z. filled k (omega arith) (turned_in k (omega arith) ∙ z)) in omega arith
