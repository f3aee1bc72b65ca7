-- A resize of one band: how it begins, its exchanges, and how it ends.
use Rattle.std.proofs.Common.{◌≡◌, ◌≢◌, ◌⊎◌, inl, inr, ℕ, zero, suc, ◌+◌, ◌*◌, ◌-◌, ◌<◌, ◌≤◌, Bool, true, false, eqb, List, [], ◌∷◌, ◌++◌, length, set, drop, get_or, refl, sym, ap, ◌∙◌, subst, ⊎_elim, arith, None, Contains, length-drop, get_or-set_same, get_or-set_other, eq-eqb, ne_eqb}
use Rattle.std.specs.Prelude.{slice_index, if◌then◌else◌}
use Rattle.std.proofs.lemmas.Bool.{cases_eq, cases_lt, cases_Bool, false_from_ne_true}
use Rattle.std.proofs.lemmas.List.Elements.{Contains-append_cases, Contains-append_left, Contains-append_right}
use Rattle.lq_account_laws.proofs.Lists.{take-in, drop-in, there-in}
use mathlib.Core.Option.{some, some-injective}
use lib.ListN.{get_elem?}
use Rattle.lq_model.specs.Band.{Band, held_of, resized}
use Rattle.lq_ring_core.specs.Slots.{round, slot_at}
use Rattle.lq_ring_core.proofs.Places.{round-below, round-above, round-within, batch-positive}
use Rattle.lq_band_laws.specs.Seats.{total, Each}
use Rattle.lq_band_laws.specs.Ring.{Ends, at_start, AreEnds, word_at, content, IsAtRest, IsWindow, Lock, locked_at, sized_at, sized_if, locking, stored_count, index_behind, IsRing}
use Rattle.lq_band_laws.specs.Times.{times}
use Rattle.lq_band_laws.specs.HalfResized.{IsInSlot, IsInHand, IsHalfResized, IsDistinct, IsRefilled, IsBeforeResize}
use Rattle.lq_band_laws.proofs.Seats.{total_one, total_same, each_same, each_step}
use Rattle.lq_band_laws.proofs.Lines.{word_at-past, word_at-held}
use Rattle.lq_band_laws.proofs.Kept.{content-held, resting_if, lock_alone}

abbrev one_where : Bool → ℕ
one_where b = if b then 1 else 0

times_here : (n : ℕ) (ms : List ℕ) → times n (n ∷ ms) ≡ times n ms + 1
times_here n ms = let e : one_where (eqb n n) ≡ 1 = ap one_where (eq-eqb n n refl) in omega arith

times_other : (n m : ℕ) (ms : List ℕ) → n ≢ m → times n (m ∷ ms) ≡ times n ms
times_other n m ms h = let e : one_where (eqb n m) ≡ 0 = ap one_where (ne_eqb n m h) in omega arith

-- THE BEGINNING

-- the place of the line that a slot belongs to, counted as the window counts
unrounded : (size tail i : ℕ) → tail < size → i < size → (j : ℕ) × (tail ≤ j) × (j < tail + size) × (round size j ≡ i)
unrounded size tail i h h' = ⊎_elim
    (λ (low : i < tail). (i + size, (omega arith), (omega arith), (let e : i + size - size ≡ i = omega arith in round-above size (i + size) (omega arith) ∙ e)))
    (λ (high : tail ≤ i). (i, high, (omega arith), round-below size i h'))
    (cases_lt i tail)

-- a held packet stands in one slot
in_one_slot : (size : ℕ) (slots line : List ℕ) (lap : ℕ) (c : Ends) (ahead : ℕ) → AreEnds size c → c.edge ≡ c.head → length line ≡ lap + ahead → ahead ≤ c.tail + size → IsWindow size slots line lap c → IsDistinct line
    → (p n : ℕ) → word_at line (lap + p) ≡ n + 1 → c.head ≤ p → IsInSlot slots [] n
in_one_slot size slots line lap c ahead ends rests line_is fits x apart p n is from =
    let tail_in = ends.tail_within in let first = ends.tail_first in
    let inside : lap + p < length line = ⊎_elim (λ h. h) (λ h. let z = word_at-past line (lap + p) h in absurd (omega arith)) (cases_lt (lap + p) (length line)) in
    let there = x.window p (omega arith) (omega arith) ∙ (content-held line lap c p (inr from) ∙ is) in record {
      place = round size p;
      there = there;
      alone = λ i e. let small : i < size = ⊎_elim (λ h. h) (λ h. let z = x.beyond i h in absurd (omega arith)) (cases_lt i size) in
          let u = unrounded size c.tail i tail_in small in let j = u.0 in
          let at_j : content line lap c j ≡ n + 1 = sym (x.window j u.1 u.2) ∙ (ap (slice_index slots) u.3 ∙ e) in
          let word : word_at line (lap + j) ≡ n + 1 = sym (content-held line lap c j (⊎_elim (λ (h : j < c.edge). inl h) (λ h. inr (omega arith)) (cases_lt j c.edge))) ∙ at_j in
          let same : lap + j ≡ lap + p = apart (lap + j) (lap + p) n word is in
          sym u.3 ∙ ap (round size) (let same_place : j ≡ p = omega arith in same_place);
      not_in_hand = refl;
    }

-- THE EXCHANGES

-- a slot that isn't 0 is emptied, and its packet comes into the hand
pub takes_out : (slots hand : List ℕ) (i m n : ℕ) → slice_index slots i ≡ m + 1 → i < length slots → IsInSlot slots hand n ⊎ IsInHand slots hand n → (m ≡ n → IsInSlot slots hand n)
    → IsInSlot (set slots i 0) (m ∷ hand) n ⊎ IsInHand (set slots i 0) (m ∷ hand) n
takes_out slots hand i m n found inside once mine = ⊎_elim
    (λ (same : m ≡ n). let x = mine same in let here : i ≡ x.place = x.alone i (found ∙ ap (λ z. z + 1) same) in inr record {
      in_hand = ap (λ z. times n (z ∷ hand)) same ∙ (times_here n hand ∙ ap (λ z. z + 1) x.not_in_hand);
      in_no_slot = λ j e. ⊎_elim
          (λ (at_i : j ≡ i). let z : get_or (set slots i 0) j 0 ≡ 0 = ap (λ z. get_or (set slots i 0) z 0) at_i ∙ get_or-set_same slots i 0 0 inside in absurd (omega arith))
          (λ (other : j ≢ i). other (x.alone j (sym (get_or-set_other slots i j 0 0 other) ∙ e) ∙ sym here))
          (cases_eq j i);
    })
    (λ (other : m ≢ n). let not_here : (j : ℕ) → get_or (set slots i 0) j 0 ≡ n + 1 → get_or slots j 0 ≡ n + 1 = λ j e. ⊎_elim
    (λ (at_i : j ≡ i). let z : get_or (set slots i 0) j 0 ≡ 0 = ap (λ z. get_or (set slots i 0) z 0) at_i ∙ get_or-set_same slots i 0 0 inside in absurd (omega arith))
    (λ (away : j ≢ i). sym (get_or-set_other slots i j 0 0 away) ∙ e) (cases_eq j i) in
    let hand_same : times n (m ∷ hand) ≡ times n hand = times_other n m hand (λ e. other (sym e)) in ⊎_elim
    (λ x. inl record {
      place = x.place;
      there = get_or-set_other slots i x.place 0 0 (λ e. other (let z : n + 1 ≡ m + 1 = sym x.there ∙ (ap (slice_index slots) e ∙ found) in omega arith)) ∙ x.there;
      alone = λ j e. x.alone j (not_here j e);
      not_in_hand = hand_same ∙ x.not_in_hand;
    })
    (λ x. inr record { in_hand = hand_same ∙ x.in_hand; in_no_slot = λ j e. x.in_no_slot j (not_here j e) })
    once)
    (cases_eq m n)

-- a packet in hand is put into an empty slot
pub puts_in : (slots hand : List ℕ) (i m n : ℕ) → slice_index slots i ≡ 0 → i < length slots → (m ≡ n → IsInHand slots (m ∷ hand) n) → IsInSlot slots (m ∷ hand) n ⊎ IsInHand slots (m ∷ hand) n
    → IsInSlot (set slots i (m + 1)) hand n ⊎ IsInHand (set slots i (m + 1)) hand n
puts_in slots hand i m n empty_ inside mine once = ⊎_elim
    (λ (same : m ≡ n). let x = mine same in let here : get_or (set slots i (m + 1)) i 0 ≡ n + 1 = get_or-set_same slots i (m + 1) 0 inside ∙ ap (λ z. z + 1) same in inl record {
      place = i;
      there = here;
      alone = λ j e. ⊎_elim (λ (at_i : j ≡ i). at_i) (λ (away : j ≢ i). absurd (x.in_no_slot j (sym (get_or-set_other slots i j (m + 1) 0 away) ∙ e))) (cases_eq j i);
      not_in_hand = let t = ap (λ z. times n (z ∷ hand)) (sym same) ∙ x.in_hand in let u = times_here n hand in omega arith;
    })
    (λ (other : m ≢ n). let old : (j : ℕ) → get_or (set slots i (m + 1)) j 0 ≡ n + 1 → get_or slots j 0 ≡ n + 1 = λ j e. ⊎_elim
    (λ (at_i : j ≡ i). let z : get_or (set slots i (m + 1)) j 0 ≡ m + 1 = ap (λ z. get_or (set slots i (m + 1)) z 0) at_i ∙ get_or-set_same slots i (m + 1) 0 inside in absurd (other (omega arith)))
    (λ (away : j ≢ i). sym (get_or-set_other slots i j (m + 1) 0 away) ∙ e) (cases_eq j i) in
    let hand_same : times n (m ∷ hand) ≡ times n hand = times_other n m hand (λ e. other (sym e)) in ⊎_elim
    (λ x. inl record {
      place = x.place;
      there = get_or-set_other slots i x.place (m + 1) 0 (λ e. let z : n + 1 ≡ 0 = sym x.there ∙ (ap (slice_index slots) e ∙ empty_) in absurd (omega arith)) ∙ x.there;
      alone = λ j e. x.alone j (old j e);
      not_in_hand = sym hand_same ∙ x.not_in_hand;
    })
    (λ x. inr record { in_hand = sym hand_same ∙ x.in_hand; in_no_slot = λ j e. x.in_no_slot j (old j e) })
    once)
    (cases_eq m n)

-- THE END

-- the size is stored, once the slots have the kept packets in order
pub restarts : (len : ℕ) (slots : List ℕ) (word : ℕ) (seats : List Lock) (band : Band) (waiting known hand : List ℕ) → (r : IsHalfResized slots word seats band waiting known hand) → 0 < len → IsRefilled slots band.line len
    → r.index ≡ round len (length band.line) → Each (λ l. l.holds ≡ true → (l.size ≡ None) × (l.room ≡ false)) seats
    → IsRing len slots word seats band at_start
restarts len slots word seats band waiting known hand r some_len filled index fresh = record {
  lap = 0;
  ahead = length band.line;
  index = r.index;
  laps = 0;
  batches = 0;
  lap_is = omega arith;
  tail_is = omega arith;
  ends = record {
    positive = some_len;
    tail_within = some_len;
    head_within = omega arith;
    tail_first = omega arith;
    few = omega arith;
    edge_within = omega arith;
    resting = λ _. refl;
    emptying = λ x. let rest = resting_if len at_start (let b = batch-positive len in omega arith) some_len in absurd (cc);
  };
  line_is = omega arith;
  taken_is = r.none_taken;
  taken_within = omega arith;
  fits = let f = filled.fits in omega arith;
  slots_are = record {
    wide = filled.wide;
    window = λ j h h'. ap (slice_index slots) (round-below len j (omega arith)) ∙ (filled.filled j (omega arith) ∙ sym (content-held band.line 0 at_start j (inr (omega arith)) ∙ ap (word_at band.line) (let e : 0 + j ≡ j = omega arith in e)));
    beyond = filled.beyond;
  };
  word_is = let w = r.word_is in let o = r.one in omega arith;
  one = let o = r.one in omega arith;
  index_within = subst (λ (x : ℕ). x < len) (sym index) (round-within len (length band.line) (let f = filled.fits in omega arith));
  index_is = subst (λ (z : ℕ). index_behind len z r.index ≡ round len (length band.line)) (sym (none_of seats r.none_stored)) index;
  knows = λ j l e. record { index_is = r.knows j l e; size_is = λ n h h'. absurd (let z = (fresh j l e h).0 in cc); has_room = λ h h'. absurd (let z = (fresh j l e h).1 in cc); stores = λ h. absurd (let z = r.none_stored j l e in cc) };
}
  where
    none_of : (ls : List Lock) → Each (λ l. l.stored ≡ false) ls → total stored_count ls ≡ 0
    none_of [] h = refl
    none_of (l ∷ ls) h = let a : stored_count l ≡ 0 = ap one_where (h 0 l refl) in let b : total stored_count ls ≡ 0 = none_of ls (λ j u e. h (suc j) u e) in omega arith

-- THE STEPS

module _ (size : ℕ) (slots : List ℕ) (word : ℕ) (seats : List Lock) (band : Band) (c : Ends) (r : IsRing size slots word seats band c) where
  -- control has the band's producer lock and the run lock, and no take is under way
  pub begins : (id : ℕ) (l : Lock) (len : ℕ) → get_elem? seats id ≡ some l → l.holds ≡ true → l.stored ≡ false → c.edge ≡ c.head → IsDistinct band.line
      → IsHalfResized slots word seats (resized band len) (drop len (held_of band)) slots []
  begins id l len at_l has new rests apart =
      let few = r.one in let mine : locking l ≡ 1 = ap one_where has in let some_one = total_one locking seats id l at_l in let is = r.word_is in record {
        index = r.index;
        known_is = refl;
        none_taken = refl;
        word_is = omega arith;
        one = omega arith;
        knows = λ j u e h. (r.knows j u e).index_is h;
        none_stored = λ j u e. ⊎_elim
            (λ (same : j ≡ id). subst (λ (x : Lock). x.stored ≡ false) (some-injective l u (sym at_l ∙ (ap (get_elem? seats) (sym same) ∙ e))) new)
            (λ (other : j ≢ id). false_from_ne_true u.stored (λ h. lock_alone seats id j l u at_l e other few has ((r.knows j u e).stores h)))
            (cases_eq j id);
        once = λ n h. inl (let in_held : Contains (held_of band) n = ⊎_elim (take-in len (held_of band) n) (drop-in len (held_of band) n) (Contains-append_cases _ _ n h) in
            let w = word_at-held band.line band.taken n in_held in let taken = r.taken_is in
            in_one_slot size slots band.line r.lap c r.ahead r.ends rests r.line_is r.fits r.slots_are apart (c.head + w.0) n
            (ap (word_at band.line) (let e : r.lap + (c.head + w.0) ≡ band.taken + w.0 = omega arith in e) ∙ w.1) (omega arith));
      }

module _ (slots : List ℕ) (word : ℕ) (seats : List Lock) (band : Band) (waiting known hand : List ℕ) (r : IsHalfResized slots word seats band waiting known hand) where
  turned : (slots' known' hand' : List ℕ) → slots' ≡ known' → ((n : ℕ) → Contains (band.line ++ waiting) n → IsInSlot slots' hand' n ⊎ IsInHand slots' hand' n) → IsHalfResized slots' word seats band waiting known' hand'
  turned slots' known' hand' is once = record { index = r.index; known_is = is; none_taken = r.none_taken; word_is = r.word_is; one = r.one; knows = r.knows; none_stored = r.none_stored; once = once }

  -- a slot with a packet of the band is emptied
  pub clears : (i m : ℕ) → i < length slots → slice_index slots i ≡ m + 1 → Contains (band.line ++ waiting) m → IsHalfResized (set slots i 0) word seats band waiting (set known i 0) (m ∷ hand)
  clears i m inside found member = turned (set slots i 0) (set known i 0) (m ∷ hand) (ap (λ (xs : List ℕ). set xs i 0) r.known_is)
      (λ n h. takes_out slots hand i m n found inside (r.once n h) (λ same. ⊎_elim (λ x. x) (λ x. absurd (x.in_no_slot i (found ∙ ap (λ z. z + 1) same))) (r.once n h)))

  -- another slot is emptied
  pub clears_other : (i : ℕ) → i < length slots → ((n : ℕ) → Contains (band.line ++ waiting) n → slice_index slots i ≢ n + 1) → IsHalfResized (set slots i 0) word seats band waiting (set known i 0) hand
  clears_other i inside other = turned (set slots i 0) (set known i 0) hand (ap (λ (xs : List ℕ). set xs i 0) r.known_is) (λ n h.
      let old : (j : ℕ) → get_or (set slots i 0) j 0 ≡ n + 1 → get_or slots j 0 ≡ n + 1 = λ j e. ⊎_elim
      (λ (at_i : j ≡ i). let z : get_or (set slots i 0) j 0 ≡ 0 = ap (λ z. get_or (set slots i 0) z 0) at_i ∙ get_or-set_same slots i 0 0 inside in absurd (omega arith))
      (λ (away : j ≢ i). sym (get_or-set_other slots i j 0 0 away) ∙ e) (cases_eq j i) in ⊎_elim
      (λ x. inl record { place = x.place; there = get_or-set_other slots i x.place 0 0 (λ e. other n h (ap (slice_index slots) (sym e) ∙ x.there)) ∙ x.there; alone = λ j e. x.alone j (old j e); not_in_hand = x.not_in_hand })
      (λ x. inr record { in_hand = x.in_hand; in_no_slot = λ j e. x.in_no_slot j (old j e) })
      (r.once n h))

module _ (slots : List ℕ) (word : ℕ) (seats : List Lock) (band : Band) (waiting known hand : List ℕ) (m : ℕ) (r : IsHalfResized slots word seats band waiting known (m ∷ hand)) where
  -- a packet in hand is put into an empty slot
  pub fills : (i : ℕ) → i < length slots → slice_index slots i ≡ 0 → IsHalfResized (set slots i (m + 1)) word seats band waiting (set known i (m + 1)) hand
  fills i inside empty_ = record {
    index = r.index;
    known_is = ap (λ (xs : List ℕ). set xs i (m + 1)) r.known_is;
    none_taken = r.none_taken;
    word_is = r.word_is;
    one = r.one;
    knows = r.knows;
    none_stored = r.none_stored;
    once = λ n h. puts_in slots hand i m n empty_ inside
        (λ same. ⊎_elim (λ x. absurd (let t = times_here n hand in let z = ap (λ z. times n (z ∷ hand)) (sym same) ∙ x.not_in_hand in omega arith)) (λ x. x) (r.once n h)) (r.once n h);
  }

-- a seat that has the lock learns the size
pub half_resized_sized : (size : ℕ) (slots : List ℕ) (word : ℕ) (seats : List Lock) (band : Band) (waiting known hand : List ℕ) (id : ℕ) (l : Lock) → IsHalfResized slots word seats band waiting known hand → get_elem? seats id ≡ some l
    → IsHalfResized slots word (set seats id (sized_if size l)) band waiting known hand
half_resized_sized size slots word seats band waiting known hand id l r at_l = record {
  index = r.index;
  known_is = r.known_is;
  none_taken = r.none_taken;
  word_is = r.word_is;
  one = total_same locking seats id l (sized_if size l) at_l (same (λ (x : Lock). locking x) refl refl) ∙ r.one;
  knows = each_same (λ x. x.holds ≡ true → x.index ≡ r.index) seats id (sized_if size l) r.knows
      (λ h. same (λ (x : Lock). x.index) refl refl ∙ r.knows id l at_l (sym (same (λ (x : Lock). x.holds) refl refl) ∙ h));
  none_stored = each_same (λ x. x.stored ≡ false) seats id (sized_if size l) r.none_stored (same (λ (x : Lock). x.stored) refl refl ∙ r.none_stored id l at_l);
  once = r.once;
}
  where
    same : {A : Type 0} (f : Lock → A) → f (sized_at size l) ≡ f l → f l ≡ f l → f (sized_if size l) ≡ f l
    same f e e' = ⊎_elim
        (λ (has : l.holds ≡ true). ap (λ (b : Bool). f (if b then sized_at size l else l)) has ∙ e)
        (λ (free : l.holds ≡ false). ap (λ (b : Bool). f (if b then sized_at size l else l)) free)
        (cases_Bool l.holds)

-- where no take is under way, the held packets stand from the head on
pub held_from_head : (size : ℕ) (slots : List ℕ) (word : ℕ) (seats : List Lock) (band : Band) (c : Ends) → (r : IsRing size slots word seats band c) → c.edge ≡ c.head → (j : ℕ) → c.head + j < c.tail + size
    → slot_at slots size (c.head + j) ≡ word_at (held_of band) j
held_from_head size slots word seats band c r rests j inside =
    let l = length-drop band.taken band.line in let line = r.line_is in let taken = r.taken_is in let fits = r.fits in let first = r.ends.tail_first in
    r.slots_are.window (c.head + j) (omega arith) (omega arith) ∙ (content-held band.line r.lap c (c.head + j) (inr (omega arith))
    ∙ (ap (word_at band.line) (let e : r.lap + (c.head + j) ≡ band.taken + j = omega arith in e) ∙ sym (word_at-drop band.taken j band.line)))
  where
    word_at-drop : (t j : ℕ) (line : List ℕ) → word_at (drop t line) j ≡ word_at line (t + j)
    word_at-drop zero j line = ap (word_at line) (let e : j ≡ 0 + j = omega arith in e)
    word_at-drop (suc t) j [] = refl
    word_at-drop (suc t) j (n ∷ ns) = word_at-drop t j ns ∙ ap (word_at (n ∷ ns)) (let e : suc (t + j) ≡ suc t + j = omega arith in e)

-- what control finds at the beginning
pub unturned : (size limit : ℕ) (slots : List ℕ) (word : ℕ) (seats : List Lock) (band : Band) (c : Ends) → IsRing size slots word seats band c → IsAtRest size c → length slots ≡ limit → IsDistinct band.line → IsBeforeResize size limit slots (held_of band) c
unturned size limit slots word seats band c r rests long apart =
    let l = length-drop band.taken band.line in let line = r.line_is in let taken = r.taken_is in let fits = r.fits in let wide = r.slots_are.wide in record {
      rests = rests;
      long = long;
      inside = omega arith;
      fits = omega arith;
      window = held_from_head size slots word seats band c r rests.2;
      stale = λ j n low high h e. let w = word_at-held band.line band.taken n h in let head = rests.1 in let edge = rests.2 in
          let there : word_at band.line (r.lap + j) ≡ n + 1 = sym (r.slots_are.window j low (omega arith) ∙ content-held band.line r.lap c j (inl (omega arith))) ∙ (ap (slice_index slots) (round-below size j (omega arith)) ∙ e) in
          let same : r.lap + j ≡ band.taken + w.0 = apart (r.lap + j) (band.taken + w.0) n there w.1 in absurd (omega arith);
      beyond = r.slots_are.beyond;
    }

-- the word of the first dropped packet was stored, which was in hand
pub shrinks : (slots : List ℕ) (word : ℕ) (seats : List Lock) (band : Band) (waiting known hand : List ℕ) (m : ℕ) → IsHalfResized slots word seats band (m ∷ waiting) known (m ∷ hand) → (Contains (band.line ++ waiting) m → ⊥)
    → IsHalfResized slots word seats band waiting known hand
shrinks slots word seats band waiting known hand m r out = record {
  index = r.index;
  known_is = r.known_is;
  none_taken = r.none_taken;
  word_is = r.word_is;
  one = r.one;
  knows = r.knows;
  none_stored = r.none_stored;
  once = λ n h. let apart : n ≢ m = λ e. out (subst (λ (x : ℕ). Contains (band.line ++ waiting) x) e h) in ⊎_elim
      (λ x. inl record { place = x.place; there = x.there; alone = x.alone; not_in_hand = sym (times_other n m hand apart) ∙ x.not_in_hand })
      (λ x. inr record { in_hand = sym (times_other n m hand apart) ∙ x.in_hand; in_no_slot = x.in_no_slot })
      (r.once n (more n h));
}
  where
    more : (n : ℕ) → Contains (band.line ++ waiting) n → Contains (band.line ++ m ∷ waiting) n
    more n h = ⊎_elim
        (λ (x : Contains band.line n). Contains-append_left band.line (m ∷ waiting) n x)
        (λ (x : Contains waiting n). Contains-append_right band.line (m ∷ waiting) n (there-in m waiting n x))
        (Contains-append_cases band.line waiting n h)

-- the producer word is set, by the seat that has the lock
pub reindexes : (slots : List ℕ) (word : ℕ) (seats : List Lock) (band : Band) (waiting known hand : List ℕ) (id i : ℕ) (l : Lock) → (r : IsHalfResized slots word seats band waiting known hand) → get_elem? seats id ≡ some l → l.holds ≡ true
    → IsHalfResized slots (2 * i + 1) (set seats id (locked_at i)) band waiting known hand
reindexes slots word seats band waiting known hand id i l r at_l has =
    let few = r.one in record {
      index = i;
      known_is = r.known_is;
      none_taken = r.none_taken;
      word_is = refl;
      one = total_same locking seats id l (locked_at i) at_l (sym (ap one_where has)) ∙ r.one;
      knows = each_step (λ (x : Lock). x.holds ≡ true → x.index ≡ r.index) (λ (x : Lock). x.holds ≡ true → x.index ≡ i) seats id (locked_at i) r.knows (λ _. refl)
          (λ j u apart e _ also. absurd (lock_alone seats id j l u at_l e apart (omega arith) has also));
      none_stored = each_same (λ x. x.stored ≡ false) seats id (locked_at i) r.none_stored refl;
      once = r.once;
    }

-- what the locks are where the seat that has one has just got it
pub just_got : (seats : List Lock) (id i : ℕ) (l : Lock) → get_elem? seats id ≡ some l → l ≡ locked_at i → total locking seats ≤ 1 → Each (λ x. x.holds ≡ true → (x.size ≡ None) × (x.room ≡ false)) seats
just_got seats id i l at_l is few j u e also = ⊎_elim
    (λ (same : j ≡ id). let u_is : u ≡ locked_at i = some-injective u l (sym e ∙ (ap (get_elem? seats) same ∙ at_l)) ∙ is in (ap (λ (x : Lock). x.size) u_is, ap (λ (x : Lock). x.room) u_is))
    (λ (other : j ≢ id). absurd (lock_alone seats id j l u at_l e other few (ap (λ (x : Lock). x.holds) is) also))
    (cases_eq j id)
