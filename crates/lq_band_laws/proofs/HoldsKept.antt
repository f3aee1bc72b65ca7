-- What each step on the words of a band makes of it, wherever its consumer stands.
use Rattle.std.proofs.Common.{◌≡◌, ◌≢◌, ◌⊎◌, inl, inr, ℕ, zero, suc, ◌+◌, ◌-◌, ◌*◌, ◌<◌, ◌≤◌, Bool, true, false, List, [], ◌∷◌, ◌++◌, length, set, drop, refl, sym, ap, ◌∙◌, subst, ⊎_elim, arith, Some, length-set, length-append, length-drop, get_or-set_same, get_or-set_other}
use Rattle.std.specs.Prelude.{slice_index, if◌then◌else◌}
use Rattle.std.specs.List.{slice_get}
use Rattle.std.proofs.lemmas.Bool.{cases_eq, cases_lt, cases_Bool}
use Rattle.std.proofs.lemmas.Bool.Decides.{nat_tests}
use Rattle.std.proofs.lemmas.Option.{same_Some}
use mathlib.Core.Option.{some}
use lib.ListN.{get_elem?}
use Rattle.atomic_table.proofs.Lists.{set_again}
use Rattle.lq_model.specs.Band.{Band, batch, held_of, joined, taken_by, MayBeFull}
use Rattle.lq_ring_core.specs.Slots.{round, slot_at}
use Rattle.lq_ring_core.proofs.Places.{round-below, round-above, round-within, round-last, next_place-round, batch-positive, place_before-within}
use Rattle.lq_band_laws.specs.Seats.{total}
use Rattle.lq_band_laws.specs.Ring.{Ends, at_start, taken_on, emptied_on, AreBounds, word_at, content, IsWindow, Lock, unlocked, locked_at, sized_at, sized_if, with_room, without_room, having_stored, cleared_at, given_back_one, locking, stored_count, index_behind, index_given, KnowsLock, HoldsBand}
use Rattle.lq_band_laws.proofs.Seats.{total_set, total_one, each_step, each_same}
use Rattle.lq_band_laws.proofs.Lines.{word_at-past, word_at-within, word_at-get, drop-get}
use Rattle.lq_ring_core.specs.Ring.{place_before}
use Rattle.lq_band_laws.proofs.Windows.{one_where, le_if, stored_alone, lock_alone, round_apart, content-held, content-empty, content-same, window_stored}
use Rattle.lq_band_laws.proofs.EndsKept.{still, all_but_end, at_end}

-- THE CONSUMER'S STEPS

pub drop-all : (n : ℕ) (xs : List ℕ) → length xs ≤ n → drop n xs ≡ []
drop-all zero [] h = refl
drop-all zero (x ∷ xs) h = absurd (omega arith)
drop-all (suc n) [] h = refl
drop-all (suc n) (x ∷ xs) h = drop-all n xs (omega arith)

module _ (size : ℕ) (slots : List ℕ) (word : ℕ) (seats : List Lock) (band : Band) (c : Ends) (r : HoldsBand size slots word seats band c) where
  -- what stands in the slot at the head, where no slot is being emptied
  at_head : c.edge ≡ c.head → c.head < size → slice_index slots c.head ≡ word_at band.line (r.lap + c.head)
  at_head edge below = let bound = r.bounds.tail_first in let first : c.tail ≤ c.head = omega arith in
      ap (slice_index slots) (sym (round-below size c.head below)) ∙ (r.slots_are.window c.head first (omega arith) ∙ content-held band.line r.lap c c.head (inr (omega arith)))

  -- the slot at the head was loaded as 0
  pub finds_none_held : c.edge ≡ c.head → c.head < size → slice_index slots c.head ≡ 0 → held_of band ≡ []
  finds_none_held edge below z = drop-all band.taken band.line (⊎_elim
      (λ (h : r.lap + c.head < length band.line). let full = word_at-within band.line (r.lap + c.head) h in let there = at_head edge below in absurd (omega arith))
      (λ h. let taken = r.taken_is in omega arith) (cases_lt (r.lap + c.head) (length band.line)))

  -- it was loaded as a packet's, which is taken
  pub takes_held : c.edge ≡ c.head → c.head < size → c.head < c.tail + batch size → 0 < slice_index slots c.head
      → HoldsBand size slots word seats (taken_by band 1) (taken_on c) × (slice_get (held_of band) 0 ≡ Some (slice_index slots c.head - 1))
  takes_held edge below few full =
      let there = at_head edge below in let e = r.bounds in let first = r.bounds.tail_first in
      let line = r.line_is in let taken = r.taken_is in
      let inside : r.lap + c.head < length band.line = ⊎_elim (λ h. h) (λ h. let z = word_at-past band.line (r.lap + c.head) h in absurd (omega arith)) (cases_lt (r.lap + c.head) (length band.line)) in (
        record {
          lap = r.lap;
          ahead = r.ahead;
          index = r.index;
          laps = r.laps;
          lap_is = r.lap_is;
          bounds = record {
            positive = e.positive;
            tail_within = e.tail_within;
            head_within = omega arith;
            tail_first = omega arith;
            edge_within = omega arith;
            few = omega arith;
            all_emptied = λ h. absurd (omega arith);
          };
          line_is = line;
          taken_is = omega arith;
          taken_within = omega arith;
          fits = r.fits;
          slots_are = record {
            wide = r.slots_are.wide;
            window = λ j h h'. r.slots_are.window j h h' ∙ content-same band.line band.line r.lap r.lap c (taken_on c) j j refl (λ t. absurd (omega arith)) (λ t. absurd (omega arith));
            beyond = r.slots_are.beyond;
          };
          word_is = r.word_is;
          one = r.one;
          index_within = r.index_within;
          index_is = r.index_is;
          knows = r.knows;
        },
        drop-get band.taken 0 band.line ∙ (ap (slice_get band.line) (let p : band.taken + 0 ≡ r.lap + c.head = omega arith in p)
            ∙ (word_at-get band.line (r.lap + c.head) (omega arith) ∙ ap (λ (x : ℕ). Some (x - 1)) (sym there))),
      )

  -- THE SLOT BELOW THE EDGE IS EMPTIED

  abbrev emptied : List ℕ
  emptied = set slots (c.edge - 1) 0

  other_slot : (j : ℕ) → j ≢ c.edge - 1 → slice_index emptied j ≡ slice_index slots j
  other_slot j h = get_or-set_other slots (c.edge - 1) j 0 0 h

  this_slot : 0 < c.edge → slice_index emptied (c.edge - 1) ≡ 0
  this_slot h = get_or-set_same slots (c.edge - 1) 0 0 (let a = r.slots_are.wide in let b = r.bounds.head_within in let d = r.bounds.edge_within in omega arith)

  rewound : (lap ahead : ℕ) (c' : Ends) (laps : ℕ) → lap ≡ laps * size → AreBounds size c' → length band.line ≡ lap + ahead → band.taken ≡ lap + c'.head → c'.head ≤ ahead → ahead ≤ c'.tail + size → IsWindow size emptied band.line lap c'
      → round size ahead ≡ round size r.ahead → (r.ahead < c.tail + size → ahead < c'.tail + size) → HoldsBand size emptied word seats band c'
  rewound lap ahead c' laps lap_is bounds line taken within fits is place more = record {
    lap = lap;
    ahead = ahead;
    index = r.index;
    laps = laps;
    lap_is = lap_is;
    bounds = bounds;
    line_is = line;
    taken_is = taken;
    taken_within = within;
    fits = fits;
    slots_are = is;
    word_is = r.word_is;
    one = r.one;
    index_within = r.index_within;
    index_is = r.index_is ∙ sym place;
    knows = λ j u e. let k = r.knows j u e in record { index_is = k.index_is; size_is = k.size_is; has_room = λ h h'. more (k.has_room h h'); stores = k.stores };
  }

  wide_still : size ≤ length emptied
  wide_still = let e = length-set slots (c.edge - 1) 0 in let h = r.slots_are.wide in omega arith

  beyond_still : (j : ℕ) → size ≤ j → slice_index emptied j ≡ 0
  beyond_still j h = other_slot j (λ e. let b = r.bounds.head_within in let d = r.bounds.edge_within in let p = r.bounds.positive in omega arith) ∙ r.slots_are.beyond j h

  pub empties_held : c.tail < c.edge → HoldsBand size emptied word seats band (emptied_on size c)
  empties_held below =
      let e = r.bounds in let first = r.bounds.tail_first in let edge = r.bounds.edge_within in let head_in = r.bounds.head_within in let tail_in = r.bounds.tail_within in
      let line = r.line_is in let taken = r.taken_is in let within = r.taken_within in let fits = r.fits in let positive = r.bounds.positive in let some_batch = batch-positive size in
      ⊎_elim
      (λ (last : c.tail + 1 ≡ c.edge). ⊎_elim
      (λ (ends : c.head ≡ size). subst (λ (x : Ends). HoldsBand size emptied word seats band x) (sym (at_end size c last ends))
      (let back : r.ahead - size + size ≡ r.ahead = omega arith in
      rewound (r.lap + size) (r.ahead - size) at_start (r.laps + 1) (let x = r.lap_is in omega arith)
      record { positive = positive; tail_within = positive; head_within = omega arith; tail_first = omega arith; edge_within = omega arith; few = omega arith; all_emptied = λ h. h }
      (omega arith) (omega arith) (omega arith) (omega arith)
      record {
        wide = wide_still;
        window = λ j h h'. ap (slice_index emptied) (round-below size j (omega arith)) ∙ ⊎_elim
            (λ (low : j < c.tail). other_slot j (λ x. omega arith) ∙ (ap (slice_index slots) (let x : j ≡ j + size - size = omega arith in x ∙ sym (round-above size (j + size) (omega arith)))
            ∙ (r.slots_are.window (j + size) (omega arith) (omega arith) ∙ content-same band.line band.line r.lap (r.lap + size) c at_start (j + size) j (ap (word_at band.line) (omega arith)) (λ t. absurd (omega arith)) (λ t. absurd (omega arith)))))
            (λ (high : c.tail ≤ j). empty_there last j high (omega arith) ∙ sym (content-held band.line (r.lap + size) at_start j (inr (omega arith)) ∙ word_at-past band.line (r.lap + size + j) (omega arith)))
            (cases_lt j c.tail);
        beyond = beyond_still;
      }
      (round-below size (r.ahead - size) (omega arith) ∙ sym (round-above size r.ahead (omega arith))) (λ h. omega arith)))
      (λ (more : c.head ≢ size). let c' : Ends = record { head = c.head; tail = c.head; edge = c.head } in subst (λ (x : Ends). HoldsBand size emptied word seats band x) (sym (all_but_end size c last more))
      (rewound r.lap r.ahead c' r.laps r.lap_is
      record { positive = positive; tail_within = omega arith; head_within = omega arith; tail_first = omega arith; edge_within = omega arith; few = omega arith; all_emptied = λ h. h }
      line taken within (omega arith)
      record {
        wide = wide_still;
        window = λ j h h'. ⊎_elim
            (λ (low : j < c.tail + size). other_slot (round size j) (λ x. round_apart size c.tail j c.tail tail_in (omega arith) low (omega arith) (omega arith) (λ y. omega arith) (x ∙ (let y : c.edge - 1 ≡ c.tail = omega arith in y ∙ sym (round-below size c.tail tail_in))))
            ∙ (r.slots_are.window j (omega arith) low ∙ content-same band.line band.line r.lap r.lap c c' j j refl (λ t. absurd (omega arith)) (λ t. absurd (omega arith))))
            (λ (high : c.tail + size ≤ j). ap (slice_index emptied) (round-above size j (omega arith)) ∙ (empty_there last (j - size) (omega arith) (omega arith)
            ∙ sym (content-held band.line r.lap c' j (inr h) ∙ word_at-past band.line (r.lap + j) (omega arith))))
            (cases_lt j (c.tail + size));
        beyond = beyond_still;
      }
      refl (λ h. omega arith)))
      (cases_eq c.head size))
      (λ (rest : c.tail + 1 ≢ c.edge). let c' : Ends = record { head = c.head; tail = c.tail; edge = c.edge - 1 } in subst (λ (x : Ends). HoldsBand size emptied word seats band x) (sym (still size c rest))
      (rewound r.lap r.ahead c' r.laps r.lap_is
      record { positive = positive; tail_within = tail_in; head_within = head_in; tail_first = omega arith; edge_within = omega arith; few = e.few; all_emptied = λ h. absurd (rest (omega arith)) }
      line taken within fits
      record {
        wide = wide_still;
        window = λ j h h'. ⊎_elim
            (λ (here : j ≡ c.edge - 1). ap (slice_index emptied) (round-below size j (omega arith) ∙ here) ∙ (this_slot (omega arith) ∙ sym (content-empty band.line r.lap c' j (omega arith) (omega arith))))
            (λ (other : j ≢ c.edge - 1). other_slot (round size j) (λ x. round_apart size c.tail j (c.edge - 1) tail_in h h' (omega arith) (omega arith) other (x ∙ sym (round-below size (c.edge - 1) (omega arith))))
            ∙ (r.slots_are.window j h h' ∙ content-same band.line band.line r.lap r.lap c c' j j refl (λ t. let a = t.0 in (omega arith, t.1)) (λ t. let a = t.0 in (omega arith, t.1))))
            (cases_eq j (c.edge - 1));
        beyond = beyond_still;
      }
      refl (λ h. h)))
      (cases_eq (c.tail + 1) c.edge)
    where
      -- where the last one is emptied, all up to the head are empty
      empty_there : c.tail + 1 ≡ c.edge → (j : ℕ) → c.tail ≤ j → j < c.head → slice_index emptied j ≡ 0
      empty_there last j h h' = let tail_in = r.bounds.tail_within in let head_in = r.bounds.head_within in ⊎_elim
          (λ (here : j ≡ c.edge - 1). ap (slice_index emptied) here ∙ this_slot (omega arith))
          (λ (other : j ≢ c.edge - 1). other_slot j other ∙ (ap (slice_index slots) (sym (round-below size j (omega arith))) ∙ (r.slots_are.window j h (omega arith) ∙ content-empty band.line r.lap c j (omega arith) h')))
          (cases_eq j (c.edge - 1))

  -- BEFORE THE HEAD, which an unconsume looks at under the producer lock, once no slot is left to be emptied

  -- the slot that stands before the head is the last one of the window
  before_head : c.tail ≡ c.head → c.edge ≡ c.head → slice_index slots (place_before size c.head 1) ≡ word_at band.line (r.lap + (c.head + (size - 1)))
  before_head clear edge =
      let tail_in = r.bounds.tail_within in let positive = r.bounds.positive in
      ap (slice_index slots) (sym (round-last size c.head (omega arith))) ∙ (r.slots_are.window (c.head + (size - 1)) (omega arith) (omega arith) ∙ content-held band.line r.lap c (c.head + (size - 1)) (inr (omega arith)))

  -- it was loaded as a packet's: all slots have packets that are held
  pub finds_full_before : c.tail ≡ c.head → c.edge ≡ c.head → 0 < slice_index slots (place_before size c.head 1) → length (held_of band) ≡ size
  finds_full_before clear edge full =
      let line = r.line_is in let taken = r.taken_is in let fits = r.fits in let positive = r.bounds.positive in let within = r.taken_within in let held = length-drop band.taken band.line in
      ⊎_elim
      (λ (inside : r.lap + (c.head + (size - 1)) < length band.line). omega arith)
      (λ (past : length band.line ≤ r.lap + (c.head + (size - 1))). let there = before_head clear edge in let none_there = word_at-past band.line (r.lap + (c.head + (size - 1))) past in absurd (omega arith))
      (cases_lt (r.lap + (c.head + (size - 1))) (length band.line))

module _ (size : ℕ) (slots : List ℕ) (word : ℕ) (seats : List Lock) (band : Band) (c : Ends) (id : ℕ) (l : Lock) (r : HoldsBand size slots word seats band c) (at : get_elem? seats id ≡ some l) where
  -- a seat knows more, or has got the lock
  reseated : (new : ℕ) (w : Lock) → new ≡ 2 * r.index + total locking (set seats id w) → total locking (set seats id w) ≤ 1 → stored_count w ≡ stored_count l → KnowsLock size r.index (c.tail + size) r.ahead w
      → HoldsBand size slots new (set seats id w) band c
  reseated new w is few same mine =
      let t = total_set stored_count seats id l w at in let e : total stored_count (set seats id w) ≡ total stored_count seats = omega arith in record {
        lap = r.lap;
        ahead = r.ahead;
        index = r.index;
        laps = r.laps;
        lap_is = r.lap_is;
        bounds = r.bounds;
        line_is = r.line_is;
        taken_is = r.taken_is;
        taken_within = r.taken_within;
        fits = r.fits;
        slots_are = r.slots_are;
        word_is = is;
        one = few;
        index_within = r.index_within;
        index_is = subst (λ z. index_behind size z r.index ≡ round size r.ahead) (sym e) r.index_is;
        knows = each_same (KnowsLock size r.index (c.tail + size) r.ahead) seats id w r.knows mine;
      }

  -- the lock is got: the word was even
  pub locks_held : (i : ℕ) → l.holds ≡ false → word ≡ 2 * i → HoldsBand size slots (word + 1) (set seats id (locked_at i)) band c
  locks_held i free even =
      let t = total_set locking seats id l (locked_at i) at in let h : locking l ≡ 0 = ap one_where free in
      let few = r.one in let is = r.word_is in
      let none : stored_count l ≤ locking l = le_if l.stored l.holds (r.knows id l at).stores in
      reseated (word + 1) (locked_at i) (omega arith) (omega arith) (omega arith) record {
        index_is = λ _. omega arith;
        size_is = λ n _ e. absurd (cc);
        has_room = λ _ e. absurd (cc);
        stores = λ e. absurd (cc);
      }

  -- the size is loaded
  pub sizes_held : HoldsBand size slots word (set seats id (sized_at size l)) band c
  sizes_held =
      let t = total_set locking seats id l (sized_at size l) at in let k = r.knows id l at in let few = r.one in let is = r.word_is in
      reseated word (sized_at size l) (omega arith) (omega arith) refl record {
        index_is = k.index_is;
        size_is = λ n _ e. sym (same_Some size n e);
        has_room = k.has_room;
        stores = k.stores;
      }

  pub sizes_if_held : HoldsBand size slots word (set seats id (sized_if size l)) band c
  sizes_if_held = ⊎_elim
      (λ (has : l.holds ≡ true). subst (λ (b : Bool). HoldsBand size slots word (set seats id (if b then sized_at size l else l)) band c) (sym has) sizes_held)
      (λ (free : l.holds ≡ false). subst (λ (b : Bool). HoldsBand size slots word (set seats id (if b then sized_at size l else l)) band c) (sym free)
      (subst (λ (ls : List Lock). HoldsBand size slots word ls band c) (sym (set_again seats id l at)) r))
      (cases_Bool l.holds)

  -- where the next packet goes
  pub index_ahead_held : l.holds ≡ true → l.stored ≡ false → l.index ≡ round size r.ahead
  index_ahead_held has new =
      let none : total stored_count seats ≡ 0 = stored_alone size r.index (c.tail + size) r.ahead seats id l r.knows at r.one has ∙ ap one_where new in
      (r.knows id l at).index_is has ∙ subst (λ z. index_behind size z r.index ≡ round size r.ahead) none r.index_is

  -- what stands there, where the line fills all slots
  at_tail : r.ahead ≡ c.tail + size → slice_index slots (round size r.ahead) ≡ content band.line r.lap c c.tail
  at_tail all =
      let a : round size r.ahead ≡ round size c.tail = ap (round size) all ∙ (round-above size (c.tail + size) (omega arith) ∙ ((let e : c.tail + size - size ≡ c.tail = omega arith in e) ∙ sym (round-below size c.tail r.bounds.tail_within))) in
      ap (slice_index slots) a ∙ r.slots_are.window c.tail (omega arith) (let p = r.bounds.positive in omega arith)

  first_there : (c.tail < c.edge) ⊎ (c.head ≤ c.tail)
  first_there = ⊎_elim (λ (h : c.tail < c.edge). inl h) (λ h. inr (r.bounds.all_emptied h)) (cases_lt c.tail c.edge)

  -- the slot at the index was loaded as 0
  pub finds_room_held : l.holds ≡ true → l.stored ≡ false → slice_index slots l.index ≡ 0 → HoldsBand size slots word (set seats id (with_room l)) band c
  finds_room_held has new z =
      let t = total_set locking seats id l (with_room l) at in let k = r.knows id l at in let few = r.one in let is = r.word_is in
      let fits = r.fits in
      let room : r.ahead < c.tail + size = ⊎_elim (λ h. h) (λ h.
      let all : r.ahead ≡ c.tail + size = omega arith in
      let there_is : 0 < word_at band.line (r.lap + c.tail) = word_at-within band.line (r.lap + c.tail) (let a = r.line_is in let p = r.bounds.positive in omega arith) in
      let zero : slice_index slots (round size r.ahead) ≡ 0 = subst (λ i. slice_index slots i ≡ 0) (index_ahead_held has new) z in
      let there = at_tail all ∙ content-held band.line r.lap c c.tail first_there in absurd (omega arith))
      (cases_lt r.ahead (c.tail + size)) in
      reseated word (with_room l) (omega arith) (omega arith) refl record {
        index_is = k.index_is;
        size_is = k.size_is;
        has_room = λ _ _. room;
        stores = k.stores;
      }

  -- the slot at the index was loaded as a packet's
  pub finds_full_held : l.holds ≡ true → l.stored ≡ false → 0 < slice_index slots l.index → MayBeFull size band (slice_index slots l.index - 1)
  finds_full_held has new full =
      let here : slice_index slots l.index ≡ slice_index slots (round size r.ahead) = ap (slice_index slots) (index_ahead_held has new) in
      let fits = r.fits in let line = r.line_is in let within = r.taken_within in let taken = r.taken_is in
      let all : r.ahead ≡ c.tail + size = ⊎_elim (λ h.
      let there : slice_index slots (round size r.ahead) ≡ content band.line r.lap c r.ahead = r.slots_are.window r.ahead (let e = r.bounds.tail_first in omega arith) h in
      let past : word_at band.line (r.lap + r.ahead) ≡ 0 = word_at-past band.line (r.lap + r.ahead) (omega arith) in
      let held = content-held band.line r.lap c r.ahead (inr within) in absurd (omega arith))
      (λ h. omega arith) (cases_lt r.ahead (c.tail + size)) in
      let there : slice_index slots l.index ≡ word_at band.line (r.lap + c.tail) = here ∙ (at_tail all ∙ content-held band.line r.lap c c.tail first_there) in
      let place : length band.line - size ≡ r.lap + c.tail = omega arith in
      let few = r.bounds.few in record {
        again = omega arith;
        seen_is = ap (slice_get band.line) place ∙ (word_at-get band.line (r.lap + c.tail) (omega arith) ∙ ap (λ (x : ℕ). Some (x - 1)) (sym there));
        holds = let e = length-drop band.taken band.line in omega arith;
      }

  -- the packet is stored
  pub stores_held : (n : ℕ) → l.holds ≡ true → l.stored ≡ false → l.room ≡ true
      → HoldsBand size (set slots l.index (n + 1)) word (set seats id (having_stored l)) (joined band n) c × (length (held_of band) < size)
  stores_held n has new room =
      let w : Lock = having_stored l in let t = total_set locking seats id l w at in let t' = total_set stored_count seats id l w at in
      let k = r.knows id l at in let few = r.one in let is = r.word_is in let line = r.line_is in let taken = r.taken_is in let within = r.taken_within in
      let below : r.ahead < c.tail + size = k.has_room has room in
      let none : total stored_count seats ≡ 0 = stored_alone size r.index (c.tail + size) r.ahead seats id l r.knows at few has ∙ ap one_where new in
      let was : stored_count l ≡ 0 = ap one_where new in
      let one : total stored_count (set seats id w) ≡ 1 = omega arith in
      let place : l.index ≡ round size r.ahead = index_ahead_held has new in
      let index_was : r.index ≡ round size r.ahead = sym (k.index_is has) ∙ place in
      let long : length (band.line ++ n ∷ []) ≡ length band.line + 1 = length-append band.line (n ∷ []) in
      let tail_in = r.bounds.tail_within in let first = r.bounds.tail_first in (
        record {
          lap = r.lap;
          ahead = r.ahead + 1;
          index = r.index;
          laps = r.laps;
          lap_is = r.lap_is;
          bounds = r.bounds;
          line_is = omega arith;
          taken_is = taken;
          taken_within = omega arith;
          fits = omega arith;
          slots_are = subst (λ (i : ℕ). IsWindow size (set slots i (n + 1)) (band.line ++ n ∷ []) r.lap c) (sym place) (window_stored size slots band.line r.lap c r.ahead n r.bounds line within below r.slots_are);
          word_is = omega arith;
          one = omega arith;
          index_within = r.index_within;
          index_is = subst (λ z. index_behind size z r.index ≡ round size (r.ahead + 1)) (sym one) (next_place-round size r.ahead r.index (omega arith) (sym index_was));
          knows = each_step (KnowsLock size r.index (c.tail + size) r.ahead) (KnowsLock size r.index (c.tail + size) (r.ahead + 1)) seats id w r.knows
              record { index_is = k.index_is; size_is = k.size_is; has_room = λ _ e. absurd (cc); stores = λ _. has }
              (λ j u apart e q. record { index_is = q.index_is; size_is = q.size_is; has_room = λ h _. absurd (lock_alone seats id j l u at e apart few has h); stores = q.stores });
        },
        let e = length-drop band.taken band.line in omega arith,
      )

  -- the lock is given back
  pub gives_held : l.holds ≡ true → HoldsBand size slots (2 * index_given size l) (set seats id unlocked) band c
  gives_held has =
      let t = total_set locking seats id l unlocked at in let t' = total_set stored_count seats id l unlocked at in let k = r.knows id l at in let few = r.one in
      let mine : locking l ≡ 1 = ap one_where has in let some_one = total_one locking seats id l at in
      let alone : total stored_count seats ≡ stored_count l = stored_alone size r.index (c.tail + size) r.ahead seats id l r.knows at few has in
      let none : total stored_count (set seats id unlocked) ≡ 0 = omega arith in
      let place : index_given size l ≡ round size r.ahead = ap (λ (x : ℕ × ℕ). index_behind size x.0 x.1) (λ i. (sym alone i, k.index_is has i)) ∙ r.index_is in record {
        lap = r.lap;
        ahead = r.ahead;
        index = index_given size l;
        laps = r.laps;
        lap_is = r.lap_is;
        bounds = r.bounds;
        line_is = r.line_is;
        taken_is = r.taken_is;
        taken_within = r.taken_within;
        fits = r.fits;
        slots_are = r.slots_are;
        word_is = omega arith;
        one = omega arith;
        index_within = subst (λ (x : ℕ). x < size) (sym place) (round-within size r.ahead (let a = r.fits in let b = r.bounds.tail_within in omega arith));
        index_is = subst (λ z. index_behind size z (index_given size l) ≡ round size r.ahead) (sym none) place;
        knows = each_step (KnowsLock size r.index (c.tail + size) r.ahead) (KnowsLock size (index_given size l) (c.tail + size) r.ahead) seats id unlocked r.knows
            record { index_is = λ e. absurd (cc); size_is = λ n e _. absurd (cc); has_room = λ e _. absurd (cc); stores = λ e. absurd (cc) }
            (λ j u apart e q. record { index_is = λ h. absurd (lock_alone seats id j l u at e apart few has h); size_is = q.size_is; has_room = q.has_room; stores = q.stores });
      }

  -- UNCONSUME

  -- it was loaded as 0: there is room
  pub finds_room_before : l.holds ≡ true → l.stored ≡ false → c.tail ≡ c.head → c.edge ≡ c.head → slice_index slots (place_before size c.head 1) ≡ 0 → HoldsBand size slots word (set seats id (with_room l)) band c
  finds_room_before has new clear edge z =
      let t = total_set locking seats id l (with_room l) at in let k = r.knows id l at in let few = r.one in let is = r.word_is in let line = r.line_is in let positive = r.bounds.positive in
      let room : r.ahead < c.tail + size = ⊎_elim
      (λ (past : length band.line ≤ r.lap + (c.head + (size - 1))). omega arith)
      (λ (inside : r.lap + (c.head + (size - 1)) < length band.line). let there_is = before_head size slots word seats band c r clear edge in let full = word_at-within band.line (r.lap + (c.head + (size - 1))) inside in absurd (omega arith))
      (cases_le (length band.line) (r.lap + (c.head + (size - 1)))) in
      reseated word (with_room l) (omega arith) (omega arith) refl record {
        index_is = k.index_is;
        size_is = k.size_is;
        has_room = λ _ _. room;
        stores = k.stores;
      }
    where
      cases_le : (a b : ℕ) → (a ≤ b) ⊎ (b < a)
      cases_le a b = ⊎_elim (λ h. inr h) (λ h. inl h) (cases_lt b a)

  -- THE PACKET THAT WAS TAKEN LAST IS PUT BACK THERE: the consumer stands in this place then, in its lap or in the one before.

  abbrev place : ℕ
  place = place_before size c.head 1

  abbrev there : Ends
  there = cleared_at place

  back_to : (n : ℕ) → l.holds ≡ true → l.stored ≡ false → r.ahead < c.tail + size → place < size → (lap ahead laps : ℕ) → lap ≡ laps * size → length band.line ≡ lap + ahead → band.taken - 1 ≡ lap + place → place ≤ ahead → ahead ≤ place + size
      → round size ahead ≡ round size r.ahead → word_at band.line (lap + place) ≡ n + 1 → ((j : ℕ) → place < j → j < place + size → slot_at slots size j ≡ word_at band.line (lap + j))
      → HoldsBand size (set slots place (n + 1)) word (set seats id (without_room l)) (given_back_one band) there
  back_to n has new room in_size lap ahead laps lap_is line_is taken_is within fits same last others =
      let w : Lock = without_room l in let t = total_set locking seats id l w at in let t' = total_set stored_count seats id l w at in let k = r.knows id l at in let few = r.one in let is = r.word_is in let some_batch = batch-positive size in
      let still : total stored_count (set seats id w) ≡ total stored_count seats = omega arith in
      let in_slots : place < length slots = let x = r.slots_are.wide in omega arith in
      record {
        lap = lap;
        ahead = ahead;
        index = r.index;
        laps = laps;
        lap_is = lap_is;
        bounds = record { positive = r.bounds.positive; tail_within = in_size; head_within = omega arith; tail_first = omega arith; edge_within = omega arith; few = omega arith; all_emptied = λ h. h };
        line_is = line_is;
        taken_is = taken_is;
        taken_within = within;
        fits = fits;
        slots_are = record {
          wide = let e = length-set slots place (n + 1) in let x = r.slots_are.wide in omega arith;
          window = λ j h h'. ⊎_elim
              (λ (e : j ≡ place). ap (slice_index (set slots place (n + 1))) (ap (round size) e ∙ round-below size place in_size) ∙ (get_or-set_same slots place (n + 1) 0 in_slots
              ∙ sym (content-held band.line lap there j (inr h) ∙ (ap (λ (x : ℕ). word_at band.line (lap + x)) e ∙ last))))
              (λ (e : j ≢ place). get_or-set_other slots place (round size j) (n + 1) 0 (λ x. round_apart size place j place in_size h h' (omega arith) (omega arith) e (x ∙ sym (round-below size place in_size)))
              ∙ (others j (omega arith) h' ∙ sym (content-held band.line lap there j (inr h))))
              (cases_eq j place);
          beyond = λ j h. get_or-set_other slots place j (n + 1) 0 (λ e. omega arith) ∙ r.slots_are.beyond j h;
        };
        word_is = omega arith;
        one = omega arith;
        index_within = r.index_within;
        index_is = subst (λ z. index_behind size z r.index ≡ round size ahead) (sym still) (r.index_is ∙ sym same);
        knows = each_step (KnowsLock size r.index (c.tail + size) r.ahead) (KnowsLock size r.index (place + size) ahead) seats id w r.knows
            record { index_is = k.index_is; size_is = k.size_is; has_room = λ _ e. absurd (cc); stores = k.stores }
            (λ j u apart e q. record { index_is = q.index_is; size_is = q.size_is; has_room = λ h _. absurd (lock_alone seats id j l u at e apart few has h); stores = q.stores });
      }

  lap_before : (laps : ℕ) → r.lap ≡ laps * size → 0 < r.lap → (m : ℕ) × (r.lap ≡ m * size + size)
  lap_before zero e some_lap = absurd (omega arith)
  lap_before (suc m) e some_lap = (m, omega arith)

  pub puts_back : (n : ℕ) → l.holds ≡ true → l.stored ≡ false → l.room ≡ true → c.head < size → c.tail ≡ c.head → c.edge ≡ c.head → 0 < band.taken → word_at band.line (band.taken - 1) ≡ n + 1
      → HoldsBand size (set slots place (n + 1)) word (set seats id (without_room l)) (given_back_one band) there
  puts_back n has new has_room in_ring clear edge some_taken last =
      let room = (r.knows id l at).has_room has has_room in let line = r.line_is in let taken = r.taken_is in let within = r.taken_within in let in_size = place_before-within size c.head in_ring in ⊎_elim
      (λ (later : 0 < c.head). let here : place ≡ c.head - 1 = grind (arith, nat_tests) in
      back_to n has new room in_size r.lap r.ahead r.laps r.lap_is line (omega arith) (omega arith) (omega arith) refl (ap (word_at band.line) (let e : r.lap + place ≡ band.taken - 1 = omega arith in e) ∙ last)
      (λ j h h'. r.slots_are.window j (omega arith) (omega arith) ∙ content-held band.line r.lap c j (inr (omega arith))))
      (λ (first : c.head ≤ 0). let here : place ≡ size - 1 = grind (arith, nat_tests) in let before = lap_before r.laps r.lap_is (omega arith) in let lap_was = before.1 in
      back_to n has new room in_size (before.0 * size) (r.ahead + size) before.0 refl (omega arith) (omega arith) (omega arith) (omega arith)
      (round-above size (r.ahead + size) (omega arith) ∙ ((let e : r.ahead + size - size ≡ r.ahead = omega arith in e) ∙ sym (round-below size r.ahead (omega arith))))
      (ap (word_at band.line) (let e : before.0 * size + place ≡ band.taken - 1 = omega arith in e) ∙ last)
      (λ j h h'. ap (slice_index slots) (round-above size j (omega arith) ∙ sym (round-below size (j - size) (omega arith))) ∙ (r.slots_are.window (j - size) (omega arith) (omega arith)
      ∙ (content-held band.line r.lap c (j - size) (inr (omega arith)) ∙ ap (word_at band.line) (let e : r.lap + (j - size) ≡ before.0 * size + j = omega arith in e)))))
      (cases_lt 0 c.head)
