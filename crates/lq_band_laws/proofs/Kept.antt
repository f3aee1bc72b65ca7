-- What each step on a band's words makes of it, where its consumer only takes.
use Rattle.std.proofs.Common.{◌≡◌, ◌≢◌, ℕ, ◌+◌, ◌-◌, ◌*◌, ◌<◌, ◌≤◌, true, false, true≢false, List, [], length, set, refl, sym, ◌∙◌, subst, ⊎_elim, arith, Some}
use Rattle.std.specs.Prelude.{slice_index}
use Rattle.std.specs.List.{slice_get}
use Rattle.std.proofs.lemmas.Bool.{cases_eq, cases_Bool}
use mathlib.Core.Option.{some}
use lib.ListN.{get_elem?}
use Rattle.lq_model.specs.Band.{Band, batch, held_of, joined, taken_by, MayBeFull}
use Rattle.lq_ring_core.specs.Slots.{round}
use Rattle.lq_ring_core.proofs.Places.{batch-positive}
use Rattle.lq_band_laws.specs.Ring.{Ends, at_start, is_emptying, taken_on, emptied_on, AreEnds, AreBounds, Lock, unlocked, locked_at, sized_if, with_room, having_stored, index_given, HoldsBand, IsRing}
pub use Rattle.lq_band_laws.proofs.Windows.{lock_alone, content-held}
pub use Rattle.lq_band_laws.proofs.EndsKept.{resting_means, resting_if, down_more, down_here, down_all, rest_after}
use Rattle.lq_band_laws.proofs.EndsKept.{emptying_means, still, all_but_end, at_end}
use Rattle.lq_band_laws.proofs.HoldsKept.{finds_none_held, takes_held, empties_held, locks_held, sizes_if_held, index_ahead_held, finds_room_held, finds_full_held, stores_held, gives_held}

module _ (size : ℕ) (slots : List ℕ) (word : ℕ) (seats : List Lock) (band : Band) (c : Ends) where
  -- the ends are bounds, and the words hold the band
  pub bounds_of : AreEnds size c → AreBounds size c
  bounds_of e = let edge = e.edge_within in let first = e.tail_first in ⊎_elim
      (λ (busy : is_emptying size c ≡ true). let some_left = e.emptying busy in bounds (omega arith) (λ h. absurd (omega arith)))
      (λ (rests : is_emptying size c ≡ false). let none_left = e.resting rests in bounds (omega arith) (λ h. omega arith))
      (cases_Bool (is_emptying size c))
    where
      bounds : c.tail ≤ c.edge → (c.edge ≤ c.tail → c.head ≤ c.tail) → AreBounds size c
      bounds first all = record { positive = e.positive; tail_within = e.tail_within; head_within = e.head_within; tail_first = first; edge_within = e.edge_within; few = e.few; all_emptied = all }

  pub loosened : IsRing size slots word seats band c → HoldsBand size slots word seats band c
  loosened r = record {
    lap = r.lap;
    ahead = r.ahead;
    index = r.index;
    laps = r.laps;
    lap_is = r.lap_is;
    bounds = bounds_of r.ends;
    line_is = r.line_is;
    taken_is = r.taken_is;
    taken_within = r.taken_within;
    fits = r.fits;
    slots_are = r.slots_are;
    word_is = r.word_is;
    one = r.one;
    index_within = r.index_within;
    index_is = r.index_is;
    knows = r.knows;
  }

  -- where the tail is at the start of a batch, and only whole batches are being emptied, it is a ring again
  pub tightened : (batches : ℕ) → c.tail ≡ batches * batch size → (is_emptying size c ≡ false → c.edge ≡ c.head) → (is_emptying size c ≡ true → c.tail < c.edge) → HoldsBand size slots word seats band c → IsRing size slots word seats band c
  tightened batches tail_is resting emptying h = let e = h.bounds in record {
    lap = h.lap;
    ahead = h.ahead;
    index = h.index;
    laps = h.laps;
    batches = batches;
    lap_is = h.lap_is;
    tail_is = tail_is;
    ends = record { positive = e.positive; tail_within = e.tail_within; head_within = e.head_within; tail_first = let a = e.tail_first in let b = e.edge_within in omega arith; few = e.few; edge_within = e.edge_within; resting = resting; emptying = emptying };
    line_is = h.line_is;
    taken_is = h.taken_is;
    taken_within = h.taken_within;
    fits = h.fits;
    slots_are = h.slots_are;
    word_is = h.word_is;
    one = h.one;
    index_within = h.index_within;
    index_is = h.index_is;
    knows = h.knows;
  }

-- THE CONSUMER'S STEPS

module _ (size : ℕ) (slots : List ℕ) (word : ℕ) (seats : List Lock) (band : Band) (c : Ends) (r : IsRing size slots word seats band c) where
  h : HoldsBand size slots word seats band c
  h = loosened size slots word seats band c r

  -- the slot at the head was loaded as 0
  pub finds_none : is_emptying size c ≡ false → slice_index slots c.head ≡ 0 → held_of band ≡ []
  finds_none rests = let m = resting_means size c r.ends rests in finds_none_held size slots word seats band c h m.2 m.1

  -- it was loaded as a packet's, which is taken
  pub takes : is_emptying size c ≡ false → 0 < slice_index slots c.head
      → IsRing size slots word seats (taken_by band 1) (taken_on c) × (slice_get (held_of band) 0 ≡ Some (slice_index slots c.head - 1))
  takes rests full =
      let m = resting_means size c r.ends rests in let t = takes_held size slots word seats band c h m.2 m.1 m.0 full in let first = r.ends.tail_first in
      (tightened size slots word seats (taken_by band 1) (taken_on c) r.batches r.tail_is (λ _. refl) (λ _. omega arith) t.0, t.1)

  -- the slot below the edge is emptied
  pub empties : is_emptying size c ≡ true → IsRing size (set slots (c.edge - 1) 0) word seats band (emptied_on size c)
  empties busy =
      let below = r.ends.emptying busy in let edge = r.ends.edge_within in let positive = r.ends.positive in let head_in = r.ends.head_within in let some_batch = batch-positive size in
      let emptied : List ℕ = set slots (c.edge - 1) 0 in let now : HoldsBand size emptied word seats band (emptied_on size c) = empties_held size slots word seats band c h below in
      let ring : (c' : Ends) → emptied_on size c ≡ c' → (batches : ℕ) → c'.tail ≡ batches * batch size → (is_emptying size c' ≡ false → c'.edge ≡ c'.head) → (is_emptying size c' ≡ true → c'.tail < c'.edge) → IsRing size emptied word seats band (emptied_on size c)
      = λ c' is batches tail_is resting emptying. subst (IsRing size emptied word seats band) (sym is) (tightened size emptied word seats band c' batches tail_is resting emptying (subst (HoldsBand size emptied word seats band) is now)) in
      ⊎_elim
      (λ (last : c.tail + 1 ≡ c.edge). ⊎_elim
      (λ (ends : c.head ≡ size). ring at_start (at_end size c last ends) 0 (omega arith) (λ _. refl) (λ x. absurd (true≢false (sym x ∙ resting_if size at_start (omega arith) positive))))
      (λ (more : c.head ≢ size). let c' : Ends = record { head = c.head; tail = c.head; edge = c.head } in
      ring c' (all_but_end size c last more) (r.batches + 1) (let x = r.tail_is in let y = whole more in omega arith) (λ _. refl) (λ x. absurd (true≢false (sym x ∙ resting_if size c' (omega arith) (omega arith)))))
      (cases_eq c.head size))
      (λ (rest : c.tail + 1 ≢ c.edge). let c' : Ends = record { head = c.head; tail = c.tail; edge = c.edge - 1 } in
      ring c' (still size c rest) r.batches r.tail_is (λ x. absurd (true≢false (sym busy ∙ x))) (λ _. omega arith))
      (cases_eq (c.tail + 1) c.edge)
    where
      -- a batch that doesn't end the lap is a whole one
      whole : c.head ≢ size → c.head ≡ c.tail + batch size
      whole more = let few = r.ends.few in ⊎_elim (λ h. omega arith) (λ h. absurd (more h)) (emptying_means size c busy)

-- THE PRODUCERS' STEPS

module _ (size : ℕ) (slots : List ℕ) (word : ℕ) (seats : List Lock) (band : Band) (c : Ends) (id : ℕ) (l : Lock) (r : IsRing size slots word seats band c) (at : get_elem? seats id ≡ some l) where
  held : HoldsBand size slots word seats band c
  held = loosened size slots word seats band c r

  again : (slots' : List ℕ) (word' : ℕ) (seats' : List Lock) (band' : Band) → HoldsBand size slots' word' seats' band' c → IsRing size slots' word' seats' band' c
  again slots' word' seats' band' = tightened size slots' word' seats' band' c r.batches r.tail_is r.ends.resting r.ends.emptying

  -- the lock is got: the word was even
  pub locks : (i : ℕ) → l.holds ≡ false → word ≡ 2 * i → IsRing size slots (word + 1) (set seats id (locked_at i)) band c
  locks i free even = again slots (word + 1) (set seats id (locked_at i)) band (locks_held size slots word seats band c id l held at i free even)

  -- the size is loaded
  pub sizes_if : IsRing size slots word (set seats id (sized_if size l)) band c
  sizes_if = again slots word (set seats id (sized_if size l)) band (sizes_if_held size slots word seats band c id l held at)

  -- where the next packet goes
  pub index_ahead : l.holds ≡ true → l.stored ≡ false → l.index ≡ round size r.ahead
  unfolding held loosened
  index_ahead has new = index_ahead_held size slots word seats band c id l held at has new

  -- the slot at the index was loaded as 0
  pub finds_room : l.holds ≡ true → l.stored ≡ false → slice_index slots l.index ≡ 0 → IsRing size slots word (set seats id (with_room l)) band c
  finds_room has new z = again slots word (set seats id (with_room l)) band (finds_room_held size slots word seats band c id l held at has new z)

  -- the slot at the index was loaded as a packet's
  pub finds_full : l.holds ≡ true → l.stored ≡ false → 0 < slice_index slots l.index → MayBeFull size band (slice_index slots l.index - 1)
  finds_full = finds_full_held size slots word seats band c id l held at

  -- the packet is stored
  pub stores : (n : ℕ) → l.holds ≡ true → l.stored ≡ false → l.room ≡ true
      → IsRing size (set slots l.index (n + 1)) word (set seats id (having_stored l)) (joined band n) c × (length (held_of band) < size)
  stores n has new room =
      let s = stores_held size slots word seats band c id l held at n has new room in
      (again (set slots l.index (n + 1)) word (set seats id (having_stored l)) (joined band n) s.0, s.1)

  -- the lock is given back
  pub gives : l.holds ≡ true → IsRing size slots (2 * index_given size l) (set seats id unlocked) band c
  gives has = again slots (2 * index_given size l) (set seats id unlocked) band (gives_held size slots word seats band c id l held at has)
