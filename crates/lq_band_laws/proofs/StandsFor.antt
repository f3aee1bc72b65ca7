-- The ring's sentences with places round the ring, from the window.
use Rattle.std.proofs.Common.{◌≡◌, ◌↔◌, true, subst, inl, inr, ℕ, ◌+◌, ◌-◌, ◌*◌, ◌%◌, ◌<◌, ◌≤◌, false, List, length, sym, ap, ◌∙◌, ⊎_elim, arith, length-drop}
use Rattle.std.specs.Prelude.{slice_index}
use mathlib.Core.Option.{some}
use lib.ListN.{get_elem?}
use Rattle.std.proofs.lemmas.Bool.{cases_lt}
use Rattle.std.proofs.lemmas.Nat.{mod-mul-add}
use Rattle.lq_model.specs.Band.{Band, batch, held_of, stale_count, IsOccupied}
use Rattle.lq_ring_core.specs.Slots.{round}
use Rattle.lq_ring_core.proofs.Places.{round-below, round-above}
use Rattle.lq_band_laws.specs.Seats.{total}
use Rattle.lq_band_laws.specs.Ring.{Ends, is_emptying, Lock, stored_count, index_behind, word_at, IsRing}
use Rattle.lq_band_laws.proofs.Lines.{word_at-past, word_at-within}
use Rattle.lq_band_laws.proofs.Kept.{content-held, resting_means, index_ahead}

round-mod : (size laps j : ℕ) → j < size + size → (laps * size + j) % size ≡ round size j
round-mod size laps j h = ⊎_elim
    (λ (low : j < size). mod-mul-add laps size j low ∙ sym (round-below size j low))
    (λ (high : size ≤ j). ap (λ (x : ℕ). x % size) (let e : laps * size + j ≡ (laps + 1) * size + (j - size) = omega arith in e) ∙ (mod-mul-add (laps + 1) size (j - size) (omega arith) ∙ sym (round-above size j high)))
    (cases_lt j size)

module _ (size : ℕ) (slots : List ℕ) (word : ℕ) (seats : List Lock) (band : Band) (c : Ends) (r : IsRing size slots word seats band c) where
  place : (j : ℕ) → j < size + size → (r.lap + j) % size ≡ round size j
  place j h = ap (λ (x : ℕ). (x + j) % size) r.lap_is ∙ round-mod size r.laps j h

  -- the index is the place of the line's end; between the store and the index given back it is the one before
  pub index_stands : index_behind size (total stored_count seats) r.index ≡ length band.line % size
  index_stands = r.index_is ∙ sym (ap (λ (x : ℕ). x % size) r.line_is ∙ place r.ahead (let a = r.fits in let b = r.ends.tail_within in omega arith))

  -- where no batch is being emptied, the head is the place of what is taken next
  pub head_stands : is_emptying size c ≡ false → c.head ≡ band.taken % size
  head_stands rests = let m = resting_means size c r.ends rests in let below = m.1 in sym (ap (λ (x : ℕ). x % size) r.taken_is ∙ (place c.head (omega arith) ∙ round-below size c.head below))

  -- each held packet stands in the slot of its place
  pub held_stand : (i : ℕ) → band.taken ≤ i → i < length band.line → slice_index slots (i % size) ≡ word_at band.line i
  held_stand i from below =
      let line = r.line_is in let taken = r.taken_is in let fits = r.fits in let first = r.ends.tail_first in let tail_in = r.ends.tail_within in
      let j : ℕ = i - r.lap in let is : r.lap + j ≡ i = omega arith in
      ap (slice_index slots) (ap (λ (x : ℕ). x % size) (sym is) ∙ place j (omega arith)) ∙ (r.slots_are.window j (omega arith) (omega arith)
      ∙ (content-held band.line r.lap c j (inr (omega arith)) ∙ ap (word_at band.line) is))

  -- where no batch is being emptied, the slot of the next packet is occupied exactly where the band says so
  pub occupied : is_emptying size c ≡ false → (0 < slice_index slots (length band.line % size)) ↔ IsOccupied size band
  occupied rests =
      let m = resting_means size c r.ends rests in let below = m.1 in let few = m.0 in let edge = m.2 in let line = r.line_is in let taken = r.taken_is in let fits = r.fits in let first = r.ends.tail_first in let tail_in = r.ends.tail_within in let within = r.taken_within in
      let held = length-drop band.taken band.line in
      let at_end : length band.line % size ≡ round size r.ahead = ap (λ (x : ℕ). x % size) r.line_is ∙ place r.ahead (omega arith) in
      let stale : stale_count size band.taken ≡ c.head - c.tail = ap (λ (x : ℕ). x % batch size) (sym (head_stands rests)) ∙ (ap (λ (x : ℕ). x % batch size) (let e : c.head ≡ r.batches * batch size + (c.head - c.tail) = let t = r.tail_is in omega arith in e) ∙ mod-mul-add r.batches (batch size) (c.head - c.tail) (omega arith)) in (
        (λ (some_there : 0 < slice_index slots (length band.line % size)). ⊎_elim
            (λ (room : r.ahead < c.tail + size).
            let there = ap (slice_index slots) at_end ∙ (r.slots_are.window r.ahead (omega arith) room ∙ (content-held band.line r.lap c r.ahead (inr within) ∙ word_at-past band.line (r.lap + r.ahead) (omega arith))) in absurd (omega arith))
            (λ full. omega arith)
            (cases_lt r.ahead (c.tail + size))),
        (λ (is : length (held_of band) + stale_count size band.taken ≡ size).
            let all : r.ahead ≡ c.tail + size = omega arith in
            let at_tail : round size r.ahead ≡ round size c.tail = ap (round size) all ∙ (round-above size (c.tail + size) (omega arith) ∙ ((let e : c.tail + size - size ≡ c.tail = omega arith in e) ∙ sym (round-below size c.tail tail_in))) in
            let there = ap (slice_index slots) (at_end ∙ at_tail) ∙ (r.slots_are.window c.tail (omega arith) (omega arith) ∙ content-held band.line r.lap c c.tail (⊎_elim (λ (h : c.tail < c.edge). inl h) (λ h. inr (omega arith)) (cases_lt c.tail c.edge))) in
            let full = word_at-within band.line (r.lap + c.tail) (omega arith) in omega arith),
      )

  -- so is the slot at the index under the producer lock, where nothing was stored under it
  pub full_exactly : (id : ℕ) (l : Lock) → get_elem? seats id ≡ some l → l.holds ≡ true → l.stored ≡ false → is_emptying size c ≡ false → (0 < slice_index slots l.index) ↔ IsOccupied size band
  full_exactly id l at has new rests =
      let is : l.index ≡ length band.line % size = index_ahead size slots word seats band c id l r at has new ∙ sym (ap (λ (x : ℕ). x % size) r.line_is ∙ place r.ahead (let a = r.fits in let b = r.ends.tail_within in omega arith)) in
      subst (λ (i : ℕ). (0 < slice_index slots i) ↔ IsOccupied size band) (sym is) (occupied rests)
