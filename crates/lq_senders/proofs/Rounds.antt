-- All seats did something in turn.
use Rattle.std.proofs.Common.{◌≡◌, ℕ, ◌+◌, ◌<◌, ◌≤◌, Bool, true, false, ◌||◌, List, length, Some, refl, sym, ap, ◌∙◌, subst, slice_get, arith, length-set}
use Rattle.std.specs.Prelude.{slice_index_or, slice_set}
use Rattle.std.proofs.lemmas.Option.{same_Some, slice_get_within}
use mathlib.Core.Logic.{dite}
use native.Mathlib.Decide.{ℕ_discrete}
use Rattle.lq_seat.specs.Calls.{WakesQueues}
use Rattle.lq_seat.specs.State.{SeatState, TableState, IsHere}
use Rattle.lq_senders.specs.Senders.{FirstDid, AllDid, AreSeats, WasOpened}
use Rattle.lq_senders.proofs.Seats.{read-at, set-here, set-apart}

module _ (R : SeatState → SeatState → Type 0) where
  pub none-did : (seats : List SeatState) → FirstDid R 0 seats seats
  none-did seats = record { long = refl; done = λ j c c' below. absurd (omega arith); rest = λ j above. refl }

  pub one-more-did : (count : ℕ) (old new : List SeatState) (c c' : SeatState) → slice_get new count ≡ Some c → R c c' → FirstDid R count old new → FirstDid R (count + 1) old (slice_set new count c')
  one-more-did count old new c c' at-c did first = record {
    long = length-set new count c' ∙ first.long;
    done = λ j d d' below at-old at-new. dite (ℕ_discrete j count)
        (λ same.
        let d'-is : c' ≡ d' = same_Some c' d' (sym (set-here new count c' (slice_get_within new count c at-c)) ∙ (ap (slice_get (slice_set new count c')) (sym same) ∙ at-new)) in
        let d-is : c ≡ d = same_Some c d (sym at-c ∙ (first.rest count (omega arith) ∙ (ap (slice_get old) (sym same) ∙ at-old))) in
        subst (λ (x : SeatState × SeatState). R x.0 x.1) (λ i. (d-is i, d'-is i)) did)
        (λ other. first.done j d d' (omega arith) at-old (sym (set-apart new count j c' other) ∙ at-new));
    rest = λ j above. set-apart new count j c' (λ same. absurd (omega arith)) ∙ first.rest j (omega arith);
  }

  pub all-did : (count : ℕ) (old new : List SeatState) → length old ≤ count → FirstDid R count old new → AllDid R old new
  all-did count old new enough first = record {
    long = first.long;
    each = λ j c c' at-old at-new. first.done j c c' (let within = slice_get_within old j c at-old in omega arith) at-old at-new;
  }

  -- the seat that is next is as it was
  pub next-seat : (count : ℕ) (tables : List TableState) (old new : List SeatState) (t : TableState) (c : SeatState) → AreSeats tables old → FirstDid R count old new
      → slice_get tables count ≡ Some t → slice_get new count ≡ Some c → IsHere t c
  next-seat count tables old new t c seats first at-t at-c = seats.each count t c at-t (sym (first.rest count (omega arith)) ∙ at-c)

  -- The seat that is next is one of its table, and one more seat did something once it has.
  pub record IsNext (count : ℕ) (old new : List SeatState) (t : TableState) (c : SeatState) : Type 0 where
    pub here : IsHere t c
    pub at : slice_get new count ≡ Some c
    pub once_done : (c' : SeatState) → R c c' → FirstDid R (count + 1) old (slice_set new count c')

  -- the seat that is next, as it is read beside its table
  pub next-read : (count : ℕ) (tables : List TableState) (old new : List SeatState) (t : TableState) (c : SeatState) → AreSeats tables old
      → FirstDid R count old new → count < length tables → t ≡ slice_index_or tables count t → c ≡ slice_index_or new count c
      → IsNext count old new t c
  next-read count tables old new t c seats first below at-t at-c =
      let same = seats.long in let long = first.long in let there = read-at new count c (omega arith) at-c in
      record {
        here = next-seat count tables old new t c seats first (read-at tables count t below at-t) there;
        at = there;
        once_done = λ c' did. one-more-did count old new c c' there did first;
      }

-- WHETHER A QUEUE WAS OPENED

-- whether a queue of the first so many seats was, as all of these were woken
abbrev pub FirstOpened : Bool → ℕ → List SeatState → List SeatState → Type 0
FirstOpened true count old new =
    (j : ℕ) × (c : SeatState) × (c' : SeatState) × (j < count) × (slice_get old j ≡ Some c) × (slice_get new j ≡ Some c') × WakesQueues true c c'
FirstOpened false count old new = FirstDid (WakesQueues false) count old new

pub one-more-woken : (before here : Bool) (count : ℕ) (old new : List SeatState) (c c' : SeatState) → slice_get new count ≡ Some c → WakesQueues here c c'
    → FirstOpened before count old new → FirstOpened (before || here) (count + 1) old (slice_set new count c')
one-more-woken true here count old new c c' at wakes (j, d, d', below, at-old, at-new, opened) =
    (j, d, d', omega arith, at-old, set-apart new count j c' (λ same. absurd (omega arith)) ∙ at-new, opened)
one-more-woken false true count old new c c' at wakes first =
    (count, c, c', omega arith, sym (first.rest count (omega arith)) ∙ at, set-here new count c' (slice_get_within new count c at), wakes)
one-more-woken false false count old new c c' at wakes first = one-more-did (WakesQueues false) count old new c c' at wakes first

pub was-opened : (opened : Bool) (count : ℕ) (old new : List SeatState) → length old ≤ count → FirstOpened opened count old new → WasOpened opened old new
was-opened true count old new enough (j, c, c', below, at-old, at-new, opened) = (j, c, c', at-old, at-new, opened)
was-opened false count old new enough first = all-did (WakesQueues false) count old new enough first
