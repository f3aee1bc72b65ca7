-- The machine that runs keeps the invariant.
use Rattle.std.proofs.Common.{◌≡◌, ◌≢◌, ℕ, ◌<◌, Bool, true, ◌⊎◌, inl, inr, length, refl, ap, Option, Some, None, sym, ◌∙◌, subst}
use Rattle.std.specs.Prelude.{unwrap_or}
use Rattle.std.proofs.lemmas.Bool.{cases_eq}
use Rattle.lq_model.specs.declared.machine.Answer.{Answer}
use Rattle.lq_model.specs.declared.machine.Beginning.{Beginning}
use Rattle.lq_model.specs.declared.machine.Beginning.TheVariants.{Transmits, Interrupts, Wakes, Controls}
use Rattle.lq_model.specs.declared.machine.Packet.{Packet}
use Rattle.lq_model.specs.declared.machine.Seat.{Seat}
use Rattle.lq_model.specs.Machine.{Machine, seat_at, first_machine}
use Rattle.lq_model.specs.Steps.{After, with_seat, step_of, call_begun, step_at, begun}
use Rattle.lq_model.specs.Positions.{own_packet}
use Rattle.lq_model.specs.Kept.{IsInductive}
use Rattle.lq_model.specs.Quiet.{IsFree}
use Rattle.lq_model.specs.Quiet.Moves.{steps, begins}
use Rattle.lq_run_core.specs.declared.start.Start.{Start}
use Rattle.lq_run_core.specs.declared.start.Start.TheVariants.{Send, SoftIrq, Wake, SendOn, WakeOn}
use Rattle.lq_run_core.specs.Numbered.{NumberedMachine, KeepsInvariant, OwnersAreSeats, beginning_of, begun_by}
use Rattle.lq_run_laws.proofs.First.{first-inductive, first-owners}
use Rattle.lq_run_laws.proofs.Local.{Local}
use Rattle.lq_run_laws.proofs.LocalSteps.{and-true, if-some, step-leads, start-leads}
use Rattle.lq_run_laws.proofs.Frames.{seat-moved, seat-other}
use Rattle.lq_run_laws.proofs.OwnersDiffer.{had}
use Rattle.lq_run_laws.proofs.Inductive.{inductive}
use borrow.Author.Tests.{ltb-true}

-- a step of seat i that begins a transmit of its own packet alone
owners-moved : (m : Machine) (i : ℕ) (a : After) {sole : Bool} → i < length m.seats
    → Local sole (λ p. p.owner ≡ i) m.qdisc (seat_at m i) (seat_at m i).position a → OwnersAreSeats m → OwnersAreSeats (with_seat m i a)
owners-moved m i a within leads owners j p mine = at (cases_eq j i)
  where
    at : (j ≡ i) ⊎ (j ≢ i) → p.owner ≡ j
    at (inl same) =
        let here : own_packet a.seat.position ≡ Some p
        = sym (ap (λ (k : ℕ). own_packet (seat_at (with_seat m i a) k).position) same ∙ ap (λ (s : Seat). own_packet s.position) (seat-moved m i a within)) ∙ mine in
        elim (had leads p here) [ inl own ↦ owners i p own ∙ sym same | inr mine' ↦ mine' ∙ sym same ]
    at (inr other) = owners j p (sym (ap (λ (s : Seat). own_packet s.position) (seat-other m i j a other)) ∙ mine)

owners-step : (m n : Machine) (i : ℕ) (answer : Answer) → step_of m i answer ≡ Some n → OwnersAreSeats m → OwnersAreSeats n
owners-step m n i answer e owners =
    let may = and-true _ _ (if-some _ _ _ e).0 in
    let s = seat_at m i in
    subst OwnersAreSeats (sym (if-some _ _ _ e).1)
    (owners-moved m i (step_at s.position answer m.qdisc s) (ltb-true _ _ may.0)
    (step-leads true (λ p. p.owner ≡ i) s.position answer m.qdisc s may.1) owners)

owners-start : (m n : Machine) (i : ℕ) (b : Beginning) → ((p : Packet) → b ≡ Transmits p → p.owner ≡ i) → call_begun m i b ≡ Some n → OwnersAreSeats m → OwnersAreSeats n
owners-start m n i b own e owners =
    let may = and-true _ _ (if-some _ _ _ e).0 in
    let s = seat_at m i in
    subst OwnersAreSeats (sym (if-some _ _ _ e).1)
    (owners-moved m i (record { qdisc = m.qdisc; seat = begun b s }) (ltb-true _ _ may.0) (start-leads true (λ p. p.owner ≡ i) b m.qdisc s may.1 own) owners)

-- a seat sends packets of its own
own-packet : (start : Start) (seat : ℕ) (r : NumberedMachine) (p : Packet) → beginning_of start seat r ≡ Transmits p → p.owner ≡ seat
own-packet (Send band) seat r p e = cc
own-packet SoftIrq seat r p e = absurd cc
own-packet Wake seat r p e = absurd cc
own-packet (SendOn band queue) seat r p e = cc
own-packet (WakeOn queue) seat r p e = absurd cc

free-of : (m : Machine) (i : ℕ) (b : Beginning) → ((p : Packet) → b ≡ Transmits p → p.owner ≡ i) → OwnersAreSeats m → IsFree b i m
free-of m i (Transmits p) own owners = λ j r other theirs same. other (sym (own p refl) ∙ same ∙ owners j r theirs)
free-of m i Interrupts own owners = tt
free-of m i (Wakes queue) own owners = tt
free-of m i Controls own owners = tt

-- the machine after what may not have been done
kept-after : (P : Machine → Type 0) (o : Option Machine) (m : Machine) → P m → ((n : Machine) → o ≡ Some n → P n) → P (unwrap_or o m)
kept-after P (Some n) m h f = f n refl
kept-after P None m h f = h

pub step-sound : (r n : NumberedMachine) (i : ℕ) (answer : Answer) → KeepsInvariant r → n.machine ≡ unwrap_or (step_of r.machine i answer) r.machine → KeepsInvariant n
step-sound r n i answer sound e = record {
  inductive = subst IsInductive (sym e) (kept-after IsInductive (step_of r.machine i answer) r.machine sound.inductive (λ m h. inductive r.machine m sound.inductive (steps i answer h)));
  owners = subst OwnersAreSeats (sym e) (kept-after OwnersAreSeats (step_of r.machine i answer) r.machine sound.owners (λ m h. owners-step r.machine m i answer h sound.owners));
}

pub begin-sound : (r n : NumberedMachine) (i : ℕ) (start : Start) → KeepsInvariant r → n.machine ≡ unwrap_or (begun_by start i r) r.machine → KeepsInvariant n
begin-sound r n i start sound e = record {
  inductive = subst IsInductive (sym e)
      (kept-after IsInductive (begun_by start i r) r.machine sound.inductive
      (λ m h. inductive r.machine m sound.inductive (begins i (beginning_of start i r) (free-of r.machine i (beginning_of start i r) (own-packet start i r) sound.owners) h)));
  owners = subst OwnersAreSeats (sym e)
      (kept-after OwnersAreSeats (begun_by start i r) r.machine sound.owners (λ m h. owners-start r.machine m i (beginning_of start i r) (own-packet start i r) h sound.owners));
}

-- what is made to run is sound
pub first-sound : (r : NumberedMachine) (seats len : ℕ) (bypass : Bool) (queues : ℕ)
    → r ≡ record { machine = first_machine seats len bypass queues; next = 0 } → KeepsInvariant r
first-sound r seats len bypass queues is =
    subst KeepsInvariant (sym is) (record { inductive = first-inductive seats len bypass queues; owners = first-owners seats len bypass queues })
