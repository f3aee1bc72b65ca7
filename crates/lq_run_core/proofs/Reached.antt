-- The machines that moves lead to, and lists of actions that lead to a machine.
use Rattle.std.proofs.Common.{◌≡◌, ◌≢◌, ℕ, zero, suc, refl, Bool, true, false, List, [], ◌∷◌, get_or, Option, Some, None, subst, eq-eqb}
use Rattle.std.specs.Prelude.{◌&&◌, ◌==◌, not, if◌then◌else◌}
use Rattle.lq_model.specs.declared.machine.Answer.{Answer}
use Rattle.lq_model.specs.declared.machine.Beginning.{Beginning}
use Rattle.lq_model.specs.declared.machine.Beginning.TheVariants.{Transmits, Interrupts, Wakes, Controls}
use Rattle.lq_model.specs.declared.machine.ControlStep.{ControlStep}
use Rattle.lq_model.specs.declared.machine.Packet.{Packet}
use Rattle.lq_model.specs.declared.machine.Seat.{Seat}
use Rattle.lq_model.specs.Control.{control_of}
use Rattle.lq_model.specs.Positions.{own_packet}
use Rattle.lq_model.specs.Kept.{IsInductive}
use Rattle.lq_model.specs.Quiet.{IsFree, Moves, Reaches}
use Rattle.lq_model.specs.Quiet.Moves.{steps, begins, controls}
use Rattle.lq_model.specs.Quiet.Reaches.{no_move, one_more_move}
use Rattle.lq_model.specs.Machine.{Machine, idle_seat}
use Rattle.lq_model.specs.Steps.{call_begun, step_of}
use Rattle.lq_run_laws.proofs.Inductive.{inductive}
use Rattle.lq_run_laws.proofs.LocalSteps.{and-true}

pub reached-inductive : (m n : Machine) → IsInductive m → Reaches m n → IsInductive n
reached-inductive m n h no_move = h
reached-inductive m n h (one_more_move k n' before move) = inductive k n (reached-inductive m k h before) move

-- ACTIONS

pub data Action : Type 0 where
  Does : ℕ → Answer → Action
  Starts : ℕ → Beginning → Action
  DoesControl : ℕ → ControlStep → Action

-- no seat has a packet of the same owner
abbrev apart : Packet → Option Packet → Bool
apart p None = true
apart p (Some r) = not (p.owner == r.owner)

abbrev free : Packet → List Seat → Bool
free p [] = true
free p (s ∷ seats) = apart p (own_packet s.position) && free p seats

abbrev may-start : Beginning → List Seat → Bool
may-start (Transmits p) seats = free p seats
may-start Interrupts seats = true
may-start (Wakes queue) seats = true
may-start Controls seats = true

abbrev next : Action → Machine → Option Machine
next (Does i answer) m = step_of m i answer
next (Starts i b) m = if may-start b m.seats then call_begun m i b else None
next (DoesControl i step) m = control_of m i step

abbrev goes-on : Action → Option Machine → Option Machine
goes-on action (Some m) = next action m
goes-on action None = None

abbrev pub play : List Action → Option Machine → Option Machine
play [] o = o
play (action ∷ actions) o = play actions (goes-on action o)

-- THEY ARE MOVES

apart-owner : (p : Packet) (o : Option Packet) (r : Packet) → apart p o ≡ true → o ≡ Some r → p.owner ≢ r.owner
apart-owner p None r apart e same = cc
apart-owner p (Some t) r apart e same =
    let other : not (p.owner == r.owner) ≡ true = subst (λ (x : Packet). not (p.owner == x.owner) ≡ true) (let is : t ≡ r = cc in is) apart in
    let equal = eq-eqb p.owner r.owner same in cc

free-owner : (p : Packet) (seats : List Seat) → free p seats ≡ true → (j : ℕ) (r : Packet) → own_packet (get_or seats j idle_seat).position ≡ Some r → p.owner ≢ r.owner
free-owner p [] free j r e = absurd cc
free-owner p (s ∷ seats) free zero r e = apart-owner p (own_packet s.position) r (and-true _ _ free).0 e
free-owner p (s ∷ seats) free (suc j) r e = free-owner p seats (and-true _ _ free).1 j r e

starts-free : (b : Beginning) (m : Machine) (i : ℕ) → may-start b m.seats ≡ true → IsFree b i m
starts-free (Transmits p) m i may = λ j r other theirs. free-owner p m.seats may j r theirs
starts-free Interrupts m i may = tt
starts-free (Wakes queue) m i may = tt
starts-free Controls m i may = tt

start-moves : (m n : Machine) (i : ℕ) (b : Beginning) (may : Bool) → may-start b m.seats ≡ may → (if may then call_begun m i b else None) ≡ Some n → Moves m n
start-moves m n i b true may e = begins i b (starts-free b m i may) e
start-moves m n i b false may e = absurd cc

next-moves : (action : Action) (m n : Machine) → next action m ≡ Some n → Moves m n
next-moves (Does i answer) m n e = steps i answer e
next-moves (Starts i b) m n e = start-moves m n i b (may-start b m.seats) refl e
next-moves (DoesControl i step) m n e = controls i step e

-- where the actions lead to, moves lead to
pub play-reaches : (m : Machine) (actions : List Action) (o : Option Machine) → ((n : Machine) → o ≡ Some n → Reaches m n) → (n : Machine) → play actions o ≡ Some n → Reaches m n
play-reaches m [] o h n e = h n e
play-reaches m (action ∷ actions) o h n e = play-reaches m actions (goes-on action o) (more o h) n e
  where
    more : (o : Option Machine) → ((n : Machine) → o ≡ Some n → Reaches m n) → (n : Machine) → goes-on action o ≡ Some n → Reaches m n
    more (Some k) h n e = one_more_move k n (h k refl) (next-moves action k n e)
    more None h n e = absurd cc

pub played : (m n : Machine) (actions : List Action) → play actions (Some m) ≡ Some n → Reaches m n
played m n actions e = play-reaches m actions (Some m) (λ k is. subst (Reaches m) (let same : m ≡ k = cc in same) no_move) n e
