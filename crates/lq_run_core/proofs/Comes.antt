-- Somebody comes for a packet that waits.
use Rattle.std.proofs.Common.{◌≡◌, ℕ, ◌<◌, Bool, true, false, ◌⊎◌, inl, inr, length, refl, ap, arith, sym, ◌∙◌, subst, Option, Some, None}
use Rattle.std.specs.Prelude.{◌||◌, ◌&&◌, not, if◌then◌else◌, nat_lt}
use Rattle.std.proofs.lemmas.Bool.Decides.{nat_tests}
use Rattle.std.proofs.lemmas.Bool.{lt-ltb}
use Rattle.lq_model.specs.declared.machine.Packet.{Packet}
use Rattle.lq_model.specs.declared.machine.Beginning.TheVariants.{Transmits, Interrupts, Wakes, Controls}
use Rattle.lq_model.specs.declared.machine.Answer.{Answer}
use Rattle.lq_model.specs.declared.machine.Answer.TheVariants.{Plain, FullSlot}
use Rattle.lq_model.specs.declared.machine.ControlStep.TheVariants.{PurgeBand, PurgeMissed, PurgeDraining}
use Rattle.lq_model.specs.declared.machine.Position.{Position}
use Rattle.lq_model.specs.declared.machine.Position.TheVariants.{Idle, Put, Control}
use Rattle.lq_model.specs.declared.machine.Seat.{Seat}
use Rattle.lq_model.specs.Machine.{Qdisc, Machine, Purge, bit, seat_at, is_queue_open}
use Rattle.lq_model.specs.Steps.{is_idle, begun, step_at, may_answer, may_step, has_room, may_be_full, with_seat}
use Rattle.lq_model.specs.Control.{control_at, holds_as_control, is_after_bands, is_control, is_sole, looks_at_bands, may_control}
use Rattle.lq_model.specs.Positions.{IsClear, blocking, has_way_on, hidden_packet, holds_lock, in_hand, is_going, is_on_way, is_stopped, marks, some_seat}
use Rattle.lq_model.specs.Kept.{IsKept}
use Rattle.lq_model.specs.Quiet.Moves.{steps, begins, controls}
use Rattle.lq_run_laws.proofs.LocalSteps.{and-true, if-cases, if-some}
use Rattle.lq_run_core.specs.Waits.{AllOpen, IsWaiting, WaitsOpen}
use Rattle.lq_run_core.specs.Progress.{step_cost}
use Rattle.lq_run_core.specs.Comes.{SomebodyMoves, ControlMoves, next_of_control}
use Rattle.lq_run_core.proofs.Tests.{bit-none, both, none-anywhere, or-second, search-seats, sum-none}
use Rattle.lq_run_core.proofs.OneSeat.{idle-waits}

yes : {A : Type 0} (b : Bool) (x : A) → b ≡ true → (if b then Some x else None) ≡ Some x
yes true x e = refl
yes false x e = cc

-- WHO MAY MOVE

-- a seat that is in no call of control may step, unless it is idle
may-step : (position : Position) → is_idle position ≡ false → is_control position ≡ false → may_step position ≡ true
may-step Idle e f = cc
may-step (Control holds) e f = cc
may-step _ e f = refl

-- where there is no room the answer is that
no-room : (position : Position) (q : Qdisc) → has_room position q ≡ false → may_be_full position q ≡ true
no-room (Put p holds) q e = grind (arith, nat_tests)
no-room _ q e = cc

-- in a call that is none of control, or idle and raised
abbrev may_go : Seat → Bool
may_go s = not (is_control s.position) && (not (is_idle s.position) || s.raised)

comes : (m : Machine) (i : ℕ) → i < length m.seats → may_go (seat_at m i) ≡ true → SomebodyMoves m
comes m i within up = go (is_idle (seat_at m i).position) refl
  where
    parts : (not (is_control (seat_at m i).position) ≡ true) × ((not (is_idle (seat_at m i).position) || (seat_at m i).raised) ≡ true)
    parts = and-true _ _ up

    own : (b : Bool) → not b ≡ true → b ≡ false
    own true e = cc
    own false e = refl

    there : nat_lt i (length m.seats) ≡ true
    there = lt-ltb i (length m.seats) within

    answers : (answer : Answer) → step_cost answer ≡ 0 → may_answer (seat_at m i).position answer m.qdisc ≡ true → SomebodyMoves m
    answers answer free may = (with_seat m i (step_at (seat_at m i).position answer m.qdisc (seat_at m i)), (steps i answer (yes _ _ (both _ _ there may)), free))

    room : (b : Bool) → may_step (seat_at m i).position ≡ true → has_room (seat_at m i).position m.qdisc ≡ b → SomebodyMoves m
    room true may e = answers Plain refl (both _ _ may e)
    room false may e = answers FullSlot refl (no-room (seat_at m i).position m.qdisc e)

    go : (b : Bool) → is_idle (seat_at m i).position ≡ b → SomebodyMoves m
    go false e = room (has_room (seat_at m i).position m.qdisc) (may-step (seat_at m i).position e (own _ parts.0)) refl
    go true e =
        let raised : (seat_at m i).raised ≡ true = or-second _ _ (ap not e) parts.1 in
        (with_seat m i (record { qdisc = m.qdisc; seat = begun Interrupts (seat_at m i) }), (begins i Interrupts tt (yes _ _ (both _ _ there (both _ _ e raised))), refl))

-- in a call of control that has the run lock, or is raised
abbrev is_due_control : Seat → Bool
is_due_control s = is_control s.position && (holds_as_control s.position || s.raised)

may-go-on : (sole holds : Bool) (q : Qdisc) (purge : Option Purge) → q.purge ≡ purge → may_control (next_of_control holds purge) sole holds q ≡ true
may-go-on sole false q purge is = refl
may-go-on sole true q None is = rw is refl
may-go-on sole true q (Some u) is =
    if-cases (λ step. may_control step sole true q ≡ true) (nat_lt u.band 3) PurgeBand (if u.missed then PurgeDraining else PurgeMissed)
    (λ e. ap looks_at_bands is ∙ e)
    (λ e. if-cases (λ step. may_control step sole true q ≡ true) u.missed PurgeDraining PurgeMissed (λ _. ap is_after_bands is ∙ ap not e) (λ _. ap is_after_bands is ∙ ap not e))

control-comes : (m : Machine) (i : ℕ) → i < length m.seats → is_due_control (seat_at m i) ≡ true → ControlMoves m
control-comes m i within due =
    let parts = and-true (is_control (seat_at m i).position) (holds_as_control (seat_at m i).position || (seat_at m i).raised) due in
    record {
      i = i;
      control = parts.0;
      due = parts.1;
      next = with_seat m i (control_at (next_of_control (holds_as_control (seat_at m i).position) m.qdisc.purge) (holds_as_control (seat_at m i).position) m.qdisc (seat_at m i));
      moves = yes _ _ (both _ _ (both _ _ (lt-ltb i (length m.seats) within) parts.0) (may-go-on (is_sole m) (holds_as_control (seat_at m i).position) m.qdisc m.qdisc.purge refl));
    }

-- WHERE NOBODY MAY

-- idle, or in a call of control without the run lock; and not raised
data Rests : Seat → Type 0 where
  rests_idle : (run : ℕ) → Rests (record { position = Idle; raised = false; run = run })
  rests_in_control : (run : ℕ) → Rests (record { position = Control false; raised = false; run = run })

resting : (s : Seat) → may_go s ≡ false → is_due_control s ≡ false → Rests s
resting s = at s.position s.raised refl refl
  where
    seat : (position : Position) (raised : Bool) → s.position ≡ position → s.raised ≡ raised → record { position = position; raised = raised; run = s.run } ≡ s
    seat position raised e f = λ i. record { position = sym e i; raised = sym f i; run = s.run }

    at : (position : Position) (raised : Bool) → s.position ≡ position → s.raised ≡ raised → may_go s ≡ false → is_due_control s ≡ false → Rests s
    at Idle false e f go due = subst Rests (seat Idle false e f) (rests_idle s.run)
    at (Control false) false e f go due = subst Rests (seat (Control false) false e f) (rests_in_control s.run)
    at Idle true e f go due = absurd (let up : may_go s ≡ true = ap (λ (p : Position). not (is_control p) && (not (is_idle p) || s.raised)) e ∙ f in cc)
    at (Control true) raised e f go due = absurd (let up : is_due_control s ≡ true = ap (λ (p : Position). is_control p && (holds_as_control p || s.raised)) e in cc)
    at (Control false) true e f go due = absurd (let up : is_due_control s ≡ true = ap (λ (p : Position). is_control p && (holds_as_control p || s.raised)) e ∙ f in cc)
    at position raised e f go due = absurd (let up : may_go s ≡ true = ap (λ (p : Position). not (is_control p) && (not (is_idle p) || s.raised)) e in cc)

-- all seats rest
abbrev AllRest : Machine → Type 0
AllRest m = (i : ℕ) → Rests (seat_at m i)

none-at : (test : Position → Bool) (m : Machine) → test Idle ≡ false → test (Control false) ≡ false → AllRest m → some_seat test m ≡ false
none-at test m e f rest = none-anywhere (λ s. test s.position) m.seats (λ i. at (seat_at m i) (rest i))
  where
    at : (s : Seat) → Rests s → test s.position ≡ false
    at _ (rests_idle run) = e
    at _ (rests_in_control run) = f

unlocked : (m : Machine) → IsKept m → AllRest m → m.qdisc.locked ≡ false
unlocked m kept rest = bit-none m.qdisc.locked (sym kept.one_holder ∙ sum-none (λ s. bit (holds_lock s.position)) m.seats (λ i. at (seat_at m i) (rest i)))
  where
    at : (s : Seat) → Rests s → bit (holds_lock s.position) ≡ 0
    at _ (rests_idle run) = refl
    at _ (rests_in_control run) = refl

unscheduled : (m : Machine) → IsKept m → AllRest m → m.qdisc.sched ≡ false
unscheduled m kept rest = bit-none m.qdisc.sched (sym kept.one_scheduled ∙ sum-none marks m.seats (λ i. at (seat_at m i) (rest i)))
  where
    at : (s : Seat) → Rests s → marks s ≡ 0
    at _ (rests_idle run) = refl
    at _ (rests_in_control run) = refl

open-means : (q : Qdisc) (queue : Option ℕ) → ((n : ℕ) → is_queue_open q n ≡ true) → is_stopped q queue ≡ false
open-means q (Some n) h = let e = h n in grind arith
open-means q None h = refl

bool : (b : Bool) → (b ≡ true) ⊎ (b ≡ false)
bool true = inl refl
bool false = inr refl

-- nothing is exposed then
rest-clear : (m : Machine) → IsKept m → m.qdisc.deactivated ≡ false → AllOpen m → AllRest m → IsClear m
rest-clear m kept a opens rest = elim (bool m.qdisc.missed) [
  | inl missed ↦ absurd (let e = kept.lock_free_missed (unlocked m kept rest) missed in let going = none-at is_going m refl refl rest in let s = unscheduled m kept rest in grind arith)
  | inr missed ↦ elim (bool m.qdisc.draining) [
    | inl draining ↦ kept.lock_free_draining (unlocked m kept rest) (record { missed = missed; draining = draining; no_way = no-way })
    | inr draining ↦ kept.lock_free_clear (unlocked m kept rest) (record { missed = missed; draining = draining })
  ]
]
  where
    no-way : has_way_on m (blocking m.qdisc) ≡ false
    no-way =
        let on = none-at is_on_way m refl refl rest in let stopped = open-means m.qdisc (blocking m.qdisc) opens in let s = unscheduled m kept rest in grind arith

-- and nothing waits
rest-waits : (p : Packet) (m : Machine) → IsKept m → m.qdisc.deactivated ≡ false → AllOpen m → AllRest m → IsWaiting p m → ⊥
rest-waits p m kept active opens rest (inl (inl slot)) = let clear = rest-clear m kept active opens rest in let e = clear.slot in cc
rest-waits p m kept active opens rest (inl (inr (k, (below, there)))) =
    let hidden = (rest-clear m kept active opens rest).bands k below p there in at (seat_at m hidden.0) (rest hidden.0) hidden.1
  where
    at : (s : Seat) → Rests s → hidden_packet s.position ≡ Some p → ⊥
    at _ (rests_idle run) e = cc
    at _ (rests_in_control run) e = cc
rest-waits p m kept active opens rest (inr (i, hand)) = at (seat_at m i) (rest i) hand
  where
    at : (s : Seat) → Rests s → in_hand s.position ≡ Some p → ⊥
    at _ (rests_idle run) e = cc
    at _ (rests_in_control run) e = cc

-- SOMEBODY

pub somebody : (p : Packet) (m : Machine) → IsKept m → m.qdisc.deactivated ≡ false → WaitsOpen p m → SomebodyMoves m ⊎ ControlMoves m
somebody p m kept active waits = go (search-seats may_go m.seats refl) (search-seats is_due_control m.seats refl)
  where
    go : ((i : ℕ) × ((i < length m.seats) × (may_go (seat_at m i) ≡ true))) ⊎ ((i : ℕ) → may_go (seat_at m i) ≡ false)
        → ((i : ℕ) × ((i < length m.seats) × (is_due_control (seat_at m i) ≡ true))) ⊎ ((i : ℕ) → is_due_control (seat_at m i) ≡ false)
        → SomebodyMoves m ⊎ ControlMoves m
    go (inl found) _ = inl (comes m found.0 found.1.0 found.1.1)
    go (inr none) (inl found) = inr (control-comes m found.0 found.1.0 found.1.1)
    go (inr none) (inr away) = absurd (rest-waits p m kept active waits.queues_open (λ i. resting (seat_at m i) (none i) (away i)) waits.waits)

-- NOBODY

-- where all seats are idle, and none is raised, no move costs nothing
pub idle-stays : (m : Machine) → ((i : ℕ) → (seat_at m i).position ≡ Idle) → ((i : ℕ) → (seat_at m i).raised ≡ false) → SomebodyMoves m → ⊥
idle-stays m idle calm (n, (steps i answer e, free)) =
    let may = (and-true (nat_lt i (length m.seats)) (may_answer (seat_at m i).position answer m.qdisc) (if-some _ _ _ e).0).1 in
    idle-waits answer m.qdisc (subst (λ (p : Position). may_answer p answer m.qdisc ≡ true) (idle i) may)
idle-stays m idle calm (n, (begins i (Transmits p) f e, free)) = absurd (omega arith)
idle-stays m idle calm (n, (begins i Interrupts f e, free)) =
    let may = (and-true (nat_lt i (length m.seats)) (is_idle (seat_at m i).position && (seat_at m i).raised) (if-some _ _ _ e).0).1 in
    let raised = (and-true (is_idle (seat_at m i).position) (seat_at m i).raised may).1 in let none = calm i in cc
idle-stays m idle calm (n, (begins i (Wakes queue) f e, free)) = absurd (omega arith)
idle-stays m idle calm (n, (begins i Controls f e, free)) = absurd (omega arith)
idle-stays m idle calm (n, (controls i step e, free)) = absurd (omega arith)

pub no-control : (m : Machine) → ((i : ℕ) → (seat_at m i).position ≡ Idle) → ControlMoves m → ⊥
no-control m idle moves = let e : false ≡ true = sym (ap is_control (idle moves.i)) ∙ moves.control in cc
