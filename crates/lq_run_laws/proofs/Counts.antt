-- How a step of one seat changes the counts over all seats.
use Rattle.std.proofs.Common.{◌≡◌, ℕ, ◌+◌, ◌-◌, ◌<◌, ◌≤◌, Bool, true, false, List, [], ◌∷◌, length, arith, get_or, sym, ◌∙◌, subst}
use Rattle.std.specs.Prelude.{sum_by}
use Rattle.std.proofs.Math.ListN.{set}
use Rattle.std.proofs.lemmas.List.{get_or_default}
use Rattle.std.proofs.lemmas.List.Sums.{sum_by-set, sum_by-cons, get_or-le-sum_by}
use Rattle.lq_model.specs.declared.machine.Packet.{Packet}
use Rattle.lq_run_laws.proofs.Local.{Local}
use Rattle.lq_run_laws.proofs.Local.Local.{gets_lock, interrupts, leave, sched_set_inside, sched_set_outside, sched_sets_inside, sched_sets_outside, try1_direct, try1_held, try1_interrupt_bands, try1_interrupt_word, try1_queued_bands, try1_queued_word, try2_direct, try2_held_direct, try2_held_interrupt, try2_held_queued, try2_interrupt_bands, try2_interrupt_word, try2_queued_bands, try2_queued_word}
use Rattle.lq_model.specs.declared.machine.Position.{Position}
use Rattle.lq_model.specs.declared.machine.Seat.{Seat}
use Rattle.lq_model.specs.Machine.{Qdisc, Machine, bit, idle_seat}
use Rattle.lq_model.specs.Steps.{After, step_at, may_answer, may_begin, begun}
use Rattle.lq_model.specs.Positions.{holds_lock, is_inside, is_due, marks}
use Rattle.lq_model.specs.Kept.{IsInductive, OneHolder, CallsInside, OneScheduled}
use Rattle.lq_run_laws.proofs.LocalSteps.{Moved, step-leads, start-leads}
use Rattle.lq_model.specs.declared.machine.Beginning.{Beginning}
use Rattle.lq_model.specs.declared.machine.Answer.{Answer}

-- a count over all seats follows its word, if the moving seat's part does beside any rest
pub sum-kept :
    (f : Seat → ℕ) (seats : List Seat) (i : ℕ) (s : Seat) (word word' : ℕ) → i < length seats
    → ((rest : ℕ) → f (get_or seats i idle_seat) + rest ≡ word → f s + rest ≡ word')
    → sum_by f seats ≡ word → sum_by f (set seats i s) ≡ word'
sum-kept f seats i s word word' inside local kept =
    let rest : ℕ = sum_by f seats - f (get_or seats i idle_seat) in
    let part : f (get_or seats i idle_seat) ≤ sum_by f seats = get_or-le-sum_by f seats i idle_seat inside in
    let now : f s + (sum_by f seats - f (get_or seats i idle_seat)) ≡ word' = local (sum_by f seats - f (get_or seats i idle_seat)) (omega arith) in
    omega (arith, sum_by-set f seats i s idle_seat inside)

pub holder-local :
    {sole : Bool} {free : Packet → Type 0} {q : Qdisc} {s : Seat} {position : Position} {a : After} (rest : ℕ)
    → Local sole free q s position a
    → bit (holds_lock position) + rest ≡ bit q.locked → bit (holds_lock a.seat.position) + rest ≡ bit a.qdisc.locked
holder-local rest (try1_held attempt h1) h = grind arith
holder-local rest (try1_direct p h1) h = grind arith
holder-local rest (try1_queued_word p run h1 h2) h = grind arith
holder-local rest (try1_queued_bands p run h1 h2) h = grind arith
holder-local rest (try1_interrupt_word run h1 h2) h = grind arith
holder-local rest (try1_interrupt_bands run h1 h2) h = grind arith
holder-local rest (try2_held_direct p h1) h = grind arith
holder-local rest (try2_held_queued p h1) h = grind arith
holder-local rest (try2_held_interrupt h1) h = grind arith
holder-local rest (try2_direct p h1) h = grind arith
holder-local rest (try2_queued_word p run h1 h2) h = grind arith
holder-local rest (try2_queued_bands p run h1 h2) h = grind arith
holder-local rest (try2_interrupt_word run h1 h2) h = grind arith
holder-local rest (try2_interrupt_bands run h1 h2) h = grind arith
holder-local rest (gets_lock h1) h = grind arith
holder-local rest _ h = grind arith

pub inside-local :
    {sole : Bool} {free : Packet → Type 0} {q : Qdisc} {s : Seat} {position : Position} {a : After} (rest : ℕ)
    → Local sole free q s position a
    → bit (is_inside position) + rest ≡ q.inside → bit (is_inside a.seat.position) + rest ≡ a.qdisc.inside
inside-local rest leave h = grind arith
inside-local rest _ h = grind arith

pub marks-local :
    {sole : Bool} {free : Packet → Type 0} {q : Qdisc} {s : Seat} {position : Position} {a : After} (rest : ℕ)
    → Local sole free q s position a
    → (bit s.raised + bit (is_due position)) + rest ≡ bit q.sched → marks a.seat + rest ≡ bit a.qdisc.sched
marks-local rest (sched_set_inside h1) h = grind arith
marks-local rest (sched_set_outside h1) h = grind arith
marks-local rest (sched_sets_inside h1) h = grind arith
marks-local rest (sched_sets_outside h1) h = grind arith
marks-local rest (interrupts h1) h = grind arith
marks-local rest _ h = grind arith

-- THE SENTENCES

pub one-holder : (m n : Machine) → IsInductive m → Moved m n → OneHolder n
one-holder m n ind move =
    rw move.is
    (sum-kept (λ s. bit (holds_lock s.position)) m.seats move.i move.after.seat (bit m.qdisc.locked) (bit move.after.qdisc.locked) move.inside
    (λ rest h. holder-local rest move.leads h) ind.kept.one_holder)

pub calls-inside : (m n : Machine) → IsInductive m → Moved m n → CallsInside n
calls-inside m n ind move =
    rw move.is
    (sum-kept (λ s. bit (is_inside s.position)) m.seats move.i move.after.seat m.qdisc.inside move.after.qdisc.inside move.inside
    (λ rest h. inside-local rest move.leads h) ind.kept.calls_inside)

pub one-scheduled : (m n : Machine) → IsInductive m → Moved m n → OneScheduled n
one-scheduled m n ind move =
    rw move.is
    (sum-kept marks m.seats move.i move.after.seat (bit m.qdisc.sched) (bit move.after.qdisc.sched) move.inside
    (λ rest h. marks-local rest move.leads h) ind.kept.one_scheduled)

-- THE RUNNING MACHINE

bit-below-two : (b : Bool) → bit b ≤ 1
bit-below-two true = omega arith
bit-below-two false = omega arith

-- no more calls are inside than there are seats
pub few-inside : (m : Machine) → CallsInside m → m.qdisc.inside ≤ length m.seats
few-inside m kept = omega (arith, kept, few m.seats)
  where
    few : (seats : List Seat) → sum_by (λ s. bit (is_inside s.position)) seats ≤ length seats
    few [] = omega arith
    few (s ∷ seats) = omega (arith, sum_by-cons (λ (t : Seat). bit (is_inside t.position)) s seats, few seats, bit-below-two (is_inside s.position))

pub step-inside :
    (q after : Qdisc) (seats : List Seat) (i : ℕ) (s moved : Seat) (answer : Answer) → i < length seats → s ≡ get_or seats i s
    → may_answer s.position answer q ≡ true → CallsInside (record { qdisc = q; seats = seats })
    → after ≡ (step_at s.position answer q s).qdisc → moved ≡ (step_at s.position answer q s).seat
    → CallsInside (record { qdisc = after; seats = set seats i moved })
step-inside q after seats i s moved answer inside is may kept q-is s-is =
    sum-kept (λ t. bit (is_inside t.position)) seats i moved q.inside after.inside inside
    (λ rest h. rw (q-is, s-is) (inside-local rest (step-leads true (λ p. Unit {0}) s.position answer q s may) (there rest h))) kept
  where
    same : get_or seats i idle_seat ≡ s
    same = get_or_default seats i idle_seat s inside ∙ sym is

    there : (rest : ℕ) → bit (is_inside (get_or seats i idle_seat).position) + rest ≡ q.inside → bit (is_inside s.position) + rest ≡ q.inside
    there rest h = subst (λ (t : Seat). bit (is_inside t.position) + rest ≡ q.inside) same h

pub start-inside :
    (q : Qdisc) (seats : List Seat) (i : ℕ) (s moved : Seat) (b : Beginning) → i < length seats → s ≡ get_or seats i s
    → may_begin b s ≡ true → CallsInside (record { qdisc = q; seats = seats }) → moved ≡ begun b s
    → CallsInside (record { qdisc = q; seats = set seats i moved })
start-inside q seats i s moved b inside is may kept s-is =
    sum-kept (λ t. bit (is_inside t.position)) seats i moved q.inside q.inside inside
    (λ rest h. rw s-is (inside-local rest (start-leads true (λ p. Unit {0}) b q s may (λ p e. tt)) (there rest h))) kept
  where
    same : get_or seats i idle_seat ≡ s
    same = get_or_default seats i idle_seat s inside ∙ sym is

    there : (rest : ℕ) → bit (is_inside (get_or seats i idle_seat).position) + rest ≡ q.inside → bit (is_inside s.position) + rest ≡ q.inside
    there rest h = subst (λ (t : Seat). bit (is_inside t.position) + rest ≡ q.inside) same h
