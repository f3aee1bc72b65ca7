-- A move brings the machine nearer, while a packet is served and all queues are open.
use Rattle.std.proofs.Common.{◌≡◌, ◌≢◌, ℕ, ◌+◌, ◌<◌, ◌≤◌, Bool, true, false, ◌⊎◌, inl, inr, length, arith, sym, subst}
use Rattle.std.specs.Prelude.{◌&&◌, not, nat_lt}
use Rattle.std.proofs.lemmas.List.{length-set}
use Rattle.lq_run_laws.proofs.Frames.{only-holder, seat-moved}
use Rattle.lq_run_laws.proofs.Counts.{sum-kept, holder-local}
use Rattle.std.proofs.lemmas.List.Sums.{sum_by-set}
use Rattle.std.proofs.lemmas.Bool.{cases_eq}
use borrow.Author.Tests.{ltb-true}
use Rattle.lq_model.specs.declared.machine.Packet.{Packet}
use Rattle.lq_model.specs.declared.machine.Beginning.TheVariants.{Transmits, Interrupts, Wakes, Controls}
use Rattle.lq_model.specs.declared.machine.Beginning.{Beginning}
use Rattle.lq_model.specs.declared.machine.ControlStep.{ControlStep}
use Rattle.lq_model.specs.Control.{is_control, control_at, may_control, holds_as_control, is_sole}
use Rattle.lq_model.specs.declared.machine.Position.{Position}
use Rattle.lq_model.specs.declared.machine.Seat.{Seat}
use Rattle.lq_model.specs.Machine.{Machine, bit, idle_seat, seat_at}
use Rattle.lq_model.specs.Steps.{is_idle, may_begin, begun, After, step_at, may_answer, with_seat}
use Rattle.lq_model.specs.Positions.{holds_lock}
use Rattle.lq_model.specs.Kept.{OneHolder}
use Rattle.lq_model.specs.Quiet.{Moves}
use Rattle.lq_model.specs.Quiet.Moves.{steps, begins, controls}
use Rattle.lq_run_laws.proofs.Local.{Local}
use Rattle.lq_run_laws.proofs.LocalSteps.{at-control, control-leads, step-leads, start-leads, if-some, and-true}
use Rattle.lq_run_laws.proofs.Seats.{idle-is}
use Rattle.lq_run_core.specs.Waits.{carries}
use Rattle.lq_run_core.specs.Measure.{is_held, serves, ServesOpen, seat_way, measure}
use Rattle.lq_run_core.specs.Progress.{step_cost, start_cost, control_cost, cost_of}
use Rattle.lq_run_core.proofs.Tests.{or-first, and-false, not-true, none-anywhere, sum-moved}
use Rattle.lq_run_core.proofs.OneSeat.{Falls, is_free_holder, load, step-costs, start-costs, control-costs}
use Rattle.lq_run_core.proofs.Others.{Grows, way-more, way-free, takes-or-grows}

-- where the holder has nothing in hand, what is served is held
free-held : (n : Machine) (i : ℕ) → i < length n.seats → OneHolder n → is_free_holder (seat_at n i).position ≡ true → serves n ≡ true
    → is_held n.qdisc.slot n.qdisc.bands ≡ true
free-held n i within one free h = or-first _ _ (none-anywhere (λ s. holds_lock s.position && carries s.position) n.seats each) h
  where
    parts : (holds_lock (seat_at n i).position ≡ true) × (not (carries (seat_at n i).position) ≡ true)
    parts = and-true _ _ free

    at : (j : ℕ) → (j ≡ i) ⊎ (j ≢ i) → (holds_lock (seat_at n j).position && carries (seat_at n j).position) ≡ false
    at j (inl same) = rw same (let empty = not-true _ parts.1 in grind arith)
    at j (inr other) = and-false _ _ (only-holder n i j one within parts.0 other)

    each : (j : ℕ) → (holds_lock (seat_at n j).position && carries (seat_at n j).position) ≡ false
    each j = at j (cases_eq j i)

-- what one seat does brings the machine nearer
pub one-nearer : (m : Machine) (i : ℕ) (a : After) (cost : ℕ) → i < length m.seats → OneHolder m → OneHolder (with_seat m i a) → serves (with_seat m i a) ≡ true
    → Falls cost m.qdisc (seat_at m i) (seat_at m i).position a → (holds_lock (seat_at m i).position ≡ true) ⊎ Grows m.qdisc a.qdisc
    → measure (with_seat m i a) < measure m + cost
one-nearer m i a cost within one after served falls takes =
    let now : load a.qdisc.slot a.qdisc.bands a.seat < load m.qdisc.slot m.qdisc.bands (seat_at m i) + cost = falls waits in
    omega (
      arith,
      now,
      sum_by-set (λ (s : Seat). bit (carries s.position)) m.seats i a.seat idle_seat within,
      sum-moved (λ s. seat_way m.qdisc.slot m.qdisc.bands s) (λ s. seat_way a.qdisc.slot a.qdisc.bands s) m.seats i a.seat within (others takes),
    )
  where
    waits : is_free_holder a.seat.position ≡ true → is_held a.qdisc.slot a.qdisc.bands ≡ true
    waits free =
        free-held (with_seat m i a) i (rw length-set within) after
        (subst (λ (s : Seat). is_free_holder s.position ≡ true) (sym (seat-moved m i a within)) free) served

    others : (holds_lock (seat_at m i).position ≡ true) ⊎ Grows m.qdisc a.qdisc → (j : ℕ) → j ≢ i
        → seat_way a.qdisc.slot a.qdisc.bands (seat_at m j) ≤ seat_way m.qdisc.slot m.qdisc.bands (seat_at m j)
    others (inl holds) j other = omega (arith, way-free m.qdisc a.qdisc (seat_at m j).position (only-holder m i j one within holds other))
    others (inr more) j other = omega (arith, way-more m.qdisc a.qdisc more (seat_at m j).position)

-- THE MOVES

-- the test of a start, whose first part is that the seat is idle
pub begins-idle : (b : Beginning) (s : Seat) → may_begin b s ≡ true → is_idle s.position ≡ true
begins-idle (Transmits p) s may = may
begins-idle Interrupts s may = (and-true _ _ may).0
begins-idle (Wakes queue) s may = may
begins-idle Controls s may = may

control-outcome : (m : Machine) (i : ℕ) (step : ControlStep) → is_control (seat_at m i).position ≡ true → may_control step (is_sole m) (holds_as_control (seat_at m i).position) m.qdisc ≡ true
    → Local (is_sole m) (λ (p : Packet). Unit {0}) m.qdisc (seat_at m i) (seat_at m i).position (control_at step (holds_as_control (seat_at m i).position) m.qdisc (seat_at m i))
control-outcome m i step at may =
    subst (λ (d : Position). Local (is_sole m) (λ (p : Packet). Unit {0}) m.qdisc (seat_at m i) d (control_at step (holds_as_control (seat_at m i).position) m.qdisc (seat_at m i)))
    (sym (at-control (seat_at m i).position at)) (control-leads (is_sole m) (λ (p : Packet). Unit {0}) step (holds_as_control (seat_at m i).position) m.qdisc (seat_at m i) may)

-- a move that is known by its outcome
pub outcome-nearer : (m n : Machine) (i : ℕ) (a : After) (cost : ℕ) (sole : Bool) (free : Packet → Type 0) → OneHolder m → ServesOpen n → n ≡ with_seat m i a → i < length m.seats
    → Local sole free m.qdisc (seat_at m i) (seat_at m i).position a
    → (ServesOpen (with_seat m i a) → Falls cost m.qdisc (seat_at m i) (seat_at m i).position a) → OneHolder n × (measure n < measure m + cost)
outcome-nearer m n i a cost sole free one after is within leads falls =
    let there : ServesOpen (with_seat m i a) = subst ServesOpen is after in
    let kept : OneHolder (with_seat m i a) =
    sum-kept (λ (s : Seat). bit (holds_lock s.position)) m.seats i a.seat (bit m.qdisc.locked) (bit a.qdisc.locked) within (λ rest h. holder-local rest leads h) one in
    subst (λ (k : Machine). OneHolder k × (measure k < measure m + cost)) (sym is)
    (kept, one-nearer m i a cost within one kept there.serves (falls there) (takes-or-grows leads))

pub nearer : (m n : Machine) → OneHolder m → ServesOpen m → (move : Moves m n) → ServesOpen n → OneHolder n × (measure n < measure m + cost_of move)
nearer m n one before move after = go move
  where
    go : (move : Moves m n) → OneHolder n × (measure n < measure m + cost_of move)
    go (steps i answer e) =
        let can = and-true (nat_lt i (length m.seats)) (may_answer (seat_at m i).position answer m.qdisc) (if-some _ _ _ e).0 in
        outcome-nearer m n i (step_at (seat_at m i).position answer m.qdisc (seat_at m i)) (step_cost answer) true (λ (p : Packet). Unit {0}) one after (if-some _ _ _ e).1 (ltb-true _ _ can.0)
        (step-leads true (λ (p : Packet). Unit {0}) (seat_at m i).position answer m.qdisc (seat_at m i) can.1)
        (λ there. step-costs (seat_at m i).position answer m.qdisc (seat_at m i) can.1 before.queues_open there.queues_open)
    go (begins i b free e) =
        let can = and-true (nat_lt i (length m.seats)) (may_begin b (seat_at m i)) (if-some _ _ _ e).0 in
        outcome-nearer m n i (record { qdisc = m.qdisc; seat = begun b (seat_at m i) }) (start_cost b) true (λ (p : Packet). Unit {0}) one after (if-some _ _ _ e).1 (ltb-true _ _ can.0)
        (start-leads true (λ (p : Packet). Unit {0}) b m.qdisc (seat_at m i) can.1 (λ p e. tt))
        (λ there. start-costs b m.qdisc (seat_at m i) (idle-is _ (begins-idle b (seat_at m i) can.1)) can.1)
    go (controls i step e) =
        let can = and-true (nat_lt i (length m.seats) && is_control (seat_at m i).position) (may_control step (is_sole m) (holds_as_control (seat_at m i).position) m.qdisc) (if-some _ _ _ e).0 in
        let at = and-true (nat_lt i (length m.seats)) (is_control (seat_at m i).position) can.0 in
        outcome-nearer m n i (control_at step (holds_as_control (seat_at m i).position) m.qdisc (seat_at m i)) control_cost (is_sole m) (λ (p : Packet). Unit {0}) one after (if-some _ _ _ e).1
        (ltb-true _ _ at.0) (control-outcome m i step at.1 can.1) (λ there. control-costs (control-outcome m i step at.1 can.1) at.1)
