-- Two soft interrupts that can go on for ever: with nothing held, or with a packet behind a stopped queue.
use Rattle.std.specs.Prelude.{◌≡◌, ℕ, true, false, [], ◌∷◌}
use Rattle.lq_model.specs.declared.machine.Call.TheVariants.{SoftInterrupt}
use Rattle.lq_model.specs.declared.machine.Position.TheVariants.{Enter, Deq}
use Rattle.lq_model.specs.Machine.{Machine, first_qdisc}
use Rattle.lq_run_core.specs.Mistakes.{numbered_packet, seat_after, two_seats}
use Rattle.lq_run_core.specs.Progress.{Course, Goes}

-- so many moves lead from m to n, none of control, which cost nothing together; each machine on the way is such a one
pub record GoesFree (P : Machine → Type 0) (m n : Machine) (count : ℕ) : Type 0 where
  pub course : Course
  pub goes : Goes P m course n
  pub moves : course.moves ≡ count
  pub free : course.cost ≡ 0
  pub own : course.with_control ≡ false

-- each has sent a packet; the first has the run lock, with MISSED set for the second, which begins a soft interrupt
abbrev pub chase : Machine
chase = two_seats (record (first_qdisc 8 false 1) { sched = true; missed = true; locked = true; inside = 1; sent = 2 }) (seat_after 0 Deq) (seat_after 0 (Enter SoftInterrupt))

-- the same behind a packet that stopped the queue, with the next one in its band
abbrev pub stopped_chase : Machine
stopped_chase =
    two_seats (record (first_qdisc 8 false 1) { sched = true; missed = true; draining = true; locked = true; xoff = 1 ∷ []; inside = 1; sent = 1; bands = (numbered_packet 1 1 ∷ []) ∷ [] ∷ [] ∷ [] })
    (seat_after 0 Deq) (seat_after 0 (Enter SoftInterrupt))
