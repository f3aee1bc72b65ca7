-- Steps with a mistake, each of which leaves a packet behind, and the machines in which they do.
use Rattle.std.specs.Prelude.{ℕ, Bool, true, false, if◌then◌else◌, [], ◌∷◌, Some}
use Rattle.lq_model.specs.declared.machine.Attempt.{Attempt}
use Rattle.lq_model.specs.declared.machine.Attempt.TheVariants.{Queued}
use Rattle.lq_model.specs.declared.machine.Blocked.{Blocked}
use Rattle.lq_model.specs.declared.machine.Blocked.TheVariants.{NoneTaken}
use Rattle.lq_model.specs.declared.machine.Packet.{Packet}
use Rattle.lq_model.specs.declared.machine.Position.{Position}
use Rattle.lq_model.specs.declared.machine.Position.TheVariants.{Idle, Miss, BlockedLoad, BlockedDrain, Unlock, Sched, Leave, SoftClear}
use Rattle.lq_model.specs.declared.machine.Seat.{Seat}
use Rattle.lq_model.specs.Positions.{Holds}
use Rattle.lq_model.specs.Kept.{IsInductive}
use Rattle.lq_model.specs.Quiet.{IsQuiet, Reaches}
use Rattle.lq_model.specs.Machine.{Machine, Qdisc, first_machine, first_qdisc, seat_at}
use Rattle.lq_model.specs.Steps.{After, gives_up, goes_to, with_seat}

-- MISTAKES, each as what its step leaves

-- run end looks at MISSED before it releases the run lock, and goes on by what it found there
abbrev pub releases_after_its_look : Bool → Qdisc → Seat → After
releases_after_its_look found q s = goes_to (record q { locked = false }) s (if found then Sched true else Leave)

-- run begin sets MISSED and doesn't try the run lock again
abbrev pub misses_for_good : Attempt → Qdisc → Seat → After
misses_for_good attempt q s = goes_to (record q { missed = true }) s (gives_up attempt)

-- MISSED is cleared after the second look at the bands
abbrev pub clears_after_its_look : Qdisc → Seat → After
clears_after_its_look q s = goes_to (record q { missed = false }) s Unlock

-- DRAINING is to be set with no second load of the stop word
abbrev pub drains_without_a_look : Blocked → Qdisc → Seat → After
drains_without_a_look b q s = goes_to q s (BlockedDrain b)

-- a soft interrupt that found DEACTIVATED clears SCHED and leaves
abbrev pub clears_and_leaves : Qdisc → Seat → After
clears_and_leaves q s = goes_to (record q { sched = false }) s Leave

-- WHAT A MISTAKE LEADS TO

-- the machine after this step of this seat
abbrev pub after_step : Machine → ℕ → (Qdisc → Seat → After) → Machine
after_step m i step = with_seat m i (step m.qdisc (seat_at m i))

-- From a machine that keeps the invariant, since two seats come to it from the start, the mistake leads to one that breaks this
-- sentence; and from there the steps of the seats lead on to a quiet machine that holds a packet.
pub record LeavesBehind (before now : Machine) (sentence : Machine → Type 0) (end : Machine) (p : Packet) : Type 0 where
  pub reached : Reaches (first_machine 2 2 false 1) before
  pub kept : IsInductive before
  pub broken : sentence now → ⊥
  pub goes_on : Reaches now end
  pub quiet : IsQuiet end
  pub holds : Holds end p

-- MACHINES of two seats, with rings of two slots, no way past the bands and one queue

-- a packet of band 0, with its number and owner
abbrev pub numbered_packet : ℕ → ℕ → Packet
numbered_packet number owner = record { number = number; owner = owner; band = 0; queue = 0 }

abbrev pub first_words : Qdisc
first_words = first_qdisc 2 false 1

-- a seat that sent so many packets in its last run
abbrev pub seat_after : ℕ → Position → Seat
seat_after run position = record { position = position; raised = false; run = run }

abbrev pub two_seats : Qdisc → Seat → Seat → Machine
two_seats q s t = record { qdisc = q; seats = s ∷ t ∷ [] }

-- the holder is about to release, and looks at MISSED
abbrev pub about_to_release : Machine
about_to_release = two_seats (record first_words { locked = true; inside = 1; sent = 1 }) (seat_after 1 Unlock) (seat_after 0 Idle)

-- since then the other seat put a packet, set MISSED, and found the run lock held again
abbrev pub missed_meanwhile : Machine
missed_meanwhile = two_seats (record first_words { locked = true; missed = true; inside = 2; sent = 1; bands = (numbered_packet 1 1 ∷ []) ∷ [] ∷ [] ∷ [] })
    (seat_after 1 Unlock) (seat_after 0 Leave)

-- a seat that found the run lock held is about to set MISSED, and the holder has left
abbrev pub about_to_miss : Machine
about_to_miss = two_seats (record first_words { inside = 1; sent = 1; bands = (numbered_packet 1 1 ∷ []) ∷ [] ∷ [] ∷ [] })
    (seat_after 1 Idle) (seat_after 0 (Miss (Queued (numbered_packet 1 1))))

-- the holder has looked at the bands again; since then the other seat put a packet and set MISSED
abbrev pub looked_again : Machine
looked_again = two_seats (record first_words { locked = true; missed = true; inside = 2; sent = 2; bands = (numbered_packet 2 1 ∷ []) ∷ [] ∷ [] ∷ [] })
    (seat_after 2 Unlock) (seat_after 0 Leave)

-- the holder found the queue stopped and cleared MISSED; before that the other seat opened the queue, put a packet, and found MISSED
-- set
abbrev pub about_to_look : Machine
about_to_look = two_seats (record first_words { locked = true; inside = 2; sent = 1; bands = (numbered_packet 1 1 ∷ []) ∷ [] ∷ [] ∷ [] })
    (seat_after 1 (BlockedLoad (NoneTaken 0))) (seat_after 0 Leave)

-- a soft interrupt found DEACTIVATED; the station was activated since, and a transmit laid its packet back and found SCHED set
abbrev pub found_deactivated : Machine
found_deactivated = two_seats (record first_words { sched = true; missed = true; inside = 1; sent = 1; slot = Some (numbered_packet 1 0) })
    (seat_after 0 Idle) (seat_after 0 (SoftClear true))

-- in the end both seats are idle
abbrev pub both_idle : Qdisc → ℕ → Machine
both_idle q run = two_seats q (seat_after run Idle) (seat_after 0 Idle)

-- a packet is in its band: with MISSED set, with no bit set, and with DRAINING set
abbrev pub left_missed : Machine
left_missed = both_idle (record first_words { missed = true; sent = 1; bands = (numbered_packet 1 1 ∷ []) ∷ [] ∷ [] ∷ [] }) 1

abbrev pub left_clear : Machine
left_clear = both_idle (record first_words { sent = 2; bands = (numbered_packet 2 1 ∷ []) ∷ [] ∷ [] ∷ [] }) 2

abbrev pub left_draining : Machine
left_draining = both_idle (record first_words { draining = true; sent = 1; bands = (numbered_packet 1 1 ∷ []) ∷ [] ∷ [] ∷ [] }) 1

-- a packet is in the requeue slot, with MISSED set
abbrev pub left_in_slot : Machine
left_in_slot = both_idle (record first_words { missed = true; sent = 1; slot = Some (numbered_packet 1 0) }) 0
