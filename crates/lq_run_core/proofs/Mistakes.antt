-- Steps with a mistake leave a packet behind: the actions of two seats before them and behind them.
use Rattle.std.proofs.Common.{◌≡◌, ℕ, zero, suc, true, false, List, [], ◌∷◌, ◌++◌, length, map, Contains, refl, sym, ap, subst, arith, inl, inr}
use Rattle.std.specs.Prelude.{◌==◌, replicate, slice_index, slice_index_or}
use Rattle.lq_model.specs.declared.machine.Answer.TheVariants.{Plain, Stop, Busy}
use Rattle.lq_model.specs.declared.machine.Beginning.TheVariants.{Transmits, Interrupts, Wakes, Controls}
use Rattle.lq_model.specs.declared.machine.Blocked.TheVariants.{NoneTaken}
use Rattle.lq_model.specs.declared.machine.ControlStep.TheVariants.{Return, GetLock, Release, SetDeactivated, ClearDeactivated, LoadInside, PurgeSlot, PurgeBand, PurgeMissed, PurgeDraining}
use Rattle.lq_model.specs.declared.machine.Attempt.TheVariants.{Queued}
use Rattle.lq_model.specs.declared.machine.Packet.{Packet}
use Rattle.lq_model.specs.Positions.{Holds, IsHidden}
use Rattle.lq_model.specs.Kept.{BlockedDraining, IsInductive, LockFreeMissed, LookedClear}
use Rattle.lq_model.specs.Quiet.{IsQuiet, Reaches}
use Rattle.lq_model.specs.Machine.{Machine, Qdisc, first_machine, seat_at}
use Rattle.lq_model.specs.Steps.{is_idle}
use Rattle.lq_run_core.specs.Mistakes.{LeavesBehind, after_step, about_to_look, both_idle, clears_and_leaves, clears_after_its_look, drains_without_a_look, found_deactivated, left_clear, left_draining, left_in_slot, left_missed, missed_meanwhile, looked_again, about_to_release, misses_for_good, about_to_miss, numbered_packet, releases_after_its_look}
use Rattle.lq_run_laws.proofs.First.{first-inductive}
use Rattle.lq_run_core.proofs.OneQueue.{one-open}
use Rattle.lq_run_core.proofs.Reached.{Action, played, reached-inductive}
use Rattle.lq_run_core.proofs.Reached.Action.{Does, Starts, DoesControl}

abbrev start : Machine
start = first_machine 2 2 false 1

-- so many steps of a seat
abbrev steps : ℕ → ℕ → List Action
steps i count = replicate count (Does i Plain)

abbrev sends : ℕ → ℕ → List Action
sends i number = Starts i (Transmits (numbered_packet number i)) ∷ []

kept : (m : Machine) → Reaches start m → IsInductive m
kept m reached = reached-inductive start m (first-inductive 2 2 false 1) reached

-- both seats are idle, and the one queue is open
rests : (q : Qdisc) (run : ℕ) → q.locked ≡ false → q.sched ≡ false → q.deactivated ≡ false → q.xoff ≡ 0 ∷ [] → IsQuiet (both_idle q run)
rests q run free calm active opens = record {
  unlocked = free;
  unscheduled = calm;
  active = active;
  queues_open = λ queue. one-open q queue (ap length opens) (ap (λ (xoff : List ℕ). slice_index xoff 0 == 0) opens);
  all_idle = idle;
}
  where
    idle : (i : ℕ) → is_idle (seat_at (both_idle q run) i).position ≡ true
    idle zero = refl
    idle (suc zero) = refl
    idle (suc (suc i)) = refl

-- the first packet of band 0
in-band : (q : Qdisc) (run number owner : ℕ) → q.bands ≡ (numbered_packet number owner ∷ []) ∷ [] ∷ [] ∷ [] → Holds (both_idle q run) (numbered_packet number owner)
in-band q run number owner is = inr (0, (omega arith, subst (λ (bands : List (List Packet)). Contains (slice_index_or bands 0 []) (numbered_packet number owner)) (sym is) (0, omega arith, refl)))

-- RUN END AND RUN BEGIN

-- the other seat puts a packet, and sets MISSED for it
pub between : Reaches about_to_release missed_meanwhile
between = played about_to_release missed_meanwhile (sends 1 1 ++ steps 1 6) refl

looked-reached : Reaches start missed_meanwhile
looked-reached = played start missed_meanwhile (sends 0 0 ++ (steps 0 13 ++ (sends 1 1 ++ steps 1 6))) refl

pub end-looks : LeavesBehind missed_meanwhile (after_step missed_meanwhile 0 (releases_after_its_look about_to_release.qdisc.missed)) LockFreeMissed
    left_missed (numbered_packet 1 1)
end-looks = record {
  reached = looked-reached;
  kept = kept missed_meanwhile looked-reached;
  broken = λ h. absurd (let b : false ≡ true = h refl refl in cc);
  goes_on = played _ left_missed (steps 0 1 ++ steps 1 1) refl;
  quiet = rests left_missed.qdisc 1 refl refl refl refl;
  holds = in-band left_missed.qdisc 1 1 1 refl;
}

missing-reached : Reaches start about_to_miss
missing-reached = played start about_to_miss (sends 0 0 ++ (steps 0 13 ++ (sends 1 1 ++ (steps 1 4 ++ steps 0 3)))) refl

pub begin-gives-up : LeavesBehind about_to_miss (after_step about_to_miss 1 (misses_for_good (Queued (numbered_packet 1 1)))) LockFreeMissed
    left_missed (numbered_packet 1 1)
begin-gives-up = record {
  reached = missing-reached;
  kept = kept about_to_miss missing-reached;
  broken = λ h. absurd (let b : false ≡ true = h refl refl in cc);
  goes_on = played _ left_missed (steps 1 1) refl;
  quiet = rests left_missed.qdisc 1 refl refl refl refl;
  holds = in-band left_missed.qdisc 1 1 1 refl;
}

-- MISSED AND DRAINING

looked-again-reached : Reaches start looked_again
looked-again-reached = played start looked_again (sends 0 0 ++ (steps 0 4 ++ (sends 1 1 ++ (steps 1 7 ++ (steps 0 18 ++ (sends 1 2 ++ steps 1 6)))))) refl

pub missed-cleared : LeavesBehind looked_again (after_step looked_again 0 clears_after_its_look) LookedClear
    left_clear (numbered_packet 2 1)
missed-cleared = record {
  reached = looked-again-reached;
  kept = kept looked_again looked-again-reached;
  broken = λ h. shown ((h 0 3 refl (record { missed = refl; draining = refl })).bands 0 (omega arith) (numbered_packet 2 1) (0, omega arith, refl));
  goes_on = played _ left_clear (steps 0 3 ++ steps 1 1) refl;
  quiet = rests left_clear.qdisc 2 refl refl refl refl;
  holds = in-band left_clear.qdisc 2 2 1 refl;
}
  where
    shown : IsHidden (after_step looked_again 0 clears_after_its_look) (numbered_packet 2 1) → ⊥
    shown (zero, e) = cc
    shown (suc zero, e) = cc
    shown (suc (suc i), e) = cc

-- the first seat's packet stops the queue, and the dequeue after it finds it stopped; the other seat opens it, tries to run,
-- and sends a packet
about-to-look-reached : Reaches start about_to_look
about-to-look-reached = played start about_to_look
    (sends 0 0 ++ (steps 0 7 ++ (Does 0 Stop ∷ (steps 0 2 ++ (Starts 1 (Wakes 0) ∷ (steps 1 2 ++ (Starts 1 Interrupts ∷ (steps 1 7 ++ (sends 1 1 ++ (steps 1 5 ++ steps 0 1)))))))))) refl

pub draining-set : LeavesBehind about_to_look (after_step about_to_look 0 (drains_without_a_look (NoneTaken 0))) BlockedDraining
    left_draining (numbered_packet 1 1)
draining-set = record {
  reached = about-to-look-reached;
  kept = kept about_to_look about-to-look-reached;
  broken = λ h. absurd (let b : false ≡ true = h 0 (NoneTaken 0) refl in cc);
  goes_on = played _ left_draining (steps 0 4 ++ steps 1 1) refl;
  quiet = rests left_draining.qdisc 1 refl refl refl refl;
  holds = in-band left_draining.qdisc 1 1 1 refl;
}

-- THE SOFT INTERRUPT

-- the first seat's packet stops the queue; the other seat opens it; the first deactivates the station and purges
deactivated : List Action
deactivated =
    sends 0 0 ++ (steps 0 7 ++ (Does 0 Stop ∷ (steps 0 1 ++ (Starts 1 (Wakes 0) ∷ (steps 1 1 ++ (steps 0 8 ++ (Starts 0 Controls
    ∷ map (DoesControl 0) (SetDeactivated ∷ LoadInside ∷ GetLock ∷ PurgeSlot ∷ PurgeBand ∷ PurgeBand ∷ PurgeBand ∷ PurgeMissed ∷ PurgeDraining ∷ Release ∷ []))))))))

-- the other schedules and finds DEACTIVATED; the first activates and sends a packet, for which the device is busy
found : List Action
found = steps 1 1 ++ (Starts 1 Interrupts ∷ (steps 1 2 ++ (DoesControl 0 ClearDeactivated ∷ (DoesControl 0 Return ∷ (sends 0 1 ++ (steps 0 7 ++ (Does 0 Busy ∷ steps 0 5)))))))

found-reached : Reaches start found_deactivated
unfolding deactivated found
found-reached = played start found_deactivated (deactivated ++ found) refl

pub soft-interrupt-gives-up : LeavesBehind found_deactivated (after_step found_deactivated 1 clears_and_leaves) LockFreeMissed
    left_in_slot (numbered_packet 1 0)
soft-interrupt-gives-up = record {
  reached = found-reached;
  kept = kept found_deactivated found-reached;
  broken = λ h. absurd (let b : false ≡ true = h refl refl in cc);
  goes_on = played _ left_in_slot (steps 1 1) refl;
  quiet = rests left_in_slot.qdisc 0 refl refl refl refl;
  holds = inl refl;
}
