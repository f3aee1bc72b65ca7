-- The machine that begins.
use Rattle.std.proofs.Common.{◌≡◌, ℕ, zero, suc, Bool, [], ◌∷◌, refl, ap, arith, Some, None, get_or, sym, ◌∙◌, subst}
use Rattle.std.specs.Prelude.{replicate, Contains}
use Rattle.std.proofs.lemmas.List.Folds.{sum_by-replicate}
use Rattle.lq_model.specs.declared.machine.Packet.{Packet}
use Rattle.lq_model.specs.declared.machine.Position.TheVariants.{Idle, Xmit, BlockedDrain, Deq}
use Rattle.lq_model.specs.declared.machine.Seat.{Seat}
use Rattle.lq_model.specs.Machine.{Machine, bit, idle_seat, seat_at, first_machine}
use Rattle.lq_model.specs.Positions.{ClearBelow, holds_lock, is_inside, marks, looked_below, blocked, own_packet, direct_packet}
use Rattle.lq_model.specs.Kept.{IsKept, IsInductive}

idle-of : (n i : ℕ) → get_or (replicate n idle_seat) i idle_seat ≡ idle_seat
idle-of zero i = refl
idle-of (suc n) zero = refl
idle-of (suc n) (suc i) = idle-of n i

no-band : (k : ℕ) (p : Packet) → Contains (get_or ([] ∷ [] ∷ [] ∷ []) k []) p → ⊥
no-band zero p (x, below, e) = absurd (omega arith)
no-band (suc zero) p (x, below, e) = absurd (omega arith)
no-band (suc (suc zero)) p (x, below, e) = absurd (omega arith)
no-band (suc (suc (suc k))) p (x, below, e) = absurd (omega arith)

first-kept : (seats len : ℕ) (bypass : Bool) (queues : ℕ) → IsKept (first_machine seats len bypass queues)
first-kept seats len bypass queues = record {
  lock_free_missed = λ free missed. absurd cc;
  lock_free_clear = λ free clear. empty;
  lock_free_draining = λ free stuck. absurd (let e = stuck.draining in cc);
  ending_draining = λ i ending stuck. absurd (let e = stuck.draining in cc);
  blocked_draining = λ i b e. absurd (let idle = at i in let d : Idle ≡ BlockedDrain b = sym idle ∙ e in cc);
  looked_clear = λ i band e bits. absurd (let d : None ≡ Some band = sym (ap (looked_below None) (at i)) ∙ e in cc);
  second_scan = λ i e. refl;
  slot_free = λ i e. refl;
  slot_waits = λ i queue e. absurd (let d = sym (ap blocked (at i)) ∙ e in cc);
  one_holder = sum_by-replicate (λ (s : Seat). bit (holds_lock s.position)) seats idle_seat ∙ omega arith;
  calls_inside = sum_by-replicate (λ (s : Seat). bit (is_inside s.position)) seats idle_seat ∙ omega arith;
  one_scheduled = sum_by-replicate marks seats idle_seat ∙ omega arith;
  quiet_inside = λ quiet. absurd cc;
  purged_holds_nothing = λ purged. absurd cc;
}
  where
    m : Machine
    m = first_machine seats len bypass queues

    at : (i : ℕ) → (seat_at (first_machine seats len bypass queues) i).position ≡ Idle
    at i = ap (λ (s : Seat). s.position) (idle-of seats i)

    empty : ClearBelow (first_machine seats len bypass queues) 3
    empty = record { slot = refl; bands = λ k below p h. absurd (no-band k p h) }

pub first-inductive : (seats len : ℕ) (bypass : Bool) (queues : ℕ) → IsInductive (first_machine seats len bypass queues)
first-inductive seats len bypass queues = record {
  kept = first-kept seats len bypass queues;
  deactivation = refl;
  purging = λ u e. absurd cc;
  device_open = λ i p direct e. absurd (let d : Idle ≡ Xmit p direct = sym (at i) ∙ e in cc);
  dequeue_waits = λ i e. absurd (let d : Idle ≡ Deq = sym (at i) ∙ e in cc);
  owners_differ = λ i j p r other e f. absurd (let d : None ≡ Some p = sym (ap own_packet (at i)) ∙ e in cc);
  direct_alone = λ i p r e held. absurd (let d : None ≡ Some p = sym (ap direct_packet (at i)) ∙ e in cc);
}
  where
    at : (i : ℕ) → (seat_at (first_machine seats len bypass queues) i).position ≡ Idle
    at i = ap (λ (s : Seat). s.position) (idle-of seats i)

-- its seats remember no packet
pub first-owners : (seats len : ℕ) (bypass : Bool) (queues i : ℕ) (p : Packet) → own_packet (seat_at (first_machine seats len bypass queues) i).position ≡ Some p → p.owner ≡ i
first-owners seats len bypass queues i p e =
    absurd (let d : None ≡ Some p = sym (ap (λ (s : Seat). own_packet s.position) (idle-of seats i)) ∙ e in cc)
