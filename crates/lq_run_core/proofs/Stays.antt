-- After a mistake the number has become less, and nobody comes.
use Rattle.std.proofs.Common.{◌≡◌, ℕ, zero, suc, ◌+◌, Bool, true, false, inl, inr, List, [], ◌∷◌, length, refl, ap, sym, subst, arith}
use Rattle.std.specs.Prelude.{◌==◌, slice_index}
use Rattle.lq_model.specs.declared.machine.Attempt.{Attempt}
use Rattle.lq_model.specs.declared.machine.Attempt.TheVariants.{Queued, Direct, Interrupt}
use Rattle.lq_model.specs.declared.machine.Blocked.{Blocked}
use Rattle.lq_model.specs.declared.machine.Packet.{Packet}
use Rattle.lq_model.specs.declared.machine.Position.{Position}
use Rattle.lq_model.specs.declared.machine.Position.TheVariants.{Idle, Miss, BlockedLoad, Unlock, SoftClear}
use Rattle.lq_model.specs.declared.machine.Seat.{Seat}
use Rattle.lq_model.specs.Machine.{Qdisc, bit, seat_at}
use Rattle.lq_model.specs.Positions.{Holds, holds_lock}
use Rattle.lq_model.specs.Kept.{OneHolder}
use Rattle.lq_model.specs.Steps.{After, with_seat}
use Rattle.lq_run_laws.proofs.Counts.{sum-kept}
use Rattle.lq_run_core.specs.Mistakes.{both_idle, clears_after_its_look, clears_and_leaves, drains_without_a_look, misses_for_good, releases_after_its_look}
use Rattle.lq_run_core.specs.Stays.{ComesNearer, NobodyComes}
use Rattle.lq_run_core.proofs.Tests.{bit-below}
use Rattle.lq_run_core.proofs.OneSeat.{Falls}
use Rattle.lq_run_core.proofs.Others.{Grows}
use Rattle.lq_run_core.proofs.Nearer.{one-nearer}
use Rattle.lq_run_core.proofs.Comes.{idle-stays, no-control}
use Rattle.lq_run_core.proofs.OneQueue.{one-open}

-- NOBODY COMES

-- both seats are idle and not raised, and the one queue is open
pub nobody-comes : (q : Qdisc) (run : ℕ) (p : Packet) → q.deactivated ≡ false → q.xoff ≡ 0 ∷ [] → Holds (both_idle q run) p → NobodyComes (both_idle q run) p
nobody-comes q run p active opens held = record {
  active = active;
  waits = record {
    waits = inl held;
    queues_open = λ queue. one-open q queue (ap length opens) (ap (λ (xoff : List ℕ). slice_index xoff 0 == 0) opens);
  };
  nobody = idle-stays (both_idle q run) idle calm;
  no_control = no-control (both_idle q run) idle;
}
  where
    idle : (i : ℕ) → (seat_at (both_idle q run) i).position ≡ Idle
    idle zero = refl
    idle (suc zero) = refl
    idle (suc (suc i)) = refl

    calm : (i : ℕ) → (seat_at (both_idle q run) i).raised ≡ false
    calm zero = refl
    calm (suc zero) = refl
    calm (suc (suc i)) = refl

-- THE NUMBER

-- a step that leaves the requeue slot and the bands as they are, and keeps the count of holders
nearer-by : (position : Position) (step : Qdisc → Seat → After) (more : ℕ)
    → ((q : Qdisc) (s : Seat) → Falls more q s position (step q s))
    → ((q : Qdisc) (s : Seat) → Grows q (step q s).qdisc)
    → ((q : Qdisc) (s : Seat) (rest : ℕ) → bit (holds_lock position) + rest ≡ bit q.locked → bit (holds_lock (step q s).seat.position) + rest ≡ bit (step q s).qdisc.locked)
    → ComesNearer position step more
nearer-by position step more falls grows holds m i one within at served =
    one-nearer m i (step m.qdisc (seat_at m i)) more within one kept served.serves
    (subst (λ (d : Position). Falls more m.qdisc (seat_at m i) d (step m.qdisc (seat_at m i))) (sym at) (falls m.qdisc (seat_at m i)))
    (inr (grows m.qdisc (seat_at m i)))
  where
    kept : OneHolder (with_seat m i (step m.qdisc (seat_at m i)))
    kept =
        sum-kept (λ (s : Seat). bit (holds_lock s.position)) m.seats i (step m.qdisc (seat_at m i)).seat (bit m.qdisc.locked) (bit (step m.qdisc (seat_at m i)).qdisc.locked) within
        (λ rest h. holds m.qdisc (seat_at m i) rest (subst (λ (d : Position). bit (holds_lock d) + rest ≡ bit m.qdisc.locked) at h)) one

same-lists : (q q' : Qdisc) → q'.slot ≡ q.slot → q'.bands ≡ q.bands → Grows q q'
same-lists q q' slot bands = record { slot = λ e. rw slot e; bands = λ k e. rw bands e }

pub end-looks-nearer : (found : Bool) → ComesNearer Unlock (releases_after_its_look found) 0
end-looks-nearer true =
    nearer-by Unlock (releases_after_its_look true) 0 (λ q s h. omega arith) (λ q s. same-lists q _ refl refl) (λ q s rest h. omega (arith, h, bit-below q.locked))
end-looks-nearer false =
    nearer-by Unlock (releases_after_its_look false) 0 (λ q s h. omega arith) (λ q s. same-lists q _ refl refl) (λ q s rest h. omega (arith, h, bit-below q.locked))

pub one-try-nearer : (attempt : Attempt) → ComesNearer (Miss attempt) (misses_for_good attempt) 0
one-try-nearer (Queued p) = nearer-by (Miss (Queued p)) (misses_for_good (Queued p)) 0 (λ q s h. omega arith) (λ q s. same-lists q _ refl refl) (λ q s rest h. h)
one-try-nearer (Direct p) = nearer-by (Miss (Direct p)) (misses_for_good (Direct p)) 0 (λ q s h. omega arith) (λ q s. same-lists q _ refl refl) (λ q s rest h. h)
one-try-nearer Interrupt = nearer-by (Miss Interrupt) (misses_for_good Interrupt) 0 (λ q s h. omega arith) (λ q s. same-lists q _ refl refl) (λ q s rest h. h)

pub cleared-nearer : ComesNearer Unlock clears_after_its_look 1
cleared-nearer = nearer-by Unlock clears_after_its_look 1 (λ q s h. omega arith) (λ q s. same-lists q _ refl refl) (λ q s rest h. h)

pub draining-nearer : (b : Blocked) → ComesNearer (BlockedLoad b) (drains_without_a_look b) 0
draining-nearer b = nearer-by (BlockedLoad b) (drains_without_a_look b) 0 (λ q s h. omega arith) (λ q s. same-lists q _ refl refl) (λ q s rest h. h)

pub interrupt-nearer : ComesNearer (SoftClear true) clears_and_leaves 0
interrupt-nearer = nearer-by (SoftClear true) clears_and_leaves 0 (λ q s h. omega arith) (λ q s. same-lists q _ refl refl) (λ q s rest h. h)
