-- A free lock with MISSED set is never forgotten.
use Rattle.std.proofs.Common.{◌≡◌, Bool, true, false, refl, arith}
use Rattle.std.specs.Prelude.{◌||◌}
use Rattle.lq_model.specs.declared.machine.Packet.{Packet}
use Rattle.lq_model.specs.declared.machine.Position.{Position}
use Rattle.lq_model.specs.declared.machine.Seat.{Seat}
use Rattle.lq_model.specs.Machine.{Qdisc, Machine}
use Rattle.lq_model.specs.Steps.{After}
use Rattle.lq_model.specs.Control.{is_purged_phase}
use Rattle.lq_model.specs.declared.machine.Phase.{Phase}
use Rattle.lq_model.specs.declared.machine.Phase.TheVariants.{Purged}
use Rattle.lq_model.specs.Positions.{holds_lock, is_going}
use Rattle.lq_model.specs.Kept.{IsInductive, LockFreeMissed}
use Rattle.lq_run_laws.proofs.Frames.{any-kept, holder-locks}
use Rattle.lq_run_laws.proofs.LocalSteps.{Moved}
use Rattle.lq_run_laws.proofs.Local.{Local}
use Rattle.lq_run_laws.proofs.Local.Local.{activates, check_direct, check_put, check_refused, deactivates, gets_lock, late_leaves, late_tries, miss_set_direct, miss_set_interrupt, miss_set_queued, miss_sets, post_clear, recheck_clear, releases, sched_set_inside, sched_set_outside, sched_sets_inside, sched_sets_outside, soft_active, soft_deactivated, stores_open, tail_inside, tail_outside, test_clear, try1_direct, try1_held, try1_interrupt_bands, try1_interrupt_word, try1_queued_bands, try1_queued_word, try2_direct, try2_held_direct, try2_held_interrupt, try2_held_queued, try2_interrupt_bands, try2_interrupt_word, try2_queued_bands, try2_queued_word}

-- with the lock free and MISSED set there is evidence that somebody comes; g: some seat is on its way
abbrev pub HasEvidence : Qdisc → Bool → Type 0
HasEvidence q g = q.locked ≡ false → q.missed ≡ true → (q.sched || q.deactivated || g) ≡ true

pub going-local :
    {sole : Bool} {free : Packet → Type 0} {q : Qdisc} {s : Seat} {position : Position} {a : After} (rest : Bool)
    → Local sole free q s position a → (holds_lock position ≡ true → q.locked ≡ true) → (is_purged_phase q.phase ≡ true → q.missed ≡ false)
    → HasEvidence q (is_going position || rest) → HasEvidence a.qdisc (is_going a.seat.position || rest)
going-local rest (check_refused p h1) held purged kept unlocked missed = grind arith
going-local rest (check_direct p h1) held purged kept unlocked missed = grind arith
going-local rest (check_put p h1) held purged kept unlocked missed = grind arith
going-local rest (try1_held attempt h1) held purged kept unlocked missed = grind arith
going-local rest (try1_direct p h1) held purged kept unlocked missed = grind arith
going-local rest (try1_queued_word p run h1 h2) held purged kept unlocked missed = grind arith
going-local rest (try1_queued_bands p run h1 h2) held purged kept unlocked missed = grind arith
going-local rest (try1_interrupt_word run h1 h2) held purged kept unlocked missed = grind arith
going-local rest (try1_interrupt_bands run h1 h2) held purged kept unlocked missed = grind arith
going-local rest (miss_set_direct p h1) held purged kept unlocked missed = grind arith
going-local rest (miss_set_queued p h1) held purged kept unlocked missed = grind arith
going-local rest (miss_set_interrupt h1) held purged kept unlocked missed = grind arith
going-local rest (miss_sets attempt h1) held purged kept unlocked missed = grind arith
going-local rest (try2_held_direct p h1) held purged kept unlocked missed = grind arith
going-local rest (try2_held_queued p h1) held purged kept unlocked missed = grind arith
going-local rest (try2_held_interrupt h1) held purged kept unlocked missed = grind arith
going-local rest (try2_direct p h1) held purged kept unlocked missed = grind arith
going-local rest (try2_queued_word p run h1 h2) held purged kept unlocked missed = grind arith
going-local rest (try2_queued_bands p run h1 h2) held purged kept unlocked missed = grind arith
going-local rest (try2_interrupt_word run h1 h2) held purged kept unlocked missed = grind arith
going-local rest (try2_interrupt_bands run h1 h2) held purged kept unlocked missed = grind arith
going-local rest (recheck_clear p h1 h2) held purged kept unlocked missed = grind arith
going-local rest (post_clear h1 h2) held purged kept unlocked missed = grind arith
going-local rest (test_clear h1 h2) held purged kept unlocked missed = grind arith
going-local rest (tail_inside h1) held purged kept unlocked missed = grind arith
going-local rest (tail_outside h1) held purged kept unlocked missed = grind arith
going-local rest (sched_set_inside h1) held purged kept unlocked missed = grind arith
going-local rest (sched_set_outside h1) held purged kept unlocked missed = grind arith
going-local rest (sched_sets_inside h1) held purged kept unlocked missed = grind arith
going-local rest (sched_sets_outside h1) held purged kept unlocked missed = grind arith
going-local rest (soft_deactivated h1) held purged kept unlocked missed = grind arith
going-local rest (soft_active h1) held purged kept unlocked missed = grind arith
going-local rest (late_leaves h1) held purged kept unlocked missed = grind arith
going-local rest (late_tries h1) held purged kept unlocked missed = grind arith
going-local rest (gets_lock h1) held purged kept unlocked missed = grind arith
going-local rest (releases h1 h2) held purged kept unlocked missed = grind arith
going-local rest (deactivates holds h1 h2) held purged kept unlocked missed = grind arith
going-local rest (activates h1 h2) held purged kept unlocked missed = grind arith
going-local rest (stores_open queue h1 h2) held purged kept unlocked missed = grind arith
going-local rest _ held purged kept unlocked missed = grind arith

pub purged-is : (phase : Phase) → is_purged_phase phase ≡ true → phase ≡ Purged
purged-is Purged e = refl
purged-is _ e = cc

pub lock-free-missed : (m n : Machine) → IsInductive m → Moved m n → LockFreeMissed n
lock-free-missed m n ind move =
    rw move.is
    (any-kept (λ s. is_going s.position) (HasEvidence m.qdisc) (HasEvidence move.after.qdisc) m.seats move.i move.after.seat move.inside
    (λ rest h. going-local rest move.leads (holder-locks m move.i ind.kept.one_holder) purged h) ind.kept.lock_free_missed)
  where
    purged : is_purged_phase m.qdisc.phase ≡ true → m.qdisc.missed ≡ false
    purged e = (ind.kept.purged_holds_nothing (purged-is m.qdisc.phase e)).0.missed
