-- A free run lock with DRAINING alone: nothing is exposed, unless there is a way on.
use Rattle.std.proofs.Common.{◌≡◌, Bool, true, false, refl, sym, ◌∙◌, subst}
use Rattle.std.proofs.lemmas.Bool.{both_ways, false_from_ne_true}
use Rattle.lq_model.specs.Machine.{Machine, seat_at}
use Rattle.lq_model.specs.Steps.{with_seat}
use Rattle.lq_model.specs.Control.{is_purged_phase}
use Rattle.lq_model.specs.Positions.{holds_lock}
use Rattle.lq_model.specs.Kept.{IsInductive, LockFreeDraining}
use Rattle.lq_model.specs.Quiet.{Moves}
use Rattle.lq_run_laws.proofs.LocalSteps.{Moved, moved}
use Rattle.lq_run_laws.proofs.Frames.{holder-locks}
use Rattle.lq_run_laws.proofs.Beside.{beside, stays-locked}
use Rattle.lq_run_laws.proofs.Way.{keeps-beside}
use Rattle.lq_run_laws.proofs.Stuck.{Drains, drains-on, purged-clear, releases}

pub lock-free-draining : (m n : Machine) → IsInductive m → Moves m n → LockFreeDraining n
lock-free-draining m n h moves = subst LockFreeDraining (sym t.is) (λ unlocked. step unlocked (holds_lock (seat_at m t.i).position) refl)
  where
    t : Moved m n
    t = moved m n moves

    step : t.after.qdisc.locked ≡ false → (b : Bool) → holds_lock (seat_at m t.i).position ≡ b → Drains (with_seat m t.i t.after)
    step unlocked true holds =
        let released = releases t.leads holds (holder-locks m t.i h.kept.one_holder holds) unlocked in
        drains-on m t.i t.after t.inside released.1 (h.kept.ending_draining t.i released.0)
    step unlocked false out = λ stuck.
        let free : m.qdisc.locked ≡ false = false_from_ne_true _ (λ locked. both_ways _ unlocked (stays-locked t.leads out locked)) in
        let leaves = beside t.leads out (unlocked ∙ sym free) in
        let active : is_purged_phase m.qdisc.phase ≡ false = false_from_ne_true _ (λ purged. both_ways _ (leaves.draining ∙ purged-clear m h purged) stuck.draining) in
        drains-on m t.i t.after t.inside (record { beside = leaves; way = keeps-beside t.leads out (unlocked ∙ sym free) active }) (h.kept.lock_free_draining free) stuck
