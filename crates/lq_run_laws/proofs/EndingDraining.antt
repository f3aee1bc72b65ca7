-- Where the holder is about to release the run lock with DRAINING alone, nothing is exposed, unless there is a way on.
use Rattle.std.proofs.Common.{◌≡◌, ◌≢◌, ℕ, Bool, true, false, Option, refl, sym, ◌∙◌, subst}
use Rattle.std.specs.Prelude.{◌||◌}
use Rattle.std.proofs.lemmas.Bool.{both_ways, false_from_ne_true}
use Rattle.lq_model.specs.declared.machine.Position.{Position}
use Rattle.lq_model.specs.declared.machine.Position.TheVariants.{Unlock, Control}
use Rattle.lq_model.specs.Machine.{Machine, Purge, seat_at}
use Rattle.lq_model.specs.Steps.{with_seat}
use Rattle.lq_model.specs.Control.{is_purged_phase}
use Rattle.lq_model.specs.Positions.{holds_lock, is_ending}
use Rattle.lq_model.specs.Kept.{IsInductive, EndingDraining}
use Rattle.lq_model.specs.Quiet.{Moves}
use Rattle.lq_run_laws.proofs.LocalSteps.{Moved, moved}
use Rattle.lq_run_laws.proofs.Frames.{each-seat}
use Rattle.lq_run_laws.proofs.Rely.{rely}
use Rattle.lq_run_laws.proofs.Way.{keeps-rely}
use Rattle.lq_run_laws.proofs.Stuck.{Drains, drains-on, purged-clear, ends, ends-drains, takes}

ends-holds : (purge : Option Purge) (p : Position) → is_ending purge p ≡ true → holds_lock p ≡ true
ends-holds purge Unlock ending = refl
ends-holds purge (Control true) ending = refl
ends-holds purge _ ending = cc

-- with no way on neither DEACTIVATED nor SCHED is set
words-clear : (deactivated sched stopped comes : Bool) → (deactivated || sched || stopped || comes) ≡ false → (deactivated ≡ false) × (sched ≡ false)
words-clear false false stopped comes none = (refl, refl)
words-clear _ _ stopped comes none = absurd cc

pub ending-draining : (m n : Machine) → IsInductive m → Moves m n → EndingDraining n
ending-draining m n h moves = subst EndingDraining (sym t.is)
    (each-seat m t.i t.after (λ s. is_ending t.after.qdisc.purge s.position ≡ true → Drains (with_seat m t.i t.after)) t.inside (mine (holds_lock (seat_at m t.i).position) refl) others)
  where
    t : Moved m n
    t = moved m n moves

    mine : (b : Bool) → holds_lock (seat_at m t.i).position ≡ b → is_ending t.after.qdisc.purge t.after.seat.position ≡ true → Drains (with_seat m t.i t.after)
    mine true holds ending = λ stuck.
        let words : (t.after.qdisc.deactivated ≡ false) × (t.after.qdisc.sched ≡ false)
        = words-clear t.after.qdisc.deactivated t.after.qdisc.sched _ _ stuck.no_way in
        ends-drains m t.i t.after t.inside h
        (ends t.leads holds (h.kept.second_scan t.i) (purged-clear m h) (λ u under set. (h.purging u under).draining set) ending stuck.missed stuck.draining words.0 words.1)
        stuck
    mine false out ending = let taken = takes t.leads out ending in drains-on m t.i t.after t.inside taken.1 (h.kept.lock_free_draining taken.0)

    others : (j : ℕ) → j ≢ t.i → is_ending t.after.qdisc.purge (seat_at m j).position ≡ true → Drains (with_seat m t.i t.after)
    others j other ending = λ stuck.
        let holds : holds_lock (seat_at m j).position ≡ true = ends-holds t.after.qdisc.purge (seat_at m j).position ending in
        let leaves = rely m t.i j h.kept.one_holder t.leads other holds in
        let active : is_purged_phase m.qdisc.phase ≡ false = false_from_ne_true _ (λ purged. both_ways _ (leaves.draining ∙ purged-clear m h purged) stuck.draining) in
        let before : is_ending m.qdisc.purge (seat_at m j).position ≡ true = subst (λ purge. is_ending purge (seat_at m j).position ≡ true) leaves.purge ending in
        drains-on m t.i t.after t.inside (record { beside = leaves; way = keeps-rely m t.i j h.kept.one_holder t.leads other holds active }) (h.kept.ending_draining j before) stuck
