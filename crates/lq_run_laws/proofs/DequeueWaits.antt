-- With several queues a dequeue begins at a stop word only where the requeue slot is full.
use Rattle.std.proofs.Common.{◌≡◌, ◌≢◌, ℕ, Bool, true, false, Option, Some, None, refl, sym, ap, ◌∙◌, subst}
use Rattle.std.specs.Prelude.{is_some, is_none, nat_lt}
use Rattle.std.proofs.lemmas.List.{length-set}
use Rattle.lq_model.specs.declared.machine.Packet.{Packet}
use Rattle.lq_model.specs.declared.machine.Position.{Position}
use Rattle.lq_model.specs.declared.machine.Position.TheVariants.{Deq}
use Rattle.lq_model.specs.declared.machine.Seat.{Seat}
use Rattle.lq_model.specs.Machine.{Qdisc, Machine, has_several_queues, seat_at}
use Rattle.lq_model.specs.Steps.{After}
use Rattle.lq_model.specs.Positions.{holds_lock}
use Rattle.lq_model.specs.Kept.{IsInductive, DequeueWaits}
use Rattle.lq_model.specs.Quiet.{Moves}
use Rattle.lq_run_laws.proofs.Local as local
use Rattle.lq_run_laws.proofs.Local.{Local}
use Rattle.lq_run_laws.proofs.LocalSteps.{Moved, moved}
use Rattle.lq_run_laws.proofs.Frames.{each-seat}
use Rattle.lq_run_laws.proofs.Rely.{rely}

-- a slot that isn't empty is full
full : (slot : Option Packet) → is_none slot ≡ false → is_some slot ≡ true
full (Some p) e = refl
full None e = cc

-- the moving seat's own
mine : {sole : Bool} {free : Packet → Type 0} {q : Qdisc} {s : Seat} {before : Position} {after : After} → Local sole free q s before after
    → after.seat.position ≡ Deq → has_several_queues after.qdisc ≡ true → is_some after.qdisc.slot ≡ true
mine (local.put_join_word p run waits) e shared = full _ (waits shared)
mine (local.put_full_word p run waits) e shared = full _ (waits shared)
mine (local.try1_queued_word p run free waits) e shared = full _ (waits shared)
mine (local.try1_interrupt_word run free waits) e shared = full _ (waits shared)
mine (local.try2_queued_word p run free waits) e shared = full _ (waits shared)
mine (local.try2_interrupt_word run free waits) e shared = full _ (waits shared)
mine (local.xmit_sent_word p waits) e shared = full _ (waits shared)
mine {q = q} (local.stop_last_word queue hung v waits) e shared = full _ (waits (ap (nat_lt 1) (sym (length-set q.xoff queue v)) ∙ shared))
mine (local.post_word run waits) e shared = full _ (waits shared)
mine _ e shared = cc

pub dequeue-waits : (m n : Machine) → IsInductive m → Moves m n → DequeueWaits n
dequeue-waits m n h moves = subst DequeueWaits (sym t.is) (each-seat m t.i t.after (λ s. s.position ≡ Deq → has_several_queues t.after.qdisc ≡ true → is_some t.after.qdisc.slot ≡ true) t.inside (mine t.leads) others)
  where
    t : Moved m n
    t = moved m n moves

    others : (j : ℕ) → j ≢ t.i → (seat_at m j).position ≡ Deq → has_several_queues t.after.qdisc ≡ true → is_some t.after.qdisc.slot ≡ true
    others j other e shared =
        let leaves = rely m t.i j h.kept.one_holder t.leads other (ap holds_lock e) in
        ap is_some leaves.slot ∙ h.dequeue_waits j e (ap (nat_lt 1) (sym leaves.queues) ∙ shared)
