-- With nothing in hand the stopped queue stays that of the packet in the requeue slot.
use Rattle.std.proofs.Common.{◌≡◌, ◌≢◌, ℕ, Bool, true, length, Some, refl, sym, ap, ◌∙◌, subst}
use Rattle.std.specs.Prelude.{is_some, nat_lt}
use Rattle.lq_model.specs.declared.machine.Packet.{Packet}
use Rattle.lq_model.specs.declared.machine.Blocked.{Blocked}
use Rattle.lq_model.specs.declared.machine.Blocked.TheVariants.{NoneTaken}
use Rattle.lq_model.specs.declared.machine.Position.{Position}
use Rattle.lq_model.specs.declared.machine.Position.TheVariants.{Deq, BlockedClear}
use Rattle.lq_model.specs.declared.machine.Seat.{Seat}
use Rattle.lq_model.specs.Machine.{Qdisc, Machine, has_several_queues, seat_at}
use Rattle.lq_model.specs.Steps.{After, queue_of_slot}
use Rattle.lq_model.specs.Positions.{holds_lock, blocked}
use Rattle.lq_model.specs.Kept.{IsInductive, SlotWaits}
use Rattle.lq_model.specs.Quiet.{Moves}
use Rattle.lq_run_laws.proofs.Local as local
use Rattle.lq_run_laws.proofs.Local.{Local}
use Rattle.lq_run_laws.proofs.LocalSteps.{Moved, moved}
use Rattle.lq_run_laws.proofs.Frames.{each-seat}
use Rattle.lq_run_laws.proofs.Rely.{rely}

-- the queue is that of the slot, which with several queues is full
abbrev pub Waits : Qdisc → ℕ → Type 0
Waits q queue = (queue ≡ queue_of_slot q.slot) × (has_several_queues q ≡ true → is_some q.slot ≡ true)

-- only a holder finds a queue stopped
pub blocked-holds : (p : Position) (b : Blocked) → blocked p ≡ Some b → holds_lock p ≡ true
blocked-holds (BlockedClear b) c e = refl
blocked-holds _ c e = cc

-- the moving seat's own
mine : {sole : Bool} {free : Packet → Type 0} {q : Qdisc} {s : Seat} {before : Position} {after : After} → Local sole free q s before after
    → ((queue : ℕ) → blocked before ≡ Some (NoneTaken queue) → Waits q queue)
    → (before ≡ Deq → has_several_queues q ≡ true → is_some q.slot ≡ true)
    → (queue : ℕ) → blocked after.seat.position ≡ Some (NoneTaken queue) → Waits after.qdisc queue
mine local.deq_closed waits full queue e = (cc, full refl)
mine (local.blocked_clear b) waits full queue e = waits queue e
mine (local.blocked_open b) waits full queue e = waits queue e
mine (local.blocked_closed b closed) waits full queue e = waits queue e
mine _ waits full queue e = absurd cc

waits-alike : (q q' : Qdisc) (queue : ℕ) → q'.slot ≡ q.slot → length q'.xoff ≡ length q.xoff → Waits q queue → Waits q' queue
waits-alike q q' queue slot queues waits = (waits.0 ∙ ap queue_of_slot (sym slot), λ shared. ap is_some slot ∙ waits.1 (ap (nat_lt 1) (sym queues) ∙ shared))

pub slot-waits : (m n : Machine) → IsInductive m → Moves m n → SlotWaits n
slot-waits m n h moves = subst SlotWaits (sym t.is) (each-seat m t.i t.after (λ s. (queue : ℕ) → blocked s.position ≡ Some (NoneTaken queue) → Waits t.after.qdisc queue) t.inside
    (mine t.leads (h.kept.slot_waits t.i) (h.dequeue_waits t.i)) others)
  where
    t : Moved m n
    t = moved m n moves

    others : (j : ℕ) → j ≢ t.i → (queue : ℕ) → blocked (seat_at m j).position ≡ Some (NoneTaken queue) → Waits t.after.qdisc queue
    others j other queue e =
        let leaves = rely m t.i j h.kept.one_holder t.leads other (blocked-holds _ _ e) in
        waits-alike m.qdisc t.after.qdisc queue leaves.slot leaves.queues (h.kept.slot_waits j queue e)
