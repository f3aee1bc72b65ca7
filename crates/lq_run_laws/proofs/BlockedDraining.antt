-- Where the holder is about to set DRAINING, MISSED is set or there is a way on.
use Rattle.std.proofs.Common.{◌≡◌, ◌≢◌, ℕ, Bool, true, false, Option, Some, None, length, refl, sym, ap, ◌∙◌, subst, arith}
use Rattle.std.specs.Prelude.{◌||◌, is_some, if◌then◌else◌}
use Rattle.std.proofs.lemmas.Bool.{both_ways, not_from_false, false_from_ne_true}
use Rattle.lq_model.specs.declared.machine.Packet.{Packet}
use Rattle.lq_model.specs.declared.machine.Blocked.{Blocked}
use Rattle.lq_model.specs.declared.machine.Blocked.TheVariants.{InHand, NoneTaken}
use Rattle.lq_model.specs.declared.machine.Phase.{Phase}
use Rattle.lq_model.specs.declared.machine.Phase.TheVariants.{Purged}
use Rattle.lq_model.specs.declared.machine.Position.{Position}
use Rattle.lq_model.specs.declared.machine.Position.TheVariants.{BlockedLoad, BlockedDrain}
use Rattle.lq_model.specs.declared.machine.Seat.{Seat}
use Rattle.lq_model.specs.Machine.{Qdisc, Machine, seat_at, is_queue_open, has_several_queues}
use Rattle.lq_model.specs.Steps.{After, with_seat, queue_of_slot, queue_of_blocked}
use Rattle.lq_model.specs.Control.{is_purged_phase, is_quiet}
use Rattle.lq_model.specs.Positions.{holds_lock, may_be_inside, blocking_at, is_stopped, has_way_on, blocked}
use Rattle.lq_model.specs.Kept.{IsInductive, BlockedDraining}
use Rattle.lq_model.specs.Quiet.{Moves}
use Rattle.lq_run_laws.proofs.Local as local
use Rattle.lq_run_laws.proofs.Local.{Local}
use Rattle.lq_run_laws.proofs.LocalSteps.{Moved, moved}
use Rattle.lq_run_laws.proofs.Frames.{each-seat}
use Rattle.lq_run_laws.proofs.Way.{keeps-rely, way-stays, blocking-same}

-- the seat comes there by its second look at the stop word
record Looked (before : Position) (q : Qdisc) (b : Blocked) (q' : Qdisc) : Type 0 where
  at : before ≡ BlockedLoad b
  closed : is_queue_open q (queue_of_blocked b) ≡ false
  same : q' ≡ q

own : {sole : Bool} {free : Packet → Type 0} {q : Qdisc} {s : Seat} {before : Position} {after : After} (b : Blocked) → Local sole free q s before after
    → after.seat.position ≡ BlockedDrain b → Looked before q b after.qdisc
own {q = q} b (local.blocked_closed r closed) at =
    let same : r ≡ b = cc in record { at = ap BlockedLoad same; closed = subst (λ d. is_queue_open q (queue_of_blocked d) ≡ false) same closed; same = refl }
own b _ at = absurd cc

waits-none : is_some (let none : Option Packet = None in none) ≡ true → ⊥
waits-none e = cc

-- a stopped queue that the requeue slot waits for is the one in the way
waits-stopped : (q : Qdisc) (slot : Option Packet) (shared : Bool) (queue : ℕ) → queue ≡ queue_of_slot slot → (shared ≡ true → is_some slot ≡ true) → is_queue_open q queue ≡ false
    → is_stopped q (if is_some slot then Some (queue_of_slot slot) else if shared then None else Some 0) ≡ true
waits-stopped q (Some p) shared queue e waits closed = not_from_false _ (subst (λ k. is_queue_open q k ≡ false) e closed)
waits-stopped q None true queue e waits closed = absurd (waits-none (waits refl))
waits-stopped q None false queue e waits closed = not_from_false _ (subst (λ k. is_queue_open q k ≡ false) e closed)

blocked-stopped : (q : Qdisc) (b : Blocked) → is_queue_open q (queue_of_blocked b) ≡ false
    → ((queue : ℕ) → b ≡ NoneTaken queue → (queue ≡ queue_of_slot q.slot) × (has_several_queues q ≡ true → is_some q.slot ≡ true)) → is_stopped q (blocking_at b q) ≡ true
blocked-stopped q (InHand p direct) closed waits = not_from_false _ closed
blocked-stopped q (NoneTaken queue) closed waits = waits-stopped q q.slot (has_several_queues q) queue (waits queue refl).0 (waits queue refl).1 closed

stopped-on : (missed deactivated sched stopped comes : Bool) → stopped ≡ true → (missed || (deactivated || sched || stopped || comes)) ≡ true
stopped-on missed deactivated sched stopped comes e = grind arith

blocking-at-same : (b : Blocked) (q q' : Qdisc) → q'.slot ≡ q.slot → length q'.xoff ≡ length q.xoff → blocking_at b q' ≡ blocking_at b q
blocking-at-same (InHand p direct) q q' slot queues = refl
blocking-at-same (NoneTaken queue) q q' slot queues = blocking-same q q' slot queues

-- a seat at work in a call shows that the purge hasn't ended
purged-quiet : (phase : Phase) → is_purged_phase phase ≡ true → is_quiet phase ≡ true
purged-quiet Purged e = refl
purged-quiet _ e = cc

pub blocked-draining : (m n : Machine) → IsInductive m → Moves m n → BlockedDraining n
blocked-draining m n h moves = subst BlockedDraining (sym t.is)
    (λ j b at. each-seat m t.i t.after (λ s. (b : Blocked) → s.position ≡ BlockedDrain b → (t.after.qdisc.missed || has_way_on (with_seat m t.i t.after) (blocking_at b t.after.qdisc)) ≡ true) t.inside mine others j b at)
  where
    t : Moved m n
    t = moved m n moves

    mine : (b : Blocked) → t.after.seat.position ≡ BlockedDrain b → (t.after.qdisc.missed || has_way_on (with_seat m t.i t.after) (blocking_at b t.after.qdisc)) ≡ true
    mine b at =
        let looked = own b t.leads at in
        let stopped : is_stopped m.qdisc (blocking_at b m.qdisc) ≡ true
        = blocked-stopped m.qdisc b looked.closed (λ queue is. h.kept.slot_waits t.i queue (ap blocked looked.at ∙ ap Some is)) in
        let now : is_stopped t.after.qdisc (blocking_at b t.after.qdisc) ≡ true = subst (λ (q : Qdisc). is_stopped q (blocking_at b q) ≡ true) (sym looked.same) stopped in
        stopped-on t.after.qdisc.missed t.after.qdisc.deactivated t.after.qdisc.sched _ _ now

    others : (j : ℕ) → j ≢ t.i → (b : Blocked) → (seat_at m j).position ≡ BlockedDrain b
        → (t.after.qdisc.missed || has_way_on (with_seat m t.i t.after) (blocking_at b t.after.qdisc)) ≡ true
    others j other b at =
        let holds : holds_lock (seat_at m j).position ≡ true = ap holds_lock at in
        let inside : may_be_inside (seat_at m j).position ≡ false = ap may_be_inside at in
        let active : is_purged_phase m.qdisc.phase ≡ false
        = false_from_ne_true _ (λ purged. both_ways _ inside (h.kept.quiet_inside (purged-quiet m.qdisc.phase purged) j)) in
        let keeps = keeps-rely m t.i j h.kept.one_holder t.leads other holds active in
        subst (λ queue. (t.after.qdisc.missed || has_way_on (with_seat m t.i t.after) queue) ≡ true) (sym (blocking-at-same b m.qdisc t.after.qdisc keeps.slot keeps.queues))
        (way-stays m t.i t.after (blocking_at b m.qdisc) t.inside keeps (h.kept.blocked_draining j b at))
