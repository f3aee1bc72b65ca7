-- The requeue slot stays empty where it has to be.
use Rattle.std.proofs.Common.{◌≡◌, ◌≢◌, ℕ, Bool, true, false, ◌⊎◌, inl, inr, Some, None, refl, sym, ap, ◌∙◌, subst}
use Rattle.lq_model.specs.declared.machine.Packet.{Packet}
use Rattle.lq_model.specs.declared.machine.Position.{Position}
use Rattle.lq_model.specs.declared.machine.Position.TheVariants.{Gate}
use Rattle.lq_model.specs.declared.machine.Seat.{Seat}
use Rattle.lq_model.specs.Machine.{Qdisc, Machine, seat_at}
use Rattle.lq_model.specs.Steps.{After}
use Rattle.lq_model.specs.Positions.{holds_lock, needs_slot, looked_below}
use Rattle.lq_model.specs.Kept.{IsInductive, SlotFree}
use Rattle.lq_model.specs.Quiet.{Moves}
use Rattle.lq_run_laws.proofs.Local as local
use Rattle.lq_run_laws.proofs.Local.{Local}
use Rattle.lq_run_laws.proofs.Aside.Takes.{takes_bands}
use Rattle.lq_run_laws.proofs.LocalSteps.{Moved, moved}
use Rattle.lq_run_laws.proofs.Frames.{each-seat}
use Rattle.lq_run_laws.proofs.Aside.{Takes, IsTaking, aside}
use Rattle.lq_run_laws.proofs.Rely.{rely}

-- only a holder needs it
needs-holds : (p : Position) → needs_slot p ≡ true → holds_lock p ≡ true
needs-holds (Gate p direct) needs = refl
needs-holds _ needs = cc

takes-free : {q : Qdisc} {before after : Position} → Takes q before after → needs_slot after ≡ true → q.slot ≡ None
takes-free (takes_bands none) needs = none
takes-free _ needs = absurd cc

-- the holder's own step
holder : {sole : Bool} {free : Packet → Type 0} {q : Qdisc} {s : Seat} {before : Position} {after : After} → Local sole free q s before after → holds_lock before ≡ true
    → (needs_slot before ≡ true → q.slot ≡ None)
    → ((band : ℕ) → looked_below q.purge before ≡ Some band → q.missed ≡ false → q.draining ≡ false → q.slot ≡ None)
    → needs_slot after.seat.position ≡ true → after.qdisc.slot ≡ None
holder (local.put_join_bands p run none) h slot looked needs = none
holder (local.put_full_bands p run none) h slot looked needs = none
holder (local.xmit_sent_bands p none) h slot looked needs = none
holder (local.stop_last_bands queue hung v none) h slot looked needs = none
holder (local.post_bands run none) h slot looked needs = none
holder (local.recheck_clear p missed draining) h slot looked needs = looked 3 refl missed draining
holder (local.gate_open p direct open_queue) h slot looked needs = slot refl
holder (local.gate_closed p direct) h slot looked needs = slot refl
holder (local.deq_slot p) h slot looked needs = refl
holder (local.deq_bands free) h slot looked needs = free
holder (local.scan_takes band second p rest e) h slot looked needs = slot refl
holder (local.scan_next band second e) h slot looked needs = slot refl
holder (local.scan_tests band e last) h slot looked needs = slot refl
holder local.test_non_empty h slot looked needs = slot refl
holder local.clear_missed h slot looked needs = slot refl
holder local.clear_draining h slot looked needs = slot refl
holder (local.blocked_clear b) h slot looked needs = slot needs
holder (local.blocked_open b) h slot looked needs = slot needs
holder (local.blocked_closed b e) h slot looked needs = slot needs
holder _ h slot looked needs = cc

pub slot-free : (m n : Machine) → IsInductive m → Moves m n → SlotFree n
slot-free m n h moves = subst SlotFree (sym t.is) (each-seat m t.i t.after (λ s. needs_slot s.position ≡ true → t.after.qdisc.slot ≡ None) t.inside (mine (holds_lock (seat_at m t.i).position) refl) others)
  where
    t : Moved m n
    t = moved m n moves

    taking : (holds_lock t.after.seat.position ≡ false) ⊎ IsTaking m.qdisc (seat_at m t.i).position t.after.seat.position t.after.qdisc → needs_slot t.after.seat.position ≡ true → t.after.qdisc.slot ≡ None
    taking (inl out) needs = absurd (let holds = needs-holds t.after.seat.position needs in cc)
    taking (inr k) needs = ap (λ (q : Qdisc). q.slot) k.locks ∙ takes-free k.takes needs

    mine : (b : Bool) → holds_lock (seat_at m t.i).position ≡ b → needs_slot t.after.seat.position ≡ true → t.after.qdisc.slot ≡ None
    mine true holds needs =
        holder t.leads holds (h.kept.slot_free t.i) (λ band looks missed draining. (h.kept.looked_clear t.i band looks (record { missed = missed; draining = draining })).slot) needs
    mine false out needs = taking (aside t.leads out) needs

    others : (j : ℕ) → j ≢ t.i → needs_slot (seat_at m j).position ≡ true → t.after.qdisc.slot ≡ None
    others j other needs = (rely m t.i j h.kept.one_holder t.leads other (needs-holds _ needs)).slot ∙ h.kept.slot_free j needs
