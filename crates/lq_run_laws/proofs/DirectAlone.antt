-- No packet goes past the bands while one of the same owner is held.
use Rattle.std.proofs.Common.{◌≡◌, ◌≢◌, ℕ, ◌<◌, Bool, true, false, ◌⊎◌, inl, inr, Some, None, refl, sym, ap, ◌∙◌, subst, Contains}
use Rattle.lq_model.specs.declared.machine.Packet.{Packet}
use Rattle.lq_model.specs.declared.machine.Attempt.TheVariants.{Queued}
use Rattle.lq_model.specs.declared.machine.Blocked.TheVariants.{InHand}
use Rattle.lq_model.specs.declared.machine.Position.{Position}
use Rattle.lq_model.specs.declared.machine.Position.TheVariants.{Try1, Miss, Recheck, Gate, BlockedClear, BlockedLoad, BlockedMiss, BlockedDrain}
use Rattle.lq_model.specs.declared.machine.Seat.{Seat}
use Rattle.lq_model.specs.Machine.{Qdisc, Machine, seat_at, band_at}
use Rattle.lq_model.specs.Steps.{After}
use Rattle.lq_model.specs.Positions.{IsHidden, ClearBelow, holds_lock, hidden_packet, own_packet, direct_packet, looked_below}
use Rattle.lq_model.specs.Kept.{IsInductive, DirectAlone, OwnersDiffer}
use Rattle.lq_model.specs.Quiet.{Moves}
use Rattle.lq_run_laws.proofs.Local as local
use Rattle.lq_run_laws.proofs.Local.{Local}
use Rattle.lq_run_laws.proofs.LocalSteps.{Moved, moved}
use Rattle.lq_run_laws.proofs.Frames.{each-seat}
use Rattle.lq_run_laws.proofs.Beside.{IsBeside}
use Rattle.lq_run_laws.proofs.Rely.{rely}

-- in a band or in the requeue slot
abbrev HoldsIn : Qdisc → Packet → Type 0
HoldsIn q p = (q.slot ≡ Some p) ⊎ ((k : ℕ) × ((k < 3) × Contains (band_at q k) p))

-- only a holder takes a packet past the bands, and it is that of its own transmit
direct-holds : (position : Position) (p : Packet) → direct_packet position ≡ Some p → holds_lock position ≡ true
direct-holds (Gate r direct) p e = refl
direct-holds _ p e = cc

direct-own : (position : Position) (p : Packet) → direct_packet position ≡ Some p → own_packet position ≡ Some p
direct-own (Gate r direct) p e = e
direct-own (BlockedClear (InHand r direct)) p e = e
direct-own (BlockedLoad (InHand r direct)) p e = e
direct-own (BlockedMiss (InHand r direct)) p e = e
direct-own (BlockedDrain (InHand r direct)) p e = e
direct-own _ p e = cc

-- a hidden packet is that of its seat's transmit
queued-own : (position : Position) (p : Packet) → hidden_packet position ≡ Some p → own_packet position ≡ Some p
queued-own (Try1 (Queued r)) p e = e
queued-own (Miss (Queued r)) p e = e
queued-own _ p e = cc

-- the moving seat's own
mine : {sole : Bool} {free : Packet → Type 0} {q : Qdisc} {s : Seat} {before : Position} {after : After} → Local sole free q s before after
    → ((p r : Packet) → direct_packet before ≡ Some p → HoldsIn q r → r.owner ≢ p.owner)
    → ((p r : Packet) → before ≡ Recheck p → q.missed ≡ false → q.draining ≡ false → HoldsIn q r → r.owner ≢ p.owner)
    → (p r : Packet) → direct_packet after.seat.position ≡ Some p → HoldsIn after.qdisc r → r.owner ≢ p.owner
mine (local.recheck_clear own missed draining) alone clear p r e held = clear p r (cc) missed draining held
mine (local.gate_open own direct open_queue) alone clear p r e held = alone p r e held
mine (local.gate_closed own direct) alone clear p r e held = alone p r e held
mine (local.blocked_clear (InHand own direct)) alone clear p r e held = alone p r e held
mine (local.blocked_open (InHand own direct)) alone clear p r e held = alone p r e held
mine (local.blocked_closed (InHand own direct) closed) alone clear p r e held = alone p r e held
mine _ alone clear p r e held = absurd cc

-- a hidden packet has another owner than that of a seat that isn't queued
hidden-differs : (m : Machine) (i : ℕ) (p r : Packet) → OwnersDiffer m → own_packet (seat_at m i).position ≡ Some p → hidden_packet (seat_at m i).position ≡ None → IsHidden m r → r.owner ≢ p.owner
hidden-differs m i p r owners own unqueued (j, hides) =
    owners j i r p (λ same. let e : hidden_packet (seat_at m i).position ≡ Some r = subst (λ (k : ℕ). hidden_packet (seat_at m k).position ≡ Some r) same hides in cc) (queued-own _ r hides) own

-- where nothing is exposed, what is held is hidden
clear-differs : (m : Machine) (i : ℕ) (p r : Packet) → OwnersDiffer m → own_packet (seat_at m i).position ≡ Some p → hidden_packet (seat_at m i).position ≡ None → ClearBelow m 3 → HoldsIn m.qdisc r → r.owner ≢ p.owner
clear-differs m i p r owners own unqueued clear (inl slot) = absurd (let none : m.qdisc.slot ≡ None = clear.slot in cc)
clear-differs m i p r owners own unqueued clear (inr (k, (below, held))) = hidden-differs m i p r owners own unqueued (clear.bands k below r held)

pub direct-alone : (m n : Machine) → IsInductive m → Moves m n → DirectAlone n
direct-alone m n h moves = subst DirectAlone (sym t.is) (each-seat m t.i t.after (λ s. (p r : Packet) → direct_packet s.position ≡ Some p → HoldsIn t.after.qdisc r → r.owner ≢ p.owner) t.inside
    (mine t.leads (h.direct_alone t.i) rechecked) others)
  where
    t : Moved m n
    t = moved m n moves

    rechecked : (p r : Packet) → (seat_at m t.i).position ≡ Recheck p → m.qdisc.missed ≡ false → m.qdisc.draining ≡ false → HoldsIn m.qdisc r → r.owner ≢ p.owner
    rechecked p r at missed draining held =
        clear-differs m t.i p r h.owners_differ (ap own_packet at) (ap hidden_packet at)
        (h.kept.looked_clear t.i 3 (ap (looked_below m.qdisc.purge) at) (record { missed = missed; draining = draining })) held

    joined : (j : ℕ) → j ≢ t.i → (p r : Packet) → direct_packet (seat_at m j).position ≡ Some p → IsBeside (seat_at m t.i).position m.qdisc t.after.seat.position t.after.qdisc → HoldsIn t.after.qdisc r → r.owner ≢ p.owner
    joined j other p r e leaves (inl slot) = h.direct_alone j p r e (inl (sym leaves.slot ∙ slot))
    joined j other p r e leaves (inr (k, (below, held))) = elim (leaves.bands k r held) [
      | inl old ↦ h.direct_alone j p r e (inr (k, (below, old)))
      | inr new ↦ h.owners_differ t.i j r p (λ same. other (sym same)) new.1 (direct-own _ p e)
    ]

    others : (j : ℕ) → j ≢ t.i → (p r : Packet) → direct_packet (seat_at m j).position ≡ Some p → HoldsIn t.after.qdisc r → r.owner ≢ p.owner
    others j other p r e held = joined j other p r e (rely m t.i j h.kept.one_holder t.leads other (direct-holds _ p e)) held
