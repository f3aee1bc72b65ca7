-- Of an owner one packet at a time is in a transmit.
use Rattle.std.proofs.Common.{◌≡◌, ◌≢◌, ℕ, Bool, ◌⊎◌, inl, inr, Option, Some, sym, ap, ◌∙◌, subst}
use Rattle.std.proofs.lemmas.Bool.{cases_eq}
use Rattle.lq_model.specs.declared.machine.Attempt.TheVariants.{Queued, Direct, Interrupt}
use Rattle.lq_model.specs.declared.machine.Packet.{Packet}
use Rattle.lq_model.specs.declared.machine.Blocked.TheVariants.{InHand}
use Rattle.lq_model.specs.declared.machine.Position.{Position}
use Rattle.lq_model.specs.declared.machine.Seat.{Seat}
use Rattle.lq_model.specs.Machine.{Qdisc, Machine, seat_at}
use Rattle.lq_model.specs.Steps.{After, with_seat}
use Rattle.lq_model.specs.Positions.{own_packet}
use Rattle.lq_model.specs.Kept.{IsInductive, OwnersDiffer}
use Rattle.lq_model.specs.Quiet.{Moves}
use Rattle.lq_run_laws.proofs.Local as local
use Rattle.lq_run_laws.proofs.Local.{Local}
use Rattle.lq_run_laws.proofs.LocalSteps.{Moved, moved}
use Rattle.lq_run_laws.proofs.Frames.{seat-moved, seat-other}

-- a seat has the packet of its transmit from its start on
pub had : {sole : Bool} {free : Packet → Type 0} {q : Qdisc} {s : Seat} {before : Position} {after : After} → Local sole free q s before after
    → (p : Packet) → own_packet after.seat.position ≡ Some p → (own_packet before ≡ Some p) ⊎ free p
had {free = free} (local.transmits r f) p e = inr (let same : r ≡ p = cc in subst free same f)
had (local.try1_held (Queued r) locked) p e = inl e
had (local.try1_held (Direct r) locked) p e = inl e
had (local.try1_held Interrupt locked) p e = absurd cc
had (local.miss_sets (Queued r) missed) p e = inl e
had (local.miss_sets (Direct r) missed) p e = inl e
had (local.miss_sets Interrupt missed) p e = absurd cc
had (local.blocked_clear (InHand r direct)) p e = inl e
had (local.blocked_open (InHand r direct)) p e = inl e
had (local.blocked_closed (InHand r direct) closed) p e = inl e
had _ p e = inl cc

-- the moving seat and another one
moves-differ : (m n : Machine) (h : OwnersDiffer m) (t : Moved m n) (j : ℕ) (p r : Packet) → j ≢ t.i → own_packet t.after.seat.position ≡ Some p → own_packet (seat_at m j).position ≡ Some r → p.owner ≢ r.owner
moves-differ m n h t j p r other mine theirs = elim (had t.leads p mine) [
  | inl own ↦ h t.i j p r (λ same. other (sym same)) own theirs
  | inr free ↦ free j r (λ same. other (sym same)) theirs
]

pub owners-differ : (m n : Machine) → IsInductive m → Moves m n → OwnersDiffer n
owners-differ m n h moves = subst OwnersDiffer (sym t.is) (λ i j p r differ mine theirs. go i j p r differ (cases_eq i t.i) (cases_eq j t.i) mine theirs)
  where
    t : Moved m n
    t = moved m n moves

    own : ℕ → Option Packet
    own i = own_packet (seat_at (with_seat m t.i t.after) i).position

    here : (i : ℕ) → i ≡ t.i → own i ≡ own_packet t.after.seat.position
    here i same = ap own same ∙ ap (λ (s : Seat). own_packet s.position) (seat-moved m t.i t.after t.inside)

    there : (i : ℕ) → i ≢ t.i → own i ≡ own_packet (seat_at m i).position
    there i other = ap (λ (s : Seat). own_packet s.position) (seat-other m t.i i t.after other)

    go : (i j : ℕ) (p r : Packet) → i ≢ j → (i ≡ t.i) ⊎ (i ≢ t.i) → (j ≡ t.i) ⊎ (j ≢ t.i) → own i ≡ Some p → own j ≡ Some r → p.owner ≢ r.owner
    go i j p r differ (inl a) (inl b) mine theirs = absurd (differ (a ∙ sym b))
    go i j p r differ (inl a) (inr b) mine theirs = moves-differ m n h.owners_differ t j p r b (sym (here i a) ∙ mine) (sym (there j b) ∙ theirs)
    go i j p r differ (inr a) (inl b) mine theirs = λ same. moves-differ m n h.owners_differ t i r p a (sym (here j b) ∙ theirs) (sym (there i a) ∙ mine) (sym same)
    go i j p r differ (inr a) (inr b) mine theirs = h.owners_differ i j p r differ (sym (there i a) ∙ mine) (sym (there j b) ∙ theirs)
