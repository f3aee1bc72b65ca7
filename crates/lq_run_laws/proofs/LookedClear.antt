-- What a holder has looked at stays clear while neither bit is set, and so does the machine at a free lock.
use Rattle.std.proofs.Common.{◌≡◌, ◌≢◌, ℕ, ◌+◌, ◌<◌, ◌≤◌, Bool, true, false, List, [], ◌⊎◌, inl, inr, length, Option, Some, None, refl, sym, ap, ◌∙◌, subst, Contains, arith}
use Rattle.std.specs.Prelude.{nat_lt, slice_index_or}
use Rattle.std.proofs.lemmas.Bool.{cases_lt, ltb-false}
use Rattle.lq_model.specs.declared.machine.Packet.{Packet}
use Rattle.lq_model.specs.declared.machine.Position.{Position}
use Rattle.lq_model.specs.declared.machine.Position.TheVariants.{Gate, Control}
use Rattle.lq_model.specs.declared.machine.Seat.{Seat}
use Rattle.lq_model.specs.Machine.{Qdisc, Machine, Purge, seat_at, band_at}
use Rattle.lq_model.specs.Steps.{After, with_seat}
use Rattle.lq_model.specs.Positions.{IsHidden, BitsClear, ClearBelow, IsClear, holds_lock, hidden_packet, needs_slot, looked_below}
use Rattle.lq_model.specs.Kept.{IsInductive, LookedClear, Purging}
use Rattle.lq_model.specs.Quiet.{Moves}
use Rattle.lq_run_laws.proofs.Local as local
use Rattle.lq_run_laws.proofs.Local.{Local}
use Rattle.lq_run_laws.proofs.LocalSteps.{Moved, moved}
use Rattle.lq_run_laws.proofs.Frames.{each-seat}
use Rattle.lq_run_laws.proofs.Bands.{cut-holds, empty-holds}
use Rattle.lq_run_laws.proofs.Aside.{Takes, IsTaking, aside}
use Rattle.lq_run_laws.proofs.Aside.Takes.{takes_direct, takes_word, takes_bands, takes_control}
use Rattle.lq_run_laws.proofs.Rely.{rely, hidden-stays, clear-beside, bits-before}

-- what the qdisc holds in the requeue slot, or below the band, is hidden in the machine
pub record Below (m : Machine) (q : Qdisc) (band : ℕ) : Type 0 where
  pub slot : q.slot ≡ None
  pub bands : (k : ℕ) → k < band → (p : Packet) → Contains (band_at q k) p → IsHidden m p

-- the same list and slot hide as much
unchanged : {m : Machine} {q q' : Qdisc} {band : ℕ} → Below m q band → q'.slot ≡ q.slot → q'.bands ≡ q.bands → Below m q' band
unchanged clear slot bands = record {
  slot = slot ∙ clear.slot;
  bands = λ k below p held. clear.bands k below p (subst (λ (lists : List (List Packet)). Contains (slice_index_or lists k []) p) bands held);
}

-- with the slot empty, nothing is below the first band
begins : (m : Machine) (q : Qdisc) (band : ℕ) → q.slot ≡ None → Some 0 ≡ Some band → Below m q band
begins m q band slot e = record { slot = slot; bands = λ k below. absurd (let first : 0 ≡ band = cc in omega arith) }

-- one more band was found empty
next : (m : Machine) (q : Qdisc) (band more : ℕ) → Below m q band → band_at q band ≡ [] → more ≤ band + 1 → Below m q more
next m q band more clear empty least = record {
  slot = clear.slot;
  bands = λ k below p held. elim (cases_lt k band) [
    | inl lower ↦ clear.bands k lower p held
    | inr upper ↦ absurd (let same : k ≡ band = omega arith in empty-holds (band_at q k) p (ap (band_at q) same ∙ empty) held)
  ];
}

-- a band that is the last one
last-band : (band more : ℕ) → nat_lt band 2 ≡ false → Some 3 ≡ Some more → more ≤ band + 1
last-band band more last e = let is : 3 ≡ more = cc in let least : 2 ≤ band = ltb-false band 2 last in omega arith

-- the purge has found as much empty
purged : (m : Machine) (q : Qdisc) (u : Purge) (band : ℕ) → Below m q u.band → nat_lt u.band 3 ≡ false → Some 3 ≡ Some band → Below m q band
purged m q u band clear last e = record { slot = clear.slot; bands = λ k below. clear.bands k (let is : 3 ≡ band = cc in let least : 3 ≤ u.band = ltb-false u.band 3 last in omega arith) }

-- during a purge control rests on nothing
purging-looks : (purge : Option Purge) (u : Purge) (band : ℕ) → purge ≡ Some u → looked_below purge (Control true) ≡ Some band → ⊥
purging-looks (Some v) u band e looks = cc
purging-looks None u band e looks = cc

-- the holder's own step
holder : {sole : Bool} {free : Packet → Type 0} {q : Qdisc} {s : Seat} {before : Position} {after : After} (m : Machine) → Local sole free q s before after → holds_lock before ≡ true
    → (needs_slot before ≡ true → q.slot ≡ None)
    → ((band : ℕ) → looked_below q.purge before ≡ Some band → q.missed ≡ false → q.draining ≡ false → Below m q band)
    → ((u : Purge) → q.purge ≡ Some u → Below m q u.band)
    → (band : ℕ) → looked_below after.qdisc.purge after.seat.position ≡ Some band → after.qdisc.missed ≡ false → after.qdisc.draining ≡ false → Below m after.qdisc band
holder m (local.put_join_bands p run none) h slot looked purge band e missed draining = begins m _ band none e
holder m (local.put_full_bands p run none) h slot looked purge band e missed draining = begins m _ band none e
holder m (local.xmit_sent_bands p none) h slot looked purge band e missed draining = begins m _ band none e
holder m (local.stop_last_bands queue hung v none) h slot looked purge band e missed draining = begins m _ band none e
holder m (local.post_bands run none) h slot looked purge band e missed draining = begins m _ band none e
holder m (local.deq_bands none) h slot looked purge band e missed draining = begins m _ band none e
holder m local.clear_draining h slot looked purge band e missed draining = begins m _ band (slot refl) e
holder m (local.recheck_clear p clear none) h slot looked purge band e missed draining = looked band e missed draining
holder m (local.gate_open p direct open_queue) h slot looked purge band e missed draining = looked band e missed draining
holder m (local.xmit_sent_direct p) h slot looked purge band e missed draining = unchanged (looked band e missed draining) refl refl
holder m (local.xmit_stops p direct queue hung) h slot looked purge band e missed draining = unchanged (looked band e missed draining) refl refl
holder m (local.stop_next queue hung direct v) h slot looked purge band e missed draining = unchanged (looked band e missed draining) refl refl
holder m (local.stop_last_direct queue hung v) h slot looked purge band e missed draining = unchanged (looked band e missed draining) refl refl
holder m (local.post_clear clear none) h slot looked purge band e missed draining = looked band e missed draining
holder m (local.test_clear clear none) h slot looked purge band e missed draining = looked band e missed draining
holder m (local.scan_next lower second empty) h slot looked purge band e missed draining = next m _ lower band (looked lower refl missed draining) empty (let is : lower + 1 ≡ band = cc in omega arith)
holder m (local.scan_tests lower empty last) h slot looked purge band e missed draining = next m _ lower band (looked lower refl missed draining) empty (last-band lower band last e)
holder m (local.scan_ends lower empty last) h slot looked purge band e missed draining = next m _ lower band (looked lower refl missed draining) empty (last-band lower band last e)
holder m (local.deactivates holds active none) h slot looked purge band e missed draining = unchanged (looked band e missed draining) refl refl
holder m (local.loads_inside holds) h slot looked purge band e missed draining = unchanged (looked band e missed draining) refl refl
holder m (local.purge_takes u p rest under more at) h slot looked purge band e missed draining = absurd (purging-looks _ u band under e)
holder m (local.purge_missed_ends u under last other) h slot looked purge band e missed draining = unchanged (purged m _ u band (purge u under) last e) refl refl
holder m (local.purge_draining_ends u under last other) h slot looked purge band e missed draining = unchanged (purged m _ u band (purge u under) last e) refl refl
holder {q = q} m (local.resizes len none) h slot looked purge band e missed draining =
    let c = looked band e missed draining in record { slot = c.slot; bands = λ k below p held. c.bands k below p (cut-holds q.bands len k p held) }
holder m (local.stores_open queue none was) h slot looked purge band e missed draining = unchanged (looked band e missed draining) refl refl
holder m (local.opens queue none) h slot looked purge band e missed draining = unchanged (looked band e missed draining) refl refl
holder m _ h slot looked purge band e missed draining = absurd cc

-- only a holder has looked
pub looks-holds : (purge : Option Purge) (p : Position) (band : ℕ) → looked_below purge p ≡ Some band → holds_lock p ≡ true
looks-holds purge (Gate p direct) band e = refl
looks-holds purge (Control true) band e = refl
looks-holds purge _ band e = cc

-- a holder's packet isn't hidden
pub holder-shows : (position : Position) (p : Packet) → holds_lock position ≡ true → hidden_packet position ≡ Some p → ⊥
holder-shows (Gate r direct) p holds e = cc
holder-shows _ p holds e = cc

-- what is hidden before is hidden afterwards, where the moving seat had no hidden packet
pub below-now : (m : Machine) (i : ℕ) (a : After) (band : ℕ) → i < length m.seats → Below m a.qdisc band
    → ((k : ℕ) → k < band → (p : Packet) → hidden_packet (seat_at m i).position ≡ Some p → ⊥) → ClearBelow (with_seat m i a) band
below-now m i a band within clear shows = record {
  slot = clear.slot;
  bands = λ k below p held. hidden-stays m i a p within (clear.bands k below p held) (λ own. absurd (shows k below p own));
}

-- control has looked at all bands, if at any
control-looks : (purge : Option Purge) (band : ℕ) → looked_below purge (Control true) ≡ Some band → 3 ≡ band
control-looks None band e = cc
control-looks (Some u) band e = cc

-- at a free lock nothing was exposed, so nothing is where a seat has just taken it
takes-below : {m : Machine} {before after : Position} (band : ℕ) → Takes m.qdisc before after → IsClear m → looked_below m.qdisc.purge after ≡ Some band
    → Below m m.qdisc band × ((k : ℕ) → k < band → (p : Packet) → hidden_packet before ≡ Some p → ⊥)
takes-below band (takes_direct p unqueued own) clear e =
    (record { slot = clear.slot; bands = λ k below. clear.bands k (let is : 3 ≡ band = cc in omega arith) }, λ k below r hides. cc)
takes-below band (takes_word full) clear e = absurd cc
takes-below {m = m} band (takes_bands none) clear e = (begins m m.qdisc band none e, λ k below r hides. let first : 0 ≡ band = cc in absurd (omega arith))
takes-below {m = m} band (takes_control unqueued) clear e =
    (record { slot = clear.slot; bands = λ k below. clear.bands k (let is : 3 ≡ band = control-looks m.qdisc.purge band e in omega arith) }, λ k below r hides. cc)

-- what the machine keeps of a seat's look, bit by bit
pub looked-before : (m : Machine) (i : ℕ) → LookedClear m → (band : ℕ) → looked_below m.qdisc.purge (seat_at m i).position ≡ Some band → m.qdisc.missed ≡ false → m.qdisc.draining ≡ false → Below m m.qdisc band
looked-before m i looked band looks missed draining = let c = looked i band looks (record { missed = missed; draining = draining }) in record { slot = c.slot; bands = c.bands }

-- what a purge half done has left
purged-before : (m : Machine) → Purging m → (u : Purge) → m.qdisc.purge ≡ Some u → Below m m.qdisc u.band
purged-before m purging u under = let c = purging u under in record { slot = c.slot; bands = λ k below p held. absurd (c.bands k below p held) }

-- THE SENTENCE

pub looked-clear : (m n : Machine) → IsInductive m → Moves m n → LookedClear n
looked-clear m n h moves = subst LookedClear (sym t.is) (each-seat m t.i t.after Looked t.inside (mine (holds_lock (seat_at m t.i).position) refl) others)
  where
    t : Moved m n
    t = moved m n moves

    Looked : Seat → Type 0
    Looked s = (band : ℕ) → looked_below t.after.qdisc.purge s.position ≡ Some band → BitsClear t.after.qdisc → ClearBelow (with_seat m t.i t.after) band

    taking : (holds_lock t.after.seat.position ≡ false) ⊎ IsTaking m.qdisc (seat_at m t.i).position t.after.seat.position t.after.qdisc → Looked t.after.seat
    taking (inl out) band e bits = absurd (let holds = looks-holds _ _ band e in cc)
    taking (inr k) band e bits =
        let looks : looked_below m.qdisc.purge t.after.seat.position ≡ Some band = subst (λ (q : Qdisc). looked_below q.purge t.after.seat.position ≡ Some band) k.locks e in
        let clear : BitsClear m.qdisc = let c : BitsClear (record m.qdisc { locked = true }) = subst BitsClear k.locks bits in record { missed = c.missed; draining = c.draining } in
        let found = takes-below {m = m} band k.takes (h.kept.lock_free_clear k.free clear) looks in
        let there : Below m (record m.qdisc { locked = true }) band = record { slot = found.0.slot; bands = found.0.bands } in
        below-now m t.i t.after band t.inside (subst (λ (q : Qdisc). Below m q band) (sym k.locks) there) found.1

    mine : (b : Bool) → holds_lock (seat_at m t.i).position ≡ b → Looked t.after.seat
    mine true holds band e bits =
        below-now m t.i t.after band t.inside
        (holder m t.leads holds (h.kept.slot_free t.i) (looked-before m t.i h.kept.looked_clear) (purged-before m h.purging) band e bits.missed bits.draining)
        (λ k below p own. holder-shows _ p holds own)
    mine false out band e bits = taking (aside t.leads out) band e bits

    others : (j : ℕ) → j ≢ t.i → Looked (seat_at m j)
    others j other band e bits =
        let leaves = rely m t.i j h.kept.one_holder t.leads other (looks-holds _ _ band e) in
        let looks : looked_below m.qdisc.purge (seat_at m j).position ≡ Some band = ap (λ (u : Option Purge). looked_below u (seat_at m j).position) (sym leaves.purge) ∙ e in
        clear-beside m t.i t.after band t.inside leaves bits.missed (h.kept.looked_clear j band looks (bits-before leaves bits))
