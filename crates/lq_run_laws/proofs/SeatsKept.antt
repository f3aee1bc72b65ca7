-- Every sentence holds with an idle seat as without it.
use Rattle.std.proofs.Common.{◌≡◌, ◌≢◌, ℕ, ◌<◌, Bool, true, false, List, ◌⊎◌, inl, inr, length, get_or, Option, Some, None, refl, sym, ap, ◌∙◌, subst}
use Rattle.std.specs.Prelude.{◌||◌, is_some}
use Rattle.lq_model.specs.declared.machine.Packet.{Packet}
use Rattle.lq_model.specs.declared.machine.Blocked.{Blocked}
use Rattle.lq_model.specs.declared.machine.Blocked.TheVariants.{NoneTaken}
use Rattle.lq_model.specs.declared.machine.Position.{Position}
use Rattle.lq_model.specs.declared.machine.Position.TheVariants.{Idle, Xmit, Deq, BlockedDrain, Control}
use Rattle.lq_model.specs.declared.machine.Seat.{Seat}
use Rattle.lq_model.specs.Machine.{Qdisc, Machine, Purge, idle_seat, is_queue_open, has_several_queues}
use Rattle.lq_model.specs.Steps.{queue_of_slot}
use Rattle.lq_model.specs.Control.{holds_as_control, is_quiet}
use Rattle.lq_model.specs.Positions.{IsHidden, IsStuck, BitsClear, ClearBelow, IsClear, hidden_packet, blocked, blocking, blocking_at, is_stopped, has_way_on, is_on_way, is_going, is_ending, is_second_scan, looked_below, needs_slot, may_be_inside, own_packet, direct_packet, Holds}
use Rattle.lq_model.specs.Kept.{IsInductive, IsKept, IsPurging, OwnersDiffer}
use Rattle.lq_run_laws.proofs.Seats.{Extends}

abbrev over : Qdisc → List Seat → Machine
over q seats = record { qdisc = q; seats = seats }

-- what holds of an idle seat, and of each seat of the shorter list, holds of each of the longer one
lift : {old now : List Seat} → Extends old now → (P : Position → Type 0) → P Idle → ((k : ℕ) → P (get_or old k idle_seat).position) → (i : ℕ) → P (get_or now i idle_seat).position
lift {old = old} {now = now} more P idle all i = elim (more.from i) [
  | inl e ↦ subst P (sym e) idle
  | inr found ↦ subst (λ (j : ℕ). P (get_or now j idle_seat).position) found.1 (subst (λ (s : Seat). P s.position) (sym (more.at found.0)) (all found.0))
]

-- and the other way
lower : {old now : List Seat} → Extends old now → (P : Position → Type 0) → ((i : ℕ) → P (get_or now i idle_seat).position) → (k : ℕ) → P (get_or old k idle_seat).position
lower more P all k = subst (λ (s : Seat). P s.position) (more.at k) (all (more.up k))

-- EXPOSURE AND A WAY ON

hidden-up : (q : Qdisc) {old now : List Seat} → Extends old now → (p : Packet) → IsHidden (over q old) p → IsHidden (over q now) p
hidden-up q more p (k, hides) = (more.up k, ap (λ (s : Seat). hidden_packet s.position) (more.at k) ∙ hides)

hidden-down : (q : Qdisc) {old now : List Seat} → Extends old now → (p : Packet) → IsHidden (over q now) p → IsHidden (over q old) p
hidden-down q {old = old} {now = now} more p (i, hides) = elim (more.from i) [
  | inl e ↦ absurd (let none : hidden_packet (get_or now i idle_seat).position ≡ None = ap hidden_packet e in cc)
  | inr found ↦ (found.0, ap (λ (s : Seat). hidden_packet s.position) (sym (more.at found.0)) ∙ (ap (λ (j : ℕ). hidden_packet (get_or now j idle_seat).position) found.1 ∙ hides))
]

clear-up : (q : Qdisc) {old now : List Seat} → Extends old now → (band : ℕ) → ClearBelow (over q old) band → ClearBelow (over q now) band
clear-up q more band clear = record { slot = clear.slot; bands = λ k below p held. hidden-up q more p (clear.bands k below p held) }

clear-down : (q : Qdisc) {old now : List Seat} → Extends old now → (band : ℕ) → ClearBelow (over q now) band → ClearBelow (over q old) band
clear-down q more band clear = record { slot = clear.slot; bands = λ k below p held. hidden-down q more p (clear.bands k below p held) }

same-way : (q : Qdisc) {old now : List Seat} → Extends old now → (queue : Option ℕ) → has_way_on (over q now) queue ≡ has_way_on (over q old) queue
same-way q more queue = ap (λ (b : Bool). q.deactivated || q.sched || is_stopped q queue || b) (more.any is_on_way refl)

stuck-up : (q : Qdisc) {old now : List Seat} → Extends old now → IsStuck (over q old) → IsStuck (over q now)
stuck-up q more stuck = record { missed = stuck.missed; draining = stuck.draining; no_way = same-way q more (blocking q) ∙ stuck.no_way }

stuck-down : (q : Qdisc) {old now : List Seat} → Extends old now → IsStuck (over q now) → IsStuck (over q old)
stuck-down q more stuck = record { missed = stuck.missed; draining = stuck.draining; no_way = sym (same-way q more (blocking q)) ∙ stuck.no_way }

-- WITH ONE SEAT MORE

owners-up : (q : Qdisc) {old now : List Seat} → Extends old now → OwnersDiffer (over q old) → OwnersDiffer (over q now)
owners-up q {old = old} {now = now} more owners i j p r differ mine theirs = go (more.from i) (more.from j)
  where
    own : ℕ → Option Packet
    own k = own_packet (get_or now k idle_seat).position

    back : (k : ℕ) → own (more.up k) ≡ own_packet (get_or old k idle_seat).position
    back k = ap (λ (s : Seat). own_packet s.position) (more.at k)

    go : ((get_or now i idle_seat).position ≡ Idle) ⊎ ((k : ℕ) × (more.up k ≡ i)) → ((get_or now j idle_seat).position ≡ Idle) ⊎ ((k : ℕ) × (more.up k ≡ j)) → p.owner ≢ r.owner
    go (inl e) other = absurd (let none : own_packet (get_or now i idle_seat).position ≡ None = ap own_packet e in cc)
    go (inr (k, e)) (inl f) = absurd (let none : own_packet (get_or now j idle_seat).position ≡ None = ap own_packet f in cc)
    go (inr (k, e)) (inr (l, f)) = owners k l p r (λ same. differ (sym e ∙ (ap more.up same ∙ f))) (sym (back k) ∙ (ap own e ∙ mine)) (sym (back l) ∙ (ap own f ∙ theirs))

owners-down : (q : Qdisc) {old now : List Seat} → Extends old now → OwnersDiffer (over q now) → OwnersDiffer (over q old)
owners-down q more owners k l p r differ mine theirs =
    owners (more.up k) (more.up l) p r (λ same. differ (more.apart k l same)) (ap (λ (s : Seat). own_packet s.position) (more.at k) ∙ mine) (ap (λ (s : Seat). own_packet s.position) (more.at l) ∙ theirs)

kept-up : (q : Qdisc) {old now : List Seat} → Extends old now → IsKept (over q old) → IsKept (over q now)
kept-up q {old = old} {now = now} more h = record {
  lock_free_missed = λ free missed. ap (λ (b : Bool). q.sched || q.deactivated || b) (more.any is_going refl) ∙ h.lock_free_missed free missed;
  lock_free_clear = λ free bits. clear-up q more 3 (h.lock_free_clear free bits);
  lock_free_draining = λ free stuck. clear-up q more 3 (h.lock_free_draining free (stuck-down q more stuck));
  ending_draining = lift more (λ (p : Position). is_ending q.purge p ≡ true → IsStuck (over q now) → IsClear (over q now)) (λ e. absurd cc) (λ k e stuck. clear-up q more 3 (h.ending_draining k e (stuck-down q more stuck)));
  blocked_draining = lift more (λ (p : Position). (b : Blocked) → p ≡ BlockedDrain b → (q.missed || has_way_on (over q now) (blocking_at b q)) ≡ true) (λ b e. absurd cc)
      (λ k b e. ap (λ (w : Bool). q.missed || w) (same-way q more (blocking_at b q)) ∙ h.blocked_draining k b e);
  looked_clear = lift more (λ (p : Position). (band : ℕ) → looked_below q.purge p ≡ Some band → BitsClear q → ClearBelow (over q now) band) (λ band e. absurd cc) (λ k band e bits. clear-up q more band (h.looked_clear k band e bits));
  second_scan = lift more (λ (p : Position). is_second_scan p ≡ true → q.draining ≡ false) (λ e. absurd cc) h.second_scan;
  slot_free = lift more (λ (p : Position). needs_slot p ≡ true → q.slot ≡ None) (λ e. absurd cc) h.slot_free;
  slot_waits = lift more (λ (p : Position). (queue : ℕ) → blocked p ≡ Some (NoneTaken queue) → (queue ≡ queue_of_slot q.slot) × (has_several_queues q ≡ true → is_some q.slot ≡ true)) (λ queue e. absurd cc) h.slot_waits;
  one_holder = more.sum _ (λ run. refl) ∙ h.one_holder;
  calls_inside = more.sum _ (λ run. refl) ∙ h.calls_inside;
  one_scheduled = more.sum _ (λ run. refl) ∙ h.one_scheduled;
  quiet_inside = λ quiet. lift more (λ (p : Position). may_be_inside p ≡ true) refl (h.quiet_inside quiet);
  purged_holds_nothing = h.purged_holds_nothing;
}

purging-up : (q : Qdisc) {old now : List Seat} → (q.purge ≡ None) ⊎ (is_quiet q.phase ≡ true) → (u : Purge) → q.purge ≡ Some u → IsPurging (over q old) u → IsPurging (over q now) u
purging-up q (inl none) u e far = absurd cc
purging-up q (inr quiet) u e far = record { slot = far.slot; bands = far.bands; missed = far.missed; draining = far.draining; alone = inl quiet }

-- an idle seat joins
pub joins : (q : Qdisc) {old now : List Seat} → Extends old now → (q.purge ≡ None) ⊎ (is_quiet q.phase ≡ true) → IsInductive (over q old) → IsInductive (over q now)
joins q {old = old} {now = now} more safe h = record {
  kept = kept-up q more h.kept;
  deactivation = h.deactivation;
  purging = λ u e. purging-up q safe u e (h.purging u e);
  device_open = lift more (λ (s : Position). (p : Packet) (direct : Bool) → s ≡ Xmit p direct → is_queue_open q p.queue ≡ true) (λ p direct e. absurd cc) h.device_open;
  dequeue_waits = lift more (λ (p : Position). p ≡ Deq → has_several_queues q ≡ true → is_some q.slot ≡ true) (λ e. absurd cc) h.dequeue_waits;
  owners_differ = owners-up q more h.owners_differ;
  direct_alone = lift more (λ (s : Position). (p r : Packet) → direct_packet s ≡ Some p → Holds (over q old) r → r.owner ≢ p.owner) (λ p r e. absurd cc) h.direct_alone;
}

-- beside a seat that isn't control with the run lock, a purge half done is one of a deactivation
pub calm-beside : (q : Qdisc) (seats : List Seat) (i : ℕ) → i < length seats → holds_as_control (get_or seats i idle_seat).position ≡ false → IsInductive (over q seats)
    → (q.purge ≡ None) ⊎ (is_quiet q.phase ≡ true)
calm-beside q seats i within away h = go q.purge refl
  where
    quiet : (is_quiet q.phase ≡ true) ⊎ ((k : ℕ) → k < length seats → (get_or seats k idle_seat).position ≡ Control true) → is_quiet q.phase ≡ true
    quiet (inl still) = still
    quiet (inr all) = absurd (let holds : holds_as_control (get_or seats i idle_seat).position ≡ true = ap holds_as_control (all i within) in cc)

    go : (o : Option Purge) → q.purge ≡ o → (q.purge ≡ None) ⊎ (is_quiet q.phase ≡ true)
    go None e = inl e
    go (Some u) e = inr (quiet (h.purging u e).alone)

-- WITH ONE SEAT LESS

kept-down : (q : Qdisc) {old now : List Seat} → Extends old now → IsKept (over q now) → IsKept (over q old)
kept-down q {old = old} {now = now} more h = record {
  lock_free_missed = λ free missed. ap (λ (b : Bool). q.sched || q.deactivated || b) (sym (more.any is_going refl)) ∙ h.lock_free_missed free missed;
  lock_free_clear = λ free bits. clear-down q more 3 (h.lock_free_clear free bits);
  lock_free_draining = λ free stuck. clear-down q more 3 (h.lock_free_draining free (stuck-up q more stuck));
  ending_draining = lower more (λ (p : Position). is_ending q.purge p ≡ true → IsStuck (over q old) → IsClear (over q old)) (λ i e stuck. clear-down q more 3 (h.ending_draining i e (stuck-up q more stuck)));
  blocked_draining = lower more (λ (p : Position). (b : Blocked) → p ≡ BlockedDrain b → (q.missed || has_way_on (over q old) (blocking_at b q)) ≡ true)
      (λ i b e. ap (λ (w : Bool). q.missed || w) (sym (same-way q more (blocking_at b q))) ∙ h.blocked_draining i b e);
  looked_clear = lower more (λ (p : Position). (band : ℕ) → looked_below q.purge p ≡ Some band → BitsClear q → ClearBelow (over q old) band) (λ i band e bits. clear-down q more band (h.looked_clear i band e bits));
  second_scan = lower more (λ (p : Position). is_second_scan p ≡ true → q.draining ≡ false) h.second_scan;
  slot_free = lower more (λ (p : Position). needs_slot p ≡ true → q.slot ≡ None) h.slot_free;
  slot_waits = lower more (λ (p : Position). (queue : ℕ) → blocked p ≡ Some (NoneTaken queue) → (queue ≡ queue_of_slot q.slot) × (has_several_queues q ≡ true → is_some q.slot ≡ true)) h.slot_waits;
  one_holder = sym (more.sum _ (λ run. refl)) ∙ h.one_holder;
  calls_inside = sym (more.sum _ (λ run. refl)) ∙ h.calls_inside;
  one_scheduled = sym (more.sum _ (λ run. refl)) ∙ h.one_scheduled;
  quiet_inside = λ quiet. lower more (λ (p : Position). may_be_inside p ≡ true) (h.quiet_inside quiet);
  purged_holds_nothing = h.purged_holds_nothing;
}

-- not all of them were control with the lock, since one was idle
purging-down : (q : Qdisc) {old now : List Seat} → Extends old now → (u : Purge) → IsPurging (over q now) u → IsPurging (over q old) u
purging-down q {old = old} {now = now} more u far = record { slot = far.slot; bands = far.bands; missed = far.missed; draining = far.draining; alone = quiet far.alone }
  where
    quiet : (is_quiet q.phase ≡ true) ⊎ ((i : ℕ) → i < length now → (get_or now i idle_seat).position ≡ Control true) → (is_quiet q.phase ≡ true) ⊎ ((i : ℕ) → i < length old → (get_or old i idle_seat).position ≡ Control true)
    quiet (inl still) = inl still
    quiet (inr all) = absurd (let idle = more.idle in let control = all more.added more.within in cc)

-- an idle seat leaves
pub leaves : (q : Qdisc) {old now : List Seat} → Extends old now → IsInductive (over q now) → IsInductive (over q old)
leaves q {old = old} {now = now} more h = record {
  kept = kept-down q more h.kept;
  deactivation = h.deactivation;
  purging = λ u e. purging-down q more u (h.purging u e);
  device_open = lower more (λ (s : Position). (p : Packet) (direct : Bool) → s ≡ Xmit p direct → is_queue_open q p.queue ≡ true) h.device_open;
  dequeue_waits = lower more (λ (p : Position). p ≡ Deq → has_several_queues q ≡ true → is_some q.slot ≡ true) h.dequeue_waits;
  owners_differ = owners-down q more h.owners_differ;
  direct_alone = lower more (λ (s : Position). (p r : Packet) → direct_packet s ≡ Some p → Holds (over q old) r → r.owner ≢ p.owner) h.direct_alone;
}
