-- Only DRAINING is set and there is no way on: what a step leaves of that, and of what is exposed then.
use Rattle.std.proofs.Common.{◌≡◌, ℕ, ◌<◌, Bool, true, false, inl, map, take, length, Option, Some, None, refl, sym, ap, ◌∙◌, subst}
use Rattle.std.specs.Prelude.{◌||◌}
use Rattle.std.proofs.lemmas.Bool.{or_right, or_from, both_ways, false_from_ne_true}
use Rattle.lq_model.specs.declared.machine.Packet.{Packet}
use Rattle.lq_model.specs.declared.machine.Blocked.TheVariants.{NoneTaken}
use Rattle.lq_model.specs.declared.machine.Phase.{Phase}
use Rattle.lq_model.specs.declared.machine.Position.{Position}
use Rattle.lq_model.specs.declared.machine.Position.TheVariants.{BlockedDrain, Control}
use Rattle.lq_model.specs.declared.machine.Seat.{Seat}
use Rattle.lq_model.specs.Machine.{Qdisc, Machine, Purge, seat_at}
use Rattle.lq_model.specs.Steps.{After, with_seat}
use Rattle.lq_model.specs.Control.{is_purged_phase}
use Rattle.lq_model.specs.Positions.{IsStuck, IsClear, holds_lock, hidden_packet, is_on_way, is_second_scan, is_ending, blocking, has_way_on}
use Rattle.lq_model.specs.Kept.{IsInductive}
use Rattle.lq_run_laws.proofs.Local as local
use Rattle.lq_run_laws.proofs.Local.{Local}
use Rattle.lq_run_laws.proofs.Bands.{cut-holds}
use Rattle.lq_run_laws.proofs.Missed.{purged-is}
use Rattle.lq_run_laws.proofs.Beside.{IsBeside, alike}
use Rattle.lq_run_laws.proofs.Rely.{clear-beside}
use Rattle.lq_run_laws.proofs.Way.{KeepsWay, way-stays, blocking-same}

-- with DRAINING alone and no way on, nothing is exposed
abbrev pub Drains : Machine → Type 0
Drains m = IsStuck m → IsClear m

-- a step from one position and qdisc to another exposes nothing and takes no way on away, as long as MISSED is clear
pub record KeepsDrains (before : Position) (q : Qdisc) (after : Position) (q' : Qdisc) : Type 0 where
  pub beside : IsBeside before q after q'
  pub way : KeepsWay before q after q'

-- no way on after the step, for the queue that was in the way before it
no-way-now : (m : Machine) (i : ℕ) (a : After) → KeepsWay (seat_at m i).position m.qdisc a.seat.position a.qdisc → IsStuck (with_seat m i a)
    → (a.qdisc.missed || has_way_on (with_seat m i a) (blocking m.qdisc)) ≡ false
no-way-now m i a keeps stuck =
    or_from _ _ stuck.missed (subst (λ queue. has_way_on (with_seat m i a) queue ≡ false) (blocking-same m.qdisc a.qdisc keeps.slot keeps.queues) stuck.no_way)

stuck-before : (m : Machine) (i : ℕ) (a : After) → i < length m.seats → KeepsDrains (seat_at m i).position m.qdisc a.seat.position a.qdisc → IsStuck (with_seat m i a) → IsStuck m
stuck-before m i a within keeps stuck = record {
  missed = keeps.beside.missed stuck.missed;
  draining = sym keeps.beside.draining ∙ stuck.draining;
  no_way = false_from_ne_true _ (λ on. both_ways _ (no-way-now m i a keeps.way stuck) (way-stays m i a (blocking m.qdisc) within keeps.way (or_right _ _ on)));
}

pub drains-on : (m : Machine) (i : ℕ) (a : After) → i < length m.seats → KeepsDrains (seat_at m i).position m.qdisc a.seat.position a.qdisc → Drains m → Drains (with_seat m i a)
drains-on m i a within keeps drains stuck = clear-beside m i a 3 within keeps.beside stuck.missed (drains (stuck-before m i a within keeps stuck))

-- once all was purged, DRAINING is clear
pub purged-clear : (m : Machine) → IsInductive m → is_purged_phase m.qdisc.phase ≡ true → m.qdisc.draining ≡ false
purged-clear m h purged = (h.kept.purged_holds_nothing (purged-is m.qdisc.phase purged)).0.draining

-- THE HOLDER'S OWN STEPS

-- a step that changes nothing that the way on rests on
same-way : (before after : Position) (q q' : Qdisc) → q'.missed ≡ q.missed → q'.deactivated ≡ q.deactivated → q'.sched ≡ q.sched → q'.xoff ≡ q.xoff → q'.slot ≡ q.slot
    → is_on_way after ≡ is_on_way before → KeepsWay before q after q'
same-way before after q q' missed deactivated sched xoff slot comes = record { way = λ stopped rest way. cc; xoff = inl xoff; slot = slot; queues = ap length xoff }

-- a step that changes at most the run lock and the phase
still : (before after : Position) (q : Qdisc) (locked : Bool) (phase : Phase) → is_on_way after ≡ is_on_way before → hidden_packet before ≡ None
    → KeepsDrains before q after (record q { locked = locked; phase = phase })
still before after q locked phase comes own = record {
  beside = alike before after q _ refl refl refl refl refl refl (λ p hides c. absurd cc);
  way = same-way before after q _ refl refl refl refl refl comes;
}

-- it releases the run lock
pub releases : {sole : Bool} {free : Packet → Type 0} {q : Qdisc} {s : Seat} {before : Position} {after : After} → Local sole free q s before after
    → holds_lock before ≡ true → q.locked ≡ true → after.qdisc.locked ≡ false → (is_ending q.purge before ≡ true) × KeepsDrains before q after.seat.position after.qdisc
releases local.unlock holds locked unlocks = (refl, still _ _ _ _ _ refl refl)
releases (local.run_end none) holds locked unlocks = (cc, still _ _ _ _ _ refl refl)
releases (local.releases none closed) holds locked unlocks = (cc, still _ _ _ _ _ refl refl)
releases _ holds locked unlocks = absurd cc

-- how the holder comes to a position from which it releases the run lock, with DRAINING set alone
pub data Ends (before : Position) (q : Qdisc) (after : Position) (q' : Qdisc) : Type 0 where
  stays : is_ending q.purge before ≡ true → KeepsDrains before q after q' → Ends before q after q'
  drained : (queue : ℕ) → before ≡ BlockedDrain (NoneTaken queue) → KeepsWay before q after q' → Ends before q after q'

-- a resize only drops packets
cuts : (q : Qdisc) (len : ℕ) → IsBeside (Control true) q (Control true) (record q { bands = map (λ band. take len band) q.bands; len = len })
cuts q len = record {
  missed = λ e. e;
  draining = refl;
  slot = refl;
  purge = refl;
  queues = refl;
  bands = λ k p held. inl (cut-holds q.bands len k p held);
  queued = λ p own c. absurd cc;
}

-- during a purge control isn't about to release the run lock
purges : (purge : Option Purge) (u : Purge) → purge ≡ Some u → is_ending purge (Control true) ≡ true → ⊥
purges (Some v) u under ending = cc
purges None u under ending = cc

pub ends : {sole : Bool} {free : Packet → Type 0} {q : Qdisc} {s : Seat} {before : Position} {after : After} → Local sole free q s before after
    → holds_lock before ≡ true → (is_second_scan before ≡ true → q.draining ≡ false) → (is_purged_phase q.phase ≡ true → q.draining ≡ false)
    → ((u : Purge) → q.purge ≡ Some u → u.draining ≡ true → q.draining ≡ false)
    → is_ending after.qdisc.purge after.seat.position ≡ true → after.qdisc.missed ≡ false → after.qdisc.draining ≡ true
    → after.qdisc.deactivated ≡ false → after.qdisc.sched ≡ false → Ends before q after.seat.position after.qdisc
ends (local.post_clear missed none) holds second purged purging ending clear set active idle = absurd cc
ends (local.test_clear missed none) holds second purged purging ending clear set active idle = absurd cc
ends (local.scan_ends band empty last) holds second purged purging ending clear set active idle = absurd (both_ways _ (second refl) set)
ends (local.drain_none queue) holds second purged purging ending clear set active idle = drained queue refl (same-way _ _ _ _ refl refl refl refl refl refl)
ends (local.loads_inside true) holds second purged purging ending clear set active idle = stays ending (still _ _ _ _ _ refl refl)
ends {q = q} (local.resizes len none) holds second purged purging ending clear set active idle =
    stays ending (record { beside = cuts q len; way = same-way _ _ _ _ refl refl refl refl refl refl })
ends (local.purge_takes u p rest under more at) holds second purged purging ending clear set active idle = absurd (purges _ u under ending)
ends (local.purge_missed_ends u under last other) holds second purged purging ending clear set active idle = absurd (both_ways _ (purging u under other) set)
ends (local.stores_open queue none was) holds second purged purging ending clear set active idle = absurd (both_ways _ (purged was) set)
ends _ holds second purged purging ending clear set active idle = absurd cc

-- A SEAT THAT TAKES THE LOCK

pub takes : {sole : Bool} {free : Packet → Type 0} {q : Qdisc} {s : Seat} {before : Position} {after : After} → Local sole free q s before after
    → holds_lock before ≡ false → is_ending after.qdisc.purge after.seat.position ≡ true → (q.locked ≡ false) × KeepsDrains before q after.seat.position after.qdisc
takes (local.gets_lock unlocked) out ending = (unlocked, still _ _ _ _ _ refl refl)
takes (local.deactivates false active none) out ending = absurd cc
takes (local.deactivates true active none) out ending = absurd cc
takes (local.loads_inside false) out ending = absurd cc
takes (local.loads_inside true) out ending = absurd cc
takes _ out ending = absurd cc

-- THE MACHINE AFTER THE HOLDER'S STEP

pub ends-drains : (m : Machine) (i : ℕ) (a : After) → i < length m.seats → IsInductive m → Ends (seat_at m i).position m.qdisc a.seat.position a.qdisc → Drains (with_seat m i a)
ends-drains m i a within h (stays ending keeps) = drains-on m i a within keeps (h.kept.ending_draining i ending)
ends-drains m i a within h (drained queue at keeps) = λ stuck. absurd
    (both_ways _ (no-way-now m i a keeps stuck) (way-stays m i a (blocking m.qdisc) within keeps (h.kept.blocked_draining i (NoneTaken queue) at)))
