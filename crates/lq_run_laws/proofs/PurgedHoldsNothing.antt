-- Once the purge has ended, neither bit is set and nothing is held.
use Rattle.std.proofs.Common.{◌≡◌, ℕ, ◌<◌, ◌≤◌, Bool, true, false, cond, eqb, List, [], ◌⊎◌, inl, inr, Contains, Option, Some, None, refl, sym, ap, ◌∙◌, subst, arith}
use Rattle.std.specs.Prelude.{nat_lt, slice_index_or}
use Rattle.std.proofs.lemmas.Bool.{ltb-false}
use Rattle.lq_model.specs.declared.machine.Packet.{Packet}
use Rattle.lq_model.specs.declared.machine.Phase.{Phase}
use Rattle.lq_model.specs.declared.machine.Phase.TheVariants.{Active, Closing, Quiet, Purged}
use Rattle.lq_model.specs.declared.machine.Position.{Position}
use Rattle.lq_model.specs.declared.machine.Seat.{Seat}
use Rattle.lq_model.specs.Machine.{Qdisc, Machine, Purge, band_at, seat_at}
use Rattle.lq_model.specs.Steps.{After}
use Rattle.lq_model.specs.Control.{is_quiet, found_inside}
use Rattle.lq_model.specs.Positions.{may_be_inside}
use Rattle.lq_model.specs.Kept.{IsInductive, PurgedHoldsNothing}
use Rattle.lq_model.specs.Quiet.{Moves}
use Rattle.lq_run_laws.proofs.Local as local
use Rattle.lq_run_laws.proofs.Local.{Local}
use Rattle.lq_run_laws.proofs.LocalSteps.{Moved, moved}
use Rattle.lq_run_laws.proofs.Undisturbed.{Undisturbed, undisturbed}
use Rattle.lq_run_laws.proofs.Purging.{SoFar, so-far}

-- neither bit is set, and nothing is held
record IsEmpty (q : Qdisc) : Type 0 where
  slot : q.slot ≡ None
  bands : (k : ℕ) → k < 3 → (p : Packet) → Contains (band_at q k) p → ⊥
  missed : q.missed ≡ false
  draining : q.draining ≡ false

-- no load of the calls inside ends a purge
closing-purged : (none : Bool) → cond none Quiet Closing ≡ Purged → ⊥
closing-purged true e = cc
closing-purged false e = cc

found-purged : (inside : ℕ) (phase : Phase) → found_inside inside phase ≡ Purged → phase ≡ Purged
found-purged inside Active e = e
found-purged inside Closing e = absurd (closing-purged (eqb inside 0) e)
found-purged inside Quiet e = e
found-purged inside Purged e = e

stays-empty : {q q' : Qdisc} → Undisturbed q q' → IsEmpty q → IsEmpty q'
stays-empty leaves empty = record {
  slot = leaves.slot empty.slot;
  bands = λ k below p held. empty.bands k below p (leaves.bands k p held);
  missed = leaves.missed empty.missed;
  draining = leaves.draining empty.draining;
}

-- after the last band and both bits everything was purged
all-purged : (q q' : Qdisc) (u : Purge) → SoFar q u → nat_lt u.band 3 ≡ false → q'.slot ≡ q.slot → q'.bands ≡ q.bands → q'.missed ≡ false → q'.draining ≡ false → IsEmpty q'
all-purged q q' u far last slot bands missed draining = record {
  slot = slot ∙ far.slot;
  bands = λ k below p held. far.bands k (let least : 3 ≤ u.band = ltb-false u.band 3 last in omega arith) p (subst (λ (lists : List (List Packet)). Contains (slice_index_or lists k []) p) bands held);
  missed = missed;
  draining = draining;
}

step : {sole : Bool} {free : Packet → Type 0} {q : Qdisc} {s : Seat} {before : Position} {after : After} → Local sole free q s before after
    → (q.phase ≡ Purged → IsEmpty q) → (q.phase ≡ Purged → Undisturbed q after.qdisc) → ((u : Purge) → q.purge ≡ Some u → SoFar q u)
    → after.qdisc.phase ≡ Purged → IsEmpty after.qdisc
step {q = q} (local.purge_missed_ends u under last other) empty leaves far e = all-purged q _ u (far u under) last refl refl refl ((far u under).draining other)
step {q = q} (local.purge_draining_ends u under last other) empty leaves far e = all-purged q _ u (far u under) last refl refl ((far u under).missed other) refl
step {q = q} (local.loads_inside holds) empty leaves far e = let was = found-purged q.inside q.phase e in stays-empty (leaves was) (empty was)
step (local.deactivates holds active none) empty leaves far e = absurd cc
step (local.activates none was) empty leaves far e = absurd cc
step _ empty leaves far e = stays-empty (leaves e) (empty e)

-- a slot that holds no packet is empty
slot-empty : (slot : Option Packet) → ((p : Packet) → slot ≡ Some p → ⊥) → slot ≡ None
slot-empty None none = refl
slot-empty (Some p) none = absurd (none p refl)

pub purged-holds-nothing : (m n : Machine) → IsInductive m → Moves m n → PurgedHoldsNothing n
purged-holds-nothing m n h moves = subst PurgedHoldsNothing (sym t.is) (λ e. let empty = step t.leads before (λ was. undisturbed t.leads (may was)) (so-far m h.purging) e in (record { missed = empty.missed; draining = empty.draining }, λ p. held p empty))
  where
    t : Moved m n
    t = moved m n moves

    before : m.qdisc.phase ≡ Purged → IsEmpty m.qdisc
    before e = let was = h.kept.purged_holds_nothing e in record {
      slot = slot-empty m.qdisc.slot (λ p full. was.1 p (inl full));
      bands = λ k below p there. was.1 p (inr (k, (below, there)));
      missed = was.0.missed;
      draining = was.0.draining;
    }

    may : m.qdisc.phase ≡ Purged → may_be_inside (seat_at m t.i).position ≡ true
    may e = h.kept.quiet_inside (ap is_quiet e) t.i

    held : (p : Packet) → IsEmpty t.after.qdisc → (t.after.qdisc.slot ≡ Some p) ⊎ ((k : ℕ) × ((k < 3) × Contains (band_at t.after.qdisc k) p)) → ⊥
    held p empty (inl full) = let none : t.after.qdisc.slot ≡ None = empty.slot in cc
    held p empty (inr (k, (below, there))) = empty.bands k below p there
