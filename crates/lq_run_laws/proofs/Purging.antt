-- What a purge half done has left.
use Rattle.std.proofs.Common.{◌≡◌, ◌≢◌, ℕ, ◌+◌, ◌<◌, ◌≤◌, Bool, true, false, List, [], ◌⊎◌, inl, inr, length, Contains, Some, None, refl, sym, ap, ◌∙◌, subst, arith, eqb-true}
use Rattle.std.specs.Prelude.{◌||◌, slice_index_or}
use Rattle.std.proofs.lemmas.Bool.{cases_lt, cases_eq}
use Rattle.std.proofs.lemmas.List.{length-set}
use Rattle.lq_model.specs.declared.machine.Packet.{Packet}
use Rattle.lq_model.specs.declared.machine.Phase.{Phase}
use Rattle.lq_model.specs.declared.machine.Phase.TheVariants.{Active, Closing, Quiet, Purged}
use Rattle.lq_model.specs.declared.machine.Position.{Position}
use Rattle.lq_model.specs.declared.machine.Position.TheVariants.{Control}
use Rattle.lq_model.specs.declared.machine.Seat.{Seat}
use Rattle.lq_model.specs.Machine.{Qdisc, Machine, Purge, band_at, seat_at}
use Rattle.lq_model.specs.Steps.{After, with_seat}
use Rattle.lq_model.specs.Control.{is_quiet, is_sole, found_inside}
use Rattle.lq_model.specs.Positions.{may_be_inside}
use Rattle.lq_model.specs.Kept.{IsInductive, Purging, IsPurging}
use Rattle.lq_model.specs.Quiet.{Moves}
use Rattle.lq_run_laws.proofs.Local as local
use Rattle.lq_run_laws.proofs.Local.{Local}
use Rattle.lq_run_laws.proofs.LocalSteps.{Moved, moved}
use Rattle.lq_run_laws.proofs.Frames.{seat-moved, seat-other}
use Rattle.lq_run_laws.proofs.Bands.{empty-holds}
use Rattle.lq_run_laws.proofs.Undisturbed.{Undisturbed, undisturbed}

-- the part that speaks of the qdisc
pub record SoFar (q : Qdisc) (u : Purge) : Type 0 where
  pub slot : q.slot ≡ None
  pub bands : (k : ℕ) → k < u.band → (p : Packet) → Contains (band_at q k) p → ⊥
  pub missed : u.missed ≡ true → q.missed ≡ false
  pub draining : u.draining ≡ true → q.draining ≡ false

pub so-far : (m : Machine) → Purging m → (u : Purge) → m.qdisc.purge ≡ Some u → SoFar m.qdisc u
so-far m purging u under = let c = purging u under in record { slot = c.slot; bands = c.bands; missed = c.missed; draining = c.draining }

-- a step that disturbs nothing carries it on
carried : {q q' : Qdisc} {u : Purge} → Undisturbed q q' → SoFar q u → SoFar q' u
carried leaves far = record {
  slot = leaves.slot far.slot;
  bands = λ k below p held. far.bands k below p (leaves.bands k p held);
  missed = λ done. leaves.missed (far.missed done);
  draining = λ done. leaves.draining (far.draining done);
}

-- a purge begins with the requeue slot
begun : (q : Qdisc) (u : Purge) → q.slot ≡ None → record { band = 0; missed = false; draining = false } ≡ u → SoFar q u
begun q u slot is = subst (λ (w : Purge). SoFar q w) is (record { slot = slot; bands = none; missed = λ done. cc; draining = λ done. cc })
  where
    none : (k : ℕ) → k < 0 → (p : Packet) → Contains (band_at q k) p → ⊥
    none k below p held = omega arith

-- it found one more band empty
one-more : (q q' : Qdisc) (v u : Purge) → SoFar q v → band_at q v.band ≡ [] → q'.slot ≡ q.slot → q'.bands ≡ q.bands → q'.missed ≡ q.missed → q'.draining ≡ q.draining → record v { band = v.band + 1 } ≡ u → SoFar q' u
one-more q q' v u far empty slot bands missed draining is = subst (λ (w : Purge). SoFar q' w) is (record {
  slot = slot ∙ far.slot;
  bands = λ k below p held. lower k below p (subst (λ (lists : List (List Packet)). Contains (slice_index_or lists k []) p) bands held) (cases_lt k v.band);
  missed = λ done. missed ∙ far.missed done;
  draining = λ done. draining ∙ far.draining done;
})
  where
    lower : (k : ℕ) → k < v.band + 1 → (p : Packet) → Contains (band_at q k) p → (k < v.band) ⊎ (v.band ≤ k) → ⊥
    lower k below p held (inl less) = far.bands k less p held
    lower k below p held (inr more) = empty-holds (band_at q k) p (let same : k ≡ v.band = omega arith in ap (band_at q) same ∙ empty) held

-- it cleared a bit after the last band
missed-done : (q q' : Qdisc) (v u : Purge) → SoFar q v → q'.slot ≡ q.slot → q'.bands ≡ q.bands → q'.missed ≡ false → q'.draining ≡ q.draining → record v { missed = true } ≡ u → SoFar q' u
missed-done q q' v u far slot bands missed draining is = subst (λ (w : Purge). SoFar q' w) is (record {
  slot = slot ∙ far.slot;
  bands = λ k below p held. far.bands k below p (subst (λ (lists : List (List Packet)). Contains (slice_index_or lists k []) p) bands held);
  missed = λ done. missed;
  draining = λ done. draining ∙ far.draining done;
})

-- or the other
draining-done : (q q' : Qdisc) (v u : Purge) → SoFar q v → q'.slot ≡ q.slot → q'.bands ≡ q.bands → q'.missed ≡ q.missed → q'.draining ≡ false → record v { draining = true } ≡ u → SoFar q' u
draining-done q q' v u far slot bands missed draining is = subst (λ (w : Purge). SoFar q' w) is (record {
  slot = slot ∙ far.slot;
  bands = λ k below p held. far.bands k below p (subst (λ (lists : List (List Packet)). Contains (slice_index_or lists k []) p) bands held);
  missed = λ done. missed ∙ far.missed done;
  draining = λ done. draining;
})

-- the part that speaks of the qdisc is kept
goes-on : {sole : Bool} {free : Packet → Type 0} {q : Qdisc} {s : Seat} {before : Position} {after : After} → Local sole free q s before after
    → ((u : Purge) → q.purge ≡ Some u → SoFar q u) → ((u : Purge) → q.purge ≡ Some u → may_be_inside before ≡ true)
    → (u : Purge) → after.qdisc.purge ≡ Some u → SoFar after.qdisc u
goes-on (local.purge_begins none may_purge) far may u e = begun _ u refl (cc)
goes-on {q = q} (local.purge_next v under more empty) far may u e = one-more q _ v u (far v under) empty refl refl refl refl (cc)
goes-on {q = q} (local.purge_missed v under last other) far may u e = missed-done q _ v u (far v under) refl refl refl refl (cc)
goes-on {q = q} (local.purge_draining v under last other) far may u e = draining-done q _ v u (far v under) refl refl refl refl (cc)
goes-on (local.purge_missed_ends v under last other) far may u e = absurd cc
goes-on (local.purge_draining_ends v under last other) far may u e = absurd cc
goes-on same far may u e = carried (undisturbed same (may u (cc))) (far u (cc))

-- WHO IS ALONE

-- while a purge is half done control stays at it, and the phase stays quiet
stays-control : {sole : Bool} {free : Packet → Type 0} {q : Qdisc} {s : Seat} {before : Position} {after : After} → Local sole free q s before after → (u : Purge) → q.purge ≡ Some u → before ≡ Control true → after.seat.position ≡ Control true
stays-control (local.run_end none) u under at = absurd cc
stays-control (local.releases none closed) u under at = absurd cc
stays-control _ u under at = cc

-- a quiet phase stays so where the calls inside are loaded
still-quiet : (inside : ℕ) (phase : Phase) → is_quiet phase ≡ true → is_quiet (found_inside inside phase) ≡ true
still-quiet inside Active quiet = quiet
still-quiet inside Closing quiet = absurd cc
still-quiet inside Quiet quiet = quiet
still-quiet inside Purged quiet = quiet

-- where a purge is half done after a step: it was before, and a quiet phase stays so; or control began it
data Under (sole : Bool) (q : Qdisc) (after : After) : Type 0 where
  was : (u : Purge) → q.purge ≡ Some u → (is_quiet q.phase ≡ true → is_quiet after.qdisc.phase ≡ true) → Under sole q after
  began : (is_quiet q.phase || sole) ≡ true → after.seat.position ≡ Control true → after.qdisc.phase ≡ q.phase → Under sole q after

under : {sole : Bool} {free : Packet → Type 0} {q : Qdisc} {s : Seat} {before : Position} {after : After} → Local sole free q s before after → (u : Purge) → after.qdisc.purge ≡ Some u → Under sole q after
under (local.purge_begins none may) u e = began may refl refl
under (local.purge_next v at more empty) u e = was v at (λ quiet. quiet)
under (local.purge_missed v at last other) u e = was v at (λ quiet. quiet)
under (local.purge_draining v at last other) u e = was v at (λ quiet. quiet)
under {q = q} (local.loads_inside holds) u e = was u e (still-quiet q.inside q.phase)
under (local.deactivates holds active none) u e = absurd cc
under (local.activates none purged) u e = absurd cc
under _ u e = was u (cc) (λ quiet. cc)

-- each of the machine's seats is control with the lock
abbrev Alone : Machine → Type 0
Alone m = (i : ℕ) → i < length m.seats → (seat_at m i).position ≡ Control true

or-cases : (a b : Bool) → (a || b) ≡ true → (a ≡ true) ⊎ (b ≡ true)
or-cases true b e = inl refl
or-cases false b e = inr e

-- a machine of seats that are all control with the lock, after one of them moved
alone-now : (m : Machine) (i : ℕ) (a : After) → i < length m.seats → a.seat.position ≡ Control true → ((j : ℕ) → j ≢ i → j < length m.seats → (seat_at m j).position ≡ Control true) → Alone (with_seat m i a)
alone-now m i a within mine others j inside = elim (cases_eq j i) [
  | inl same ↦ ap (λ (s : Seat). s.position) (ap (seat_at (with_seat m i a)) same ∙ seat-moved m i a within) ∙ mine
  | inr other ↦ ap (λ (s : Seat). s.position) (seat-other m i j a other) ∙ others j other (rw (← (length-set m.seats i a.seat)) inside)
]

-- of a sole seat there is no other
sole-seat : (m : Machine) (i j : ℕ) → is_sole m ≡ true → i < length m.seats → j < length m.seats → j ≡ i
sole-seat m i j sole within inside = let one : length m.seats ≡ 1 = eqb-true (length m.seats) 1 sole in omega arith

-- THE SENTENCE

pub purging : (m n : Machine) → IsInductive m → Moves m n → Purging n
purging m n h moves = subst Purging (sym t.is) kept
  where
    t : Moved m n
    t = moved m n moves

    before : (u : Purge) → m.qdisc.purge ≡ Some u → (is_quiet m.qdisc.phase ≡ true) ⊎ Alone m
    before u e = (h.purging u e).alone

    may : (u : Purge) → m.qdisc.purge ≡ Some u → may_be_inside (seat_at m t.i).position ≡ true
    may u e = elim (before u e) [ inl quiet ↦ h.kept.quiet_inside quiet t.i | inr all ↦ ap may_be_inside (all t.i t.inside) ]

    alone : Under (is_sole m) m.qdisc t.after → (is_quiet t.after.qdisc.phase ≡ true) ⊎ Alone (with_seat m t.i t.after)
    alone (was v e quiet) = elim (before v e) [
      | inl still ↦ inl (quiet still)
      | inr all ↦ inr (alone-now m t.i t.after t.inside (stays-control t.leads v e (all t.i t.inside)) (λ j other inside. all j inside))
    ]
    alone (began may at same) = elim (or-cases (is_quiet m.qdisc.phase) (is_sole m) may) [
      | inl quiet ↦ inl (ap is_quiet same ∙ quiet)
      | inr sole ↦ inr (alone-now m t.i t.after t.inside at (λ j other inside. absurd (other (sole-seat m t.i j sole t.inside inside))))
    ]

    kept : (u : Purge) → t.after.qdisc.purge ≡ Some u → IsPurging (with_seat m t.i t.after) u
    kept u e =
        let far = goes-on t.leads (so-far m h.purging) may u e in
        record { slot = far.slot; bands = far.bands; missed = far.missed; draining = far.draining; alone = alone (under t.leads u e) }
