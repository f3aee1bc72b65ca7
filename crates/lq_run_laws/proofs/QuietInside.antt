-- Once the calls inside were loaded as 0 under DEACTIVATED, each later call is on its way out.
use Rattle.std.proofs.Common.{◌≡◌, ℕ, ◌≤◌, Bool, true, false, cond, eqb, ◌⊎◌, inl, inr, length, refl, sym, ap, ◌∙◌, subst, sum_by, arith, eqb-true}
use Rattle.std.proofs.lemmas.Bool.{cases_lt}
use Rattle.std.proofs.lemmas.List.{get_or_past}
use Rattle.std.proofs.lemmas.List.Sums.{get_or-le-sum_by}
use Rattle.lq_model.specs.declared.machine.Packet.{Packet}
use Rattle.lq_model.specs.declared.machine.Phase.{Phase}
use Rattle.lq_model.specs.declared.machine.Phase.TheVariants.{Active, Closing, Quiet, Purged}
use Rattle.lq_model.specs.declared.machine.Position.{Position}
use Rattle.lq_model.specs.declared.machine.Position.TheVariants.{Gate}
use Rattle.lq_model.specs.declared.machine.Seat.{Seat}
use Rattle.lq_model.specs.Machine.{Qdisc, Machine, bit, idle_seat, is_closed, seat_at}
use Rattle.lq_model.specs.Steps.{After}
use Rattle.lq_model.specs.Control.{is_quiet, found_inside, after_purge}
use Rattle.lq_model.specs.Positions.{is_inside, may_be_inside}
use Rattle.lq_model.specs.Kept.{IsInductive, CallsInside, QuietInside}
use Rattle.lq_model.specs.Quiet.{Moves}
use Rattle.lq_run_laws.proofs.Local as local
use Rattle.lq_run_laws.proofs.Local.{Local}
use Rattle.lq_run_laws.proofs.LocalSteps.{Moved, moved}
use Rattle.lq_run_laws.proofs.Frames.{each-seat}

-- a quiet phase is one of a deactivation
pub quiet-closed : (phase : Phase) → is_quiet phase ≡ true → is_closed phase ≡ true
quiet-closed Active quiet = cc
quiet-closed Closing quiet = refl
quiet-closed Quiet quiet = refl
quiet-closed Purged quiet = refl

-- a phase that a load made quiet, was so, or nobody was inside
closing-quiet : (none : Bool) → is_quiet (cond none Quiet Closing) ≡ true → none ≡ true
closing-quiet true quiet = refl
closing-quiet false quiet = cc

found-quiet : (inside : ℕ) (phase : Phase) → is_quiet (found_inside inside phase) ≡ true → (is_quiet phase ≡ true) ⊎ (inside ≡ 0)
found-quiet inside Active quiet = inl quiet
found-quiet inside Closing quiet = inr (eqb-true inside 0 (closing-quiet (eqb inside 0) quiet))
found-quiet inside Quiet quiet = inl quiet
found-quiet inside Purged quiet = inl quiet

-- a phase that the end of a purge left quiet was so
purged-quiet : (phase : Phase) → is_quiet (after_purge phase) ≡ true → is_quiet phase ≡ true
purged-quiet Active quiet = quiet
purged-quiet Closing quiet = quiet
purged-quiet Quiet quiet = refl
purged-quiet Purged quiet = quiet

-- a step that leaves the phase quiet found it so, or is control's load of no call inside
quiet-came : {sole : Bool} {free : Packet → Type 0} {q : Qdisc} {s : Seat} {before : Position} {after : After} → Local sole free q s before after
    → is_quiet after.qdisc.phase ≡ true → (is_quiet q.phase ≡ true) ⊎ ((q.inside ≡ 0) × (after.seat.position ≡ before))
quiet-came {q = q} (local.loads_inside holds) quiet = elim (found-quiet q.inside q.phase quiet) [ inl was ↦ inl was | inr none ↦ inr (none, refl) ]
quiet-came {q = q} (local.purge_missed_ends u under last other) quiet = inl (purged-quiet q.phase quiet)
quiet-came {q = q} (local.purge_draining_ends u under last other) quiet = inl (purged-quiet q.phase quiet)
quiet-came (local.deactivates holds active none) quiet = absurd cc
quiet-came (local.activates none was) quiet = absurd cc
quiet-came _ quiet = inl quiet

-- under DEACTIVATED a call that is on its way out stays so, and a new one is
goes-out : {sole : Bool} {free : Packet → Type 0} {q : Qdisc} {s : Seat} {before : Position} {after : After} → Local sole free q s before after → q.deactivated ≡ true → may_be_inside before ≡ true → may_be_inside after.seat.position ≡ true
goes-out (local.check_direct p active) closed may = cc
goes-out (local.check_put p active) closed may = cc
goes-out (local.soft_active active) closed may = cc
goes-out (local.late_tries active) closed may = cc
goes-out _ closed may = cc

-- a seat outside may stand there
outside-may : (position : Position) → is_inside position ≡ false → may_be_inside position ≡ true
outside-may (Gate p direct) out = cc
outside-may _ out = cc

bit-zero : (b : Bool) → bit b ≤ 0 → b ≡ false
bit-zero true h = absurd (omega arith)
bit-zero false h = refl

-- with no call inside, every seat is outside
none-inside : (m : Machine) (i : ℕ) → CallsInside m → m.qdisc.inside ≡ 0 → is_inside (seat_at m i).position ≡ false
none-inside m i counts none = elim (cases_lt i (length m.seats)) [
  | inl within ↦ bit-zero _ (let least : bit (is_inside (seat_at m i).position) ≤ sum_by (λ (s : Seat). bit (is_inside s.position)) m.seats = get_or-le-sum_by (λ (s : Seat). bit (is_inside s.position)) m.seats i idle_seat within in omega (arith, least, counts, none))
  | inr past ↦ ap (λ (s : Seat). is_inside s.position) (get_or_past m.seats i idle_seat past)
]

pub quiet-inside : (m n : Machine) → IsInductive m → Moves m n → QuietInside n
quiet-inside m n h moves = subst QuietInside (sym t.is) (λ quiet. each-seat m t.i t.after (λ (s : Seat). may_be_inside s.position ≡ true) t.inside (mine (quiet-came t.leads quiet)) (λ j other. theirs j (quiet-came t.leads quiet)))
  where
    t : Moved m n
    t = moved m n moves

    theirs : (j : ℕ) → (is_quiet m.qdisc.phase ≡ true) ⊎ ((m.qdisc.inside ≡ 0) × (t.after.seat.position ≡ (seat_at m t.i).position)) → may_be_inside (seat_at m j).position ≡ true
    theirs j (inl quiet) = h.kept.quiet_inside quiet j
    theirs j (inr found) = outside-may (seat_at m j).position (none-inside m j h.kept.calls_inside found.0)

    mine : (is_quiet m.qdisc.phase ≡ true) ⊎ ((m.qdisc.inside ≡ 0) × (t.after.seat.position ≡ (seat_at m t.i).position)) → may_be_inside t.after.seat.position ≡ true
    mine (inl quiet) = goes-out t.leads (h.deactivation ∙ quiet-closed m.qdisc.phase quiet) (h.kept.quiet_inside quiet t.i)
    mine (inr found) = ap may_be_inside found.1 ∙ theirs t.i (inr found)
