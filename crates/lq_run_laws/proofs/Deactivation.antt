-- DEACTIVATED is set exactly where a deactivation is under way.
use Rattle.std.proofs.Common.{◌≡◌, ℕ, Bool, true, false, cond, eqb, refl, sym, ◌∙◌, subst}
use Rattle.lq_model.specs.declared.machine.Packet.{Packet}
use Rattle.lq_model.specs.declared.machine.Phase.{Phase}
use Rattle.lq_model.specs.declared.machine.Phase.TheVariants.{Active, Closing, Quiet, Purged}
use Rattle.lq_model.specs.declared.machine.Position.{Position}
use Rattle.lq_model.specs.declared.machine.Seat.{Seat}
use Rattle.lq_model.specs.Machine.{Qdisc, Machine, is_closed}
use Rattle.lq_model.specs.Steps.{After}
use Rattle.lq_model.specs.Control.{found_inside, after_purge}
use Rattle.lq_model.specs.Kept.{IsInductive, Deactivation}
use Rattle.lq_model.specs.Quiet.{Moves}
use Rattle.lq_run_laws.proofs.Local as local
use Rattle.lq_run_laws.proofs.Local.{Local}
use Rattle.lq_run_laws.proofs.LocalSteps.{moved}

-- a deactivation goes on where the calls inside are loaded
closing-found : (none : Bool) → is_closed (cond none Quiet Closing) ≡ true
closing-found true = refl
closing-found false = refl

found-closed : (inside : ℕ) (phase : Phase) → is_closed (found_inside inside phase) ≡ is_closed phase
found-closed inside Active = refl
found-closed inside Closing = closing-found (eqb inside 0)
found-closed inside Quiet = refl
found-closed inside Purged = refl

-- and where its purge ends
purged-closed : (phase : Phase) → is_closed (after_purge phase) ≡ is_closed phase
purged-closed Active = refl
purged-closed Closing = refl
purged-closed Quiet = refl
purged-closed Purged = refl

step : {sole : Bool} {free : Packet → Type 0} {q : Qdisc} {s : Seat} {before : Position} {after : After} → Local sole free q s before after → q.deactivated ≡ is_closed q.phase → after.qdisc.deactivated ≡ is_closed after.qdisc.phase
step {q = q} (local.loads_inside holds) kept = kept ∙ sym (found-closed q.inside q.phase)
step {q = q} (local.purge_missed_ends u under last other) kept = kept ∙ sym (purged-closed q.phase)
step {q = q} (local.purge_draining_ends u under last other) kept = kept ∙ sym (purged-closed q.phase)
step _ kept = cc

pub deactivation : (m n : Machine) → IsInductive m → Moves m n → Deactivation n
deactivation m n h moves = let t = moved m n moves in subst Deactivation (sym t.is) (step t.leads h.deactivation)
