-- What control knows of a table that its seat has alone.
use Rattle.std.proofs.Common.{◌≡◌, ℕ, true, false, List, ap, ◌∙◌}
use Rattle.lq_model.specs.Account.{Down, Purge as PurgeEvent}
use Rattle.lq_model.specs.declared.fate.Cause.TheVariants as cause
use Rattle.lq_model.specs.declared.machine.Phase.{Phase}
use Rattle.lq_model.specs.declared.machine.Phase.TheVariants.{Quiet}
use Rattle.lq_table.specs.Views.{View}
use Rattle.lq_table.specs.Controls.{set_deactivated_view}
use Rattle.lq_table.specs.Sees.{Solo, solo, heard}
use Rattle.lq_table.specs.Locks.{locked_to}
use Rattle.lq_table.specs.States.{missed_to, draining_to}
use Rattle.lq_control.specs.Control.{IsPurged, phased, with_lock_free, deactivated_solo}

-- what is left after a deactivation
pub deactivated_is : (event n : ℕ) (p : Phase) (lost : List ℕ) (v v2 v3 v4 v5 : View) → n ≡ event → v2 ≡ phased Quiet p (set_deactivated_view event v) → solo v3 ≡ locked_to true (solo v2) → IsPurged (cause.Event n) lost v3 v4 → v5 ≡ with_lock_free v4 → solo v5 ≡ deactivated_solo event (solo v)
deactivated_is event n p lost v v2 v3 v4 v5 same e2 s3 purged e5 =
    let s2 : solo v2 ≡ heard (Down event) (solo v) = ap solo e2 in
    let s4 = ap solo purged.is ∙ purged.alone in
    let after = λ (m : ℕ) (s : Solo). locked_to false (missed_to false (draining_to false (heard (PurgeEvent (cause.Event m)) s))) in
    ap solo e5 ∙ (ap (λ (s : Solo). locked_to false s) s4 ∙ (λ j. after (same j) ((s3 ∙ ap (locked_to true) s2) j)))
