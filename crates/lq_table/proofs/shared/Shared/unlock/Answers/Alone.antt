-- What `unlock` makes of what a seat knows that has the table alone.
use Rattle.std.proofs.Common.{◌≡◌, ℕ, Bool, true, false, refl, sym, ap, ◌∙◌, subst, Option}
use Rattle.std.proofs.lemmas.Bool.{false≢true}
use Rattle.std.specs.Prelude.{if◌then◌else◌}
use Rattle.lq_model.specs.declared.machine.Position.{Position}
use Rattle.lq_model.specs.declared.machine.Position.TheVariants as at
use Rattle.lq_model.specs.Machine.{Purge}
use Rattle.lq_model.specs.Control.{is_control}
use Rattle.lq_table.specs.Views.{View}
use Rattle.lq_table.specs.Moves.{seen_by}
use Rattle.lq_table.specs.Locks.{unlock_at, unlock_view, unlock_view_in_control, unlock_view_in_call, seen_lock, locked_to}
use Rattle.lq_table.specs.Sees.{solo}
use Rattle.lq_table.proofs.SoloSteps.{Leaves, solo_step}

module _ (v : View) where
  pub unlocks_solo : (purge : Option Purge) (shut : Option ℕ) → unlock_at v.place.position purge shut ≡ true → solo (unlock_view v) ≡ locked_to false (solo v)
  unlocks_solo purge shut h = by v.place.position refl h
    where
      by : (y : Position) → v.place.position ≡ y → unlock_at y purge shut ≡ true → solo (unlock_view v) ≡ locked_to false (solo v)
      by at.Unlock is h' = ap (λ (b : Bool). solo (if b then unlock_view_in_control v else unlock_view_in_call v)) (ap is_control is)
          ∙ solo_step v (seen_lock (seen_by v) false) (λ q. record q { locked = false }) (subst (λ (y : Position). Leaves y (λ q. record q { locked = false })) (sym is) record { raised = λ seen s. refl; words = λ q s. refl })
      by (at.Control holds) is h' = ap (λ (b : Bool). solo (if b then unlock_view_in_control v else unlock_view_in_call v)) (ap is_control is)
      by _ is h' = absurd (false≢true h')
