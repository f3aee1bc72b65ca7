-- What `clear_draining` makes of what a seat knows that has the table alone.
use Rattle.std.proofs.Common.{◌≡◌, true, false, refl}
use Rattle.std.proofs.lemmas.Bool.{false≢true}
use Rattle.lq_model.specs.declared.machine.Position.{Position}
use Rattle.lq_model.specs.declared.machine.Position.TheVariants as at
use Rattle.lq_table.specs.Views.{View}
use Rattle.lq_table.specs.Moves.{seen_by, pass_view}
use Rattle.lq_table.specs.States.{clear_draining_at, draining_to}
use Rattle.lq_table.specs.Sees.{solo}
use Rattle.lq_table.proofs.SoloSteps.{Leaves, solo_step}

clear_draining_leaves : (y : Position) → clear_draining_at y ≡ true → Leaves y (λ q. record q { draining = false })
clear_draining_leaves at.ClearDraining h = record { raised = λ seen s. refl; words = λ q s. refl }
clear_draining_leaves _ h = absurd (false≢true h)

pub clears_draining_solo : (v : View) → clear_draining_at v.place.position ≡ true → solo (pass_view v) ≡ draining_to false (solo v)
clears_draining_solo v h = solo_step v (seen_by v) (λ q. record q { draining = false }) (clear_draining_leaves v.place.position h)
