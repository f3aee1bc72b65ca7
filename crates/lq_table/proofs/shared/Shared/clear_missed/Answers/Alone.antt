-- What `clear_missed` makes of what a seat knows that has the table alone.
use Rattle.std.proofs.Common.{◌≡◌, true, false, refl}
use Rattle.std.proofs.lemmas.Bool.{false≢true}
use Rattle.lq_model.specs.declared.machine.Position.{Position}
use Rattle.lq_model.specs.declared.machine.Position.TheVariants as at
use Rattle.lq_table.specs.Views.{View}
use Rattle.lq_table.specs.Moves.{seen_by, pass_view}
use Rattle.lq_table.specs.States.{clear_missed_at, missed_to}
use Rattle.lq_table.specs.Sees.{solo}
use Rattle.lq_table.proofs.SoloSteps.{Leaves, solo_step}

clear_missed_leaves : (y : Position) → clear_missed_at y ≡ true → Leaves y (λ q. record q { missed = false })
clear_missed_leaves at.ClearMissed h = record { raised = λ seen s. refl; words = λ q s. refl }
clear_missed_leaves (at.BlockedClear b) h = record { raised = λ seen s. refl; words = λ q s. refl }
clear_missed_leaves _ h = absurd (false≢true h)

pub clears_missed_solo : (v : View) → clear_missed_at v.place.position ≡ true → solo (pass_view v) ≡ missed_to false (solo v)
clears_missed_solo v h = solo_step v (seen_by v) (λ q. record q { missed = false }) (clear_missed_leaves v.place.position h)
