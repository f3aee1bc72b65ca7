-- What `clear_sched` makes of what a seat knows that has the table alone.
use Rattle.std.proofs.Common.{◌≡◌, true, false, refl}
use Rattle.std.proofs.lemmas.Bool.{false≢true}
use Rattle.lq_model.specs.declared.machine.Position.{Position}
use Rattle.lq_model.specs.declared.machine.Position.TheVariants as at
use Rattle.lq_table.specs.Views.{View}
use Rattle.lq_table.specs.Moves.{seen_by, pass_view}
use Rattle.lq_table.specs.States.{clear_sched_at, clear_sched_alone}
use Rattle.lq_table.specs.Sees.{solo}
use Rattle.lq_table.proofs.SoloSteps.{Leaves, solo_step}

clear_sched_leaves : (y : Position) → clear_sched_at y ≡ true → Leaves y (λ q. record q { sched = false })
clear_sched_leaves (at.SoftClear deactivated) h = record { raised = λ seen s. refl; words = λ q s. refl }
clear_sched_leaves _ h = absurd (false≢true h)

pub clears_sched_solo : (v : View) → clear_sched_at v.place.position ≡ true → solo (pass_view v) ≡ clear_sched_alone (solo v)
clears_sched_solo v h = solo_step v (seen_by v) (λ q. record q { sched = false }) (clear_sched_leaves v.place.position h)
