-- What `set_missed` makes of what a seat knows that has the table alone.
use Rattle.std.proofs.Common.{◌≡◌, true, refl}
use Rattle.std.proofs.lemmas.Bool.{false≢true}
use Rattle.lq_model.specs.declared.machine.Blocked.TheVariants.{InHand, NoneTaken}
use Rattle.lq_model.specs.declared.machine.Position.{Position}
use Rattle.lq_model.specs.declared.machine.Position.TheVariants as at
use Rattle.lq_table.specs.Views.{View}
use Rattle.lq_table.specs.States.{set_missed_at, set_bit_view, set_bit_alone, missed_to}
use Rattle.lq_table.specs.Sees.{solo}
use Rattle.lq_table.proofs.SoloSteps.{Sets, set_step}

set_leaves : (y : Position) → set_missed_at y ≡ true → Sets y (λ q. record q { missed = true })
set_leaves at.Again h = record { raised = λ seen s. refl; missed = λ q s. refl; draining = λ q s. refl; scheduled = λ q s. refl; locked = λ q s. refl }
set_leaves at.Quota h = record { raised = λ seen s. refl; missed = λ q s. refl; draining = λ q s. refl; scheduled = λ q s. refl; locked = λ q s. refl }
set_leaves (at.BlockedMiss (InHand p direct)) h = record { raised = λ seen s. refl; missed = λ q s. refl; draining = λ q s. refl; scheduled = λ q s. refl; locked = λ q s. refl }
set_leaves (at.BlockedMiss (NoneTaken queue)) h = record { raised = λ seen s. refl; missed = λ q s. refl; draining = λ q s. refl; scheduled = λ q s. refl; locked = λ q s. refl }
set_leaves _ h = absurd (false≢true h)

pub sets_missed_solo : (v : View) → set_missed_at v.place.position ≡ true → solo (set_bit_view v) ≡ set_bit_alone v (missed_to true (solo v))
sets_missed_solo v h = set_step v (λ q. record q { missed = true }) (set_leaves v.place.position h)
