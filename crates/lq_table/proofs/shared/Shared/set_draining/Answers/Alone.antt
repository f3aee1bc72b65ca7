-- What `set_draining` makes of what a seat knows that has the table alone.
use Rattle.std.proofs.Common.{◌≡◌, true, refl}
use Rattle.std.proofs.lemmas.Bool.{false≢true}
use Rattle.lq_model.specs.declared.machine.Blocked.TheVariants.{InHand, NoneTaken}
use Rattle.lq_model.specs.declared.machine.Position.{Position}
use Rattle.lq_model.specs.declared.machine.Position.TheVariants as at
use Rattle.lq_table.specs.Views.{View}
use Rattle.lq_table.specs.States.{set_draining_at, set_bit_view, set_bit_alone, draining_to}
use Rattle.lq_table.specs.Sees.{solo}
use Rattle.lq_table.proofs.SoloSteps.{Sets, set_step}

drain_leaves : (y : Position) → set_draining_at y ≡ true → Sets y (λ q. record q { draining = true })
drain_leaves (at.BlockedDrain (InHand p direct)) h = record { raised = λ seen s. refl; missed = λ q s. refl; draining = λ q s. refl; scheduled = λ q s. refl; locked = λ q s. refl }
drain_leaves (at.BlockedDrain (NoneTaken queue)) h = record { raised = λ seen s. refl; missed = λ q s. refl; draining = λ q s. refl; scheduled = λ q s. refl; locked = λ q s. refl }
drain_leaves _ h = absurd (false≢true h)

pub sets_draining_solo : (v : View) → set_draining_at v.place.position ≡ true → solo (set_bit_view v) ≡ set_bit_alone v (draining_to true (solo v))
sets_draining_solo v h = set_step v (λ q. record q { draining = true }) (drain_leaves v.place.position h)
