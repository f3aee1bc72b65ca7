-- What `leave` makes of what a seat knows that has the table alone.
use Rattle.std.proofs.Common.{◌≡◌, ◌-◌, refl, sym, subst}
use Rattle.lq_model.specs.declared.machine.Position.{Position}
use Rattle.lq_model.specs.declared.machine.Position.TheVariants as at
use Rattle.lq_table.specs.Views.{View}
use Rattle.lq_table.specs.Moves.{seen_by, pass_view}
use Rattle.lq_table.specs.Sees.{solo}
use Rattle.lq_table.proofs.SoloSteps.{Leaves, solo_step}

leave_leaves : Leaves at.Leave (λ q. record q { inside = q.inside - 1 })
leave_leaves = record { raised = λ seen s. refl; words = λ q s. refl }

module _ (v : View) where
  pub leaves_solo : v.place.position ≡ at.Leave → solo (pass_view v) ≡ solo v
  leaves_solo is = solo_step v (seen_by v) (λ q. record q { inside = q.inside - 1 }) (subst (λ (y : Position). Leaves y (λ q. record q { inside = q.inside - 1 })) (sym is) leave_leaves)
