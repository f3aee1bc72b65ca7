-- What `enter` makes of what a seat knows that has the table alone.
use Rattle.std.proofs.Common.{◌≡◌, refl, Option, Some, None}
use Rattle.std.specs.Prelude.{is_some}
use Rattle.lq_model.specs.declared.machine.Answer.TheVariants.{Plain}
use Rattle.lq_model.specs.declared.machine.Packet.{Packet}
use Rattle.lq_model.specs.Steps.{begun}
use Rattle.lq_table.specs.Views.{View}
use Rattle.lq_table.specs.Moves.{seen_by, stepped}
use Rattle.lq_table.specs.Inside.{enter_view, bringing_packet, call_of, enter_alone}
use Rattle.lq_table.specs.Sees.{solo}

module _ (v : View) where
  pub enters_solo : solo (enter_view v) ≡ enter_alone (is_some (bringing_packet v)) (solo v)
  enters_solo = by (bringing_packet v)
    where
      by : (o : Option Packet) → solo (stepped Plain (seen_by v) (record v { place = begun (call_of o) v.place })) ≡ enter_alone (is_some o) (solo v)
      by (Some p) = refl
      by None = refl
