-- The card whose times are told.
use Rattle.std.proofs.Common.{◌≡◌, ◌==◌, Bool, true, false, cond, All, List, Option, None, Some, slice_get, refl}
use Rattle.std.specs.Option.{option_and_then}
use Rattle.lq_card_laws.specs.Laws.{FitsCard}
use Rattle.lq_model.specs.Plan.{Plan, card_of}
use Rattle.lq_model.specs.declared.fate.Info.{Info}
use Rattle.lq_model.specs.declared.plan.Card.{Card}
use Rattle.lq_model.specs.declared.plan.StationPlan.{StationPlan}
use Rattle.lq_plan.specs.Limits.{IsWithinLimits}
use Rattle.lq_plan.specs.Packets.{IsInfoWithin}
use Rattle.lq_wire.proofs.Fits.{card-fits}
use Rattle.lq_files.specs.RunFiles.{card_told}

of-station : (o : Option StationPlan) (card : Card) → option_and_then (λ s. s.card) o ≡ Some card → (station : StationPlan) × (o ≡ Some station) × (station.card ≡ Some card)
of-station None card is = absurd cc
of-station (Some station) card is = (station, refl, is)

told-of : (b : Bool) (o : Option Card) (card : Card) → cond b o None ≡ Some card → o ≡ Some card
told-of true o card is = is
told-of false o card is = absurd cc

-- the plan fits the card whose times are told
pub told-fits : (plan : Plan) (infos : List Info) (card : Card) → IsWithinLimits plan → All (IsInfoWithin plan) infos → card_told plan ≡ Some card → (station : StationPlan) × FitsCard plan infos station
told-fits plan infos card limits within is =
    let of = of-station (slice_get plan.stations 0) card (told-of (plan.senders == 1) (card_of plan) card is) in card-fits plan infos of.0 card limits within of.1 of.2
