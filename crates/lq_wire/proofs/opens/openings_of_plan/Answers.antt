use Rattle.std.proofs.Common.{◌≡◌, ℕ, List, Option, None, Some, length, map, get_or, slice_get, sym, ap, ◌∙◌, arith}
use Rattle.lq_model.proofs.FirstNumbers.{at_number, length_for_each}
use Rattle.lq_model.specs.Capture.{Packets}
use Rattle.lq_model.specs.Numbers.{first_numbers}
use Rattle.lq_model.specs.Openings.{openings, openings_by}
use Rattle.lq_model.specs.Plan.{Plan, card_of, info_of, infos_of}
use Rattle.lq_model.specs.Wire.{openings_of_card}
use Rattle.lq_model.specs.declared.fate.Info.{Info}
use Rattle.lq_model.specs.declared.plan.Card.{Card}
use Rattle.lq_model.specs.declared.plan.StationPlan.{StationPlan}
use Rattle.lq_wire.proofs.Fits.{card-fits}
use Rattle.lq_wire.proofs.OnOk.{if-ok}
use Rattle.lq_wire.proofs.opens.openings_of_plan.Goals as goal
use Rattle.std.specs.Option.{option_and_then, option_map_or}

-- the card of the plan is that of its first station
card-is : (plan : Plan) (station : StationPlan) (card : Option Card) → slice_get plan.stations 0 ≡ Some station → station.card ≡ card → card_of plan ≡ card
card-is plan station card at is = ap (option_and_then (λ s. s.card)) at ∙ is

-- by the plan's card, or as the plan's `irq` says
opens-as : (plan : Plan) (packets : Packets) (n : ℕ) (card : Option Card) → card_of plan ≡ card
    → openings plan packets n ≡ option_map_or (λ k. openings_of_card k plan packets (infos_of plan packets) n) card (openings_by plan.irq plan packets n)
opens-as plan packets n card is = ap (λ (o : Option Card). option_map_or (λ k. openings_of_card k plan packets (infos_of plan packets) n) o (openings_by plan.irq plan packets n)) is

pub times_of_wire-requires-clause-fits : goal.times_of_wire-requires-clause-fits
times_of_wire-requires-clause-fits g c =
    card-fits c.args.plan.now c.args.infos.now c.station.result c.in-Some.card c.stays_within_limits.ensures c.requires.within c.station.ensures.station c.in-Some.is

pub times_of_wire-requires-clause-count : goal.times_of_wire-requires-clause-count
times_of_wire-requires-clause-count g c =
    let packets = g.F.Frames.packets c.args.frames.now in ap length c.requires.infos ∙ length_for_each (info_of c.args.plan.now packets) packets.count

pub returns-in-Ok : goal.returns-in-Ok
returns-in-Ok g c =
    let plan = c.args.plan.now in let packets = g.F.Frames.packets c.args.frames.now in
    let times = c.in-Ok.times.items in let card = c.in-Some.card in
    let are : times ≡ map (openings_of_card card plan packets (infos_of plan packets)) (first_numbers packets.count) =
    c.in-Ok.ensures ∙ ap (λ (infos : List Info). map (openings_of_card card plan packets infos) (first_numbers packets.count)) c.requires.infos in
    record {
      within = λ n below. let long = ap length are ∙ length_for_each (openings_of_card card plan packets (infos_of plan packets)) packets.count in omega (arith, long);
      each = λ n sent below number.
          ap (λ (l : List ℕ). get_or l n 0) are ∙ (at_number (openings_of_card card plan packets (infos_of plan packets)) packets.count n 0 below
          ∙ sym (opens-as plan packets n (Some card) (card-is plan c.station.result (Some card) c.station.ensures.station c.in-Some.is)));
    }

pub returns-in-None : goal.returns-in-None
returns-in-None g c =
    let plan = c.args.plan.now in let packets = g.F.Frames.packets c.args.frames.now in
    if-ok c.new.result c.new.ensures (λ found is. record {
      within = is.within;
      each = λ n sent below number. is.each n sent below number ∙ sym (opens-as plan packets n None (card-is plan c.station.result None c.station.ensures.station c.in-None.is));
    })
