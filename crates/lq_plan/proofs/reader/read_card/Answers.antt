use Rattle.std.proofs.Common.{◌∙◌, ap, sym, Some, None, if◌then◌else◌}
use Rattle.toml.specs.View.{table_view}
use Rattle.lq_plan.specs.Reading.{card_as}
use Rattle.lq_plan.proofs.reader.read_card.Goals as goal

pub card_of-requires : goal.card_of-requires
card_of-requires c =
    let card = card_as (table_view c.args.station.now) in
    c.requires card (ap (λ has. if has then Some card else None) (sym c.has_card.ensures ∙ c.if-has_card.true))
