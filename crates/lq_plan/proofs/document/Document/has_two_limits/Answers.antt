use Rattle.std.proofs.Common.{◌∙◌, ap}
use Rattle.std.specs.List.{list_any}
use Rattle.toml.specs.View.{table_view}
use Rattle.lq_plan.specs.Reading.{has_two_limits}
use Rattle.lq_plan.proofs.Lists.{list_any-map}
use Rattle.lq_plan.proofs.Tables.{Table}
use Rattle.lq_plan.proofs.document.Document.has_two_limits.Goals as goal

pub returns : goal.returns
returns c =
    c.a_station_has_two_limits.ensures
    ∙ (ap (list_any (λ (station : Table). has_two_limits (table_view station.now))) c.deref.ensures.value
    ∙ list_any-map has_two_limits (λ (station : Table). table_view station.now) c.args.self.now.stations.items)
