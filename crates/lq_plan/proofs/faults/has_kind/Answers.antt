use Rattle.std.proofs.Common.{◌∙◌, ap, false, is_some}
use Rattle.std.specs.List.{list_all}
use Rattle.std.specs.Option.{option_map_or}
use Rattle.toml.specs.Data.{as_table}
use Rattle.toml.specs.View.{view}
use Rattle.lq_plan.proofs.Elements.{tables-kind}
use Rattle.lq_plan.proofs.Lists.{list_all-map}
use Rattle.lq_plan.proofs.faults.has_kind.Goals as goal

pub returns-in-Some : goal.returns-in-Some
returns-in-Some c =
    rw c.in-Tables.is (c.are_tables.ensures ∙ list_all-map (λ element. is_some (as_table element)) view c.in-Some.elements.now
    ∙ ap (λ elements. option_map_or (list_all (λ element. is_some (as_table element))) elements false) c.in-Some.ensures
    ∙ tables-kind c.in-Tables.low c.in-Tables.high (view c.args.value.now))
