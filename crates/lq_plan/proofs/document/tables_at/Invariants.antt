use Rattle.std.proofs.Common.{◌≡◌, take, map}
use Rattle.std.specs.List.{filter_map}
use Rattle.toml.specs.Data.{as_table}
use Rattle.toml.specs.View.{view}
use Rattle.lq_plan.specs.Tables.{tables_view}
use Rattle.lq_plan.proofs.document.tables_at.Given as goal

abbrev pub invariant-loop-element : goal.invariant-loop-element
invariant-loop-element l = tables_view l.tables.items ≡ filter_map as_table (map view (take l.element-index l.elements))
