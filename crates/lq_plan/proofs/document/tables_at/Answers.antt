use Rattle.std.proofs.Common.{◌∙◌, ap, map}
use Rattle.std.proofs.lemmas.List.{take_all}
use Rattle.std.specs.List.{filter_map}
use Rattle.toml.specs.Data.{as_table}
use Rattle.toml.specs.View.{view}
use Rattle.lq_plan.proofs.Tables.{table_more, other_more}
use Rattle.lq_plan.proofs.document.tables_at.Goals as goal
use Rattle.lq_plan.proofs.document.tables_at.Goals.{in-Some+in_ok-push, in_default}

pub loop-element-preserved : goal.loop-element-preserved
loop-element-preserved c =
    elim c.match-as_table.branch [
      | in-Some+in_ok-push w ↦
          rw (w.tables-is, w.in_ok-push.ensures.items)
          (table_more c.loop-element.tables.items w.in-Some.table _ _ c.element-item.result c.loop-element-test.true c.element-item.is c.loop-element.invariant w.in-Some.ensures)
      | in_default w ↦
          rw w.tables-is
          (other_more c.loop-element.tables.items _ _ c.element-item.result c.loop-element-test.true c.element-item.is c.loop-element.invariant w.in_default.ensures)
    ]

pub returns : goal.returns
returns c =
    let all = take_all c.loop-element.element-index c.elements_at-elements.result.now c.loop-element-test.false in
    c.loop-element.invariant ∙ ap (λ xs. filter_map as_table (map view xs)) all ∙ ap (filter_map as_table) c.elements_at-elements.ensures
