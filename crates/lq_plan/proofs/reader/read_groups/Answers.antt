use Rattle.std.proofs.Common.{◌∷◌, [], ◌++◌, ap, ◌∙◌, arith, map}
use Rattle.toml.specs.View.{table_view}
use Rattle.lq_plan.specs.Keys.{mq_in}
use Rattle.lq_plan.proofs.Tables.{read_more, table_at, tables_end}
use Rattle.lq_plan.proofs.reader.read_groups.Goals as goal

pub overflow_cast-mq_of : goal.overflow_cast-mq_of
overflow_cast-mq_of c =
    let few = c.requires c.loop-station.station-index (table_view c.station-item.result.now)
    (table_at c.args.stations.now c.loop-station.station-index c.station-item.result c.loop-station-test.true c.station-item.is) in
    omega (arith, few, c.mq_of.ensures)

pub loop-station-preserved : goal.loop-station-preserved
loop-station-preserved c =
    c.in_ok-push.ensures.items ∙ (ap (λ m. c.loop-station.groups.items ++ m ∷ []) c.mq_of.ensures
    ∙ read_more mq_in c.args.stations.now c.loop-station.station-index c.station-item.result c.loop-station.groups.items c.loop-station-test.true c.station-item.is c.loop-station.invariant)

pub returns : goal.returns
returns c =
    c.loop-station.invariant ∙ ap (map mq_in) (tables_end c.args.stations.now c.loop-station.station-index c.loop-station-test.false)
