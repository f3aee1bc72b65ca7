use Rattle.std.proofs.Common.{◌≡◌, ◌++◌, replicate, ap, ◌∙◌, arith}
use Rattle.toml.specs.View.{table_view}
use Rattle.lq_plan.specs.Keys.{mq_in}
use Rattle.lq_plan.specs.Reading.{children_in}
use Rattle.lq_plan.proofs.Tables.{spread_more, table_at}
use Rattle.lq_plan.proofs.reader.read_stations.Goals as goal

pub read_station-requires : goal.read_station-requires
read_station-requires c =
    c.requires.within c.loop-station.station-index _ (table_at c.args.stations.now c.loop-station.station-index c.station-item.result c.loop-station-test.true c.station-item.is)

pub overflow_cast-mq_of : goal.overflow_cast-mq_of
overflow_cast-mq_of c =
    let few = c.requires.few c.loop-station.station-index (table_view c.station-item.result.now)
    (table_at c.args.stations.now c.loop-station.station-index c.station-item.result c.loop-station-test.true c.station-item.is) in
    omega (arith, few, c.mq_of.ensures)

pub loop-station-preserved : goal.loop-station-preserved
loop-station-preserved c =
    let own : replicate c.mq_of.result c.read_station.result ≡ children_in (table_view c.station-item.result.now) =
    ap (λ m. replicate m c.read_station.result) c.mq_of.ensures ∙ ap (replicate (mq_in (table_view c.station-item.result.now))) c.read_station.ensures in
    c.in_ok-push_children.ensures ∙ (ap (λ xs. c.loop-station.plans.items ++ xs) own
    ∙ spread_more children_in c.args.stations.now c.loop-station.station-index c.station-item.result c.loop-station.plans.items c.loop-station-test.true c.station-item.is c.loop-station.invariant)
