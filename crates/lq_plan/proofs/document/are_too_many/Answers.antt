use Rattle.std.proofs.Common.{sym, arith, map}
use Rattle.std.specs.Prelude.{sum}
use Rattle.std.proofs.lemmas.Bool.{le-ltb, lt-ltb}
use Rattle.std.proofs.lemmas.List.{length-map}
use Rattle.toml.specs.View.{table_view}
use Rattle.lq_plan.specs.Keys.{mq_in}
use Rattle.lq_plan.specs.Tables.{tables_view}
use Rattle.lq_plan.proofs.Groups.{sum-more, sum-whole, sum-within}
use Rattle.lq_plan.proofs.Tables.{Table, table_at}
use Rattle.lq_plan.proofs.document.are_too_many.Goals as goal

pub loop-station-init : goal.loop-station-init
loop-station-init c = omega (arith, c.from-room.ensures)

pub returns-then-mq-room : goal.returns-then-mq-room
returns-then-mq-room c =
    let ms = tables_view c.args.stations.now in
    let within = sum-within ms c.loop-station.station-index (table_view c.station-item.result.now)
    (table_at c.args.stations.now c.loop-station.station-index c.station-item.result c.loop-station-test.true c.station-item.is) in
    sym (lt-ltb 8 (sum (map mq_in ms)) (omega (arith, within, c.loop-station.invariant, c.if-mq-room.true, c.mq_of-mq.ensures)))

pub loop-station-preserved : goal.loop-station-preserved
loop-station-preserved c =
    let ms = tables_view c.args.stations.now in
    let more = sum-more ms c.loop-station.station-index (table_view c.station-item.result.now)
    (table_at c.args.stations.now c.loop-station.station-index c.station-item.result c.loop-station-test.true c.station-item.is) in
    omega (arith, more, c.loop-station.invariant, c.if-mq-room.false, c.mq_of-mq.ensures)

pub returns : goal.returns
returns c =
    let ms = tables_view c.args.stations.now in let long = length-map c.args.stations.now (λ (t : Table). table_view t.now) in
    let whole = sum-whole ms c.loop-station.station-index (omega (arith, long, c.loop-station-test.false)) in
    sym (le-ltb 8 (sum (map mq_in ms)) (omega (arith, whole, c.loop-station.invariant)))
