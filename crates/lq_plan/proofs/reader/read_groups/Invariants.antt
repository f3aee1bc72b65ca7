use Rattle.std.proofs.Common.{◌≡◌, map, take}
use Rattle.lq_plan.specs.Keys.{mq_in}
use Rattle.lq_plan.specs.Tables.{tables_view}
use Rattle.lq_plan.proofs.reader.read_groups.Given as goal

abbrev pub invariant-loop-station : goal.invariant-loop-station
invariant-loop-station l = l.groups.items ≡ map mq_in (take l.station-index (tables_view l.stations))
