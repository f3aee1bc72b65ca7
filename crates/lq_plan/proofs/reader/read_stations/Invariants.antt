use Rattle.std.proofs.Common.{◌≡◌, take}
use Rattle.std.specs.List.{flat_map}
use Rattle.lq_plan.specs.Reading.{children_in}
use Rattle.lq_plan.specs.Tables.{tables_view}
use Rattle.lq_plan.proofs.reader.read_stations.Given as goal

abbrev pub invariant-loop-station : goal.invariant-loop-station
invariant-loop-station l = l.plans.items ≡ flat_map children_in (take l.station-index (tables_view l.stations))
