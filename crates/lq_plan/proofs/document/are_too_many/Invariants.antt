use Rattle.std.proofs.Common.{◌≡◌, ◌+◌, take, map}
use Rattle.std.specs.Prelude.{sum}
use Rattle.lq_plan.specs.Keys.{mq_in}
use Rattle.lq_plan.specs.Tables.{tables_view}
use Rattle.lq_plan.proofs.document.are_too_many.Given as goal

abbrev pub invariant-loop-station : goal.invariant-loop-station
invariant-loop-station l = l.room + sum (take l.station-index (map mq_in (tables_view l.stations))) ≡ 8
