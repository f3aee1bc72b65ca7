use Rattle.std.proofs.Common.{◌≡◌}
use Rattle.lq_table.specs.Sees.{view, IsElseSame}
use Rattle.lq_bench.proofs.holding.move_stations.Given as goal

abbrev pub invariant-loop : goal.invariant-loop
invariant-loop g l = IsElseSame l.initial.cpu l.cpu × (view l.cpu ≡ view l.initial.cpu)
