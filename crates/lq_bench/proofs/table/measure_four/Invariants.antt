use Rattle.std.proofs.Common.{All}
use Rattle.lq_bench.specs.Ready.{IsReady}
use Rattle.lq_bench.proofs.table.measure_four.Given as goal

abbrev pub invariant-loop-kind : goal.invariant-loop-kind
invariant-loop-kind g l = All (λ c. IsReady l.shared c) l.cpus
