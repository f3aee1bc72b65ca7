use Rattle.lq_bench.specs.Ready.{IsReady}
use Rattle.lq_bench.proofs.table.measure_alone.Given as goal

abbrev pub invariant-loop-kind : goal.invariant-loop-kind
invariant-loop-kind g l = IsReady l.shared l.cpu
