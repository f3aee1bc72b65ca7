use Rattle.lq_bench.specs.Ready.{IsFirstReady}
use Rattle.lq_bench.proofs.table.measure_control.Given as goal

abbrev pub invariant-loop-kind : goal.invariant-loop-kind
invariant-loop-kind g l = IsFirstReady l.shared l.cpu
