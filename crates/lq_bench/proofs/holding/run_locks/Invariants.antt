use Rattle.lq_bench.specs.Ready.{IsFirstReady}
use Rattle.lq_bench.proofs.holding.run_locks.Given as goal

abbrev pub invariant-loop : goal.invariant-loop
invariant-loop g l = IsFirstReady l.shared l.cpu
