use Rattle.lq_bench.specs.Ready.{IsReady}
use Rattle.lq_bench.proofs.rounds.rounds.Given as goal

abbrev pub invariant-loop : goal.invariant-loop
invariant-loop g l = IsReady l.shared l.cpu
