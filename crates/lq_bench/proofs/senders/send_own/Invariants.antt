use Rattle.lq_bench.specs.Senders.{IsBenchSender}
use Rattle.lq_bench.proofs.senders.send_own.Given as goal

abbrev pub invariant-loop-k : goal.invariant-loop-k
invariant-loop-k g l = IsBenchSender l.shared l.owner l.cpu
