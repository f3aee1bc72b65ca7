use Rattle.lq_test_below.specs.Seats.{IsSender}
use Rattle.lq_test_below.proofs.threads.send_own.Given as goal

abbrev pub invariant-loop-n : goal.invariant-loop-n
invariant-loop-n g l = IsSender l.shared l.owner l.cpu
