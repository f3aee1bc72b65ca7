use Rattle.lq_test_below.specs.Plain.{IsFirstOwnerAtRest}
use Rattle.lq_test_below.proofs.qdisc_calls.send_all.Given as goal

abbrev pub invariant-loop-n : goal.invariant-loop-n
invariant-loop-n g l = IsFirstOwnerAtRest l.shared l.cpu
