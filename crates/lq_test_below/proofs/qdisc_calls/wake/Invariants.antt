use Rattle.lq_test_below.specs.Plain.{IsFirstOwnerAtRest}
use Rattle.lq_test_below.proofs.qdisc_calls.wake.Given as goal

abbrev pub invariant-loop : goal.invariant-loop
invariant-loop g l = IsFirstOwnerAtRest l.shared l.cpu
