use Rattle.std.proofs.Common.{rules, ◌++◌}
use Rattle.lq_ring.specs.StepLists.{LocksThree}
use Rattle.lq_ring.proofs.StepsThen.{makes_then}
use Rattle.lq_ring.proofs.resize.lock_all.Goals as goal

pub returns : goal.returns
returns g c = record {
  makes =
      let one = c.lock_producer.ensures.makes in let two = c.lock_producer-2.ensures.makes in let three = c.lock_producer-3.ensures.makes in
      (one.0 ++ two.0 ++ three.0, LocksThree one.1 two.1 three.1, makes_then (makes_then one.2 two.2) three.2);
  stands = search rules;
}
