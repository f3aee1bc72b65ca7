use Rattle.std.proofs.Common.{◌≡◌, ◌++◌, replicate}
use Rattle.lq_plan.proofs.reader.push_children.Given as goal

abbrev pub invariant-loop-child : goal.invariant-loop-child
invariant-loop-child l = l.plans.items ≡ l.fn.plans.items ++ replicate l.child l.station
