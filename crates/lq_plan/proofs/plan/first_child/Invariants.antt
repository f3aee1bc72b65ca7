use Rattle.std.proofs.Common.{◌≡◌}
use Rattle.lq_model.specs.Plan.{first_at}
use Rattle.lq_plan.proofs.plan.first_child.Given as goal

abbrev pub invariant-loop-k : goal.invariant-loop-k
invariant-loop-k l = l.first ≡ first_at l.groups l.k
