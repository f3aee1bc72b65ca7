use Rattle.std.proofs.Common.{arith}
use Rattle.lq_plan.specs.View.{plan_view}
use Rattle.lq_plan.proofs.Groups.{few-groups}
use Rattle.lq_plan.proofs.plan.Plan.groups.Goals as goal

pub overflow_cast-result : goal.overflow_cast-result
overflow_cast-result c = let few = few-groups (plan_view c.self.inside) c.self.invariant in omega (arith, few, c.len.ensures)

pub returns-clause-few : goal.returns-clause-few
returns-clause-few c = let few = few-groups (plan_view c.self.inside) c.self.invariant in omega (arith, few, c.len.ensures)
