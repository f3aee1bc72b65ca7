use Rattle.lq_plan.proofs.Acceptance.{accepted_within}
use Rattle.lq_plan.proofs.laws.accepts_within_limits.Goals as goal

pub returns : goal.returns
returns c = accepted_within
