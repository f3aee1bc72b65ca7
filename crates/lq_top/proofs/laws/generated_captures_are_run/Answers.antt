use Rattle.lq_top.proofs.GeneratedVerdict.{generated_verdict}
use Rattle.lq_top.proofs.laws.generated_captures_are_run.Goals as goal

pub returns : goal.returns
returns c = generated_verdict
