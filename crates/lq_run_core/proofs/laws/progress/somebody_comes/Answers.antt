use Rattle.lq_run_core.proofs.Comes.{somebody}
use Rattle.lq_run_core.proofs.laws.progress.somebody_comes.Goals as goal

pub returns : goal.returns
returns c = somebody
