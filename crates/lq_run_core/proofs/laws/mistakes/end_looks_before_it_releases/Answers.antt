use Rattle.lq_run_core.proofs.Mistakes.{between, end-looks}
use Rattle.lq_run_core.proofs.laws.mistakes.end_looks_before_it_releases.Goals as goal

pub returns-clause-between : goal.returns-clause-between
returns-clause-between c = between

pub returns-clause-left : goal.returns-clause-left
returns-clause-left c = end-looks
