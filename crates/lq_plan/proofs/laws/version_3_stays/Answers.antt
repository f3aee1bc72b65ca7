use Rattle.lq_plan.proofs.Acceptance.{keeps_version_3, reads_version_3}
use Rattle.lq_plan.proofs.laws.version_3_stays.Goals as goal

pub returns-clause-reads : goal.returns-clause-reads
returns-clause-reads c = reads_version_3

pub returns-clause-keeps : goal.returns-clause-keeps
returns-clause-keeps c = keeps_version_3
