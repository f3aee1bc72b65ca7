use Rattle.lq_plan.proofs.Acceptance.{keeps_version_4, reads_version_4}
use Rattle.lq_plan.proofs.laws.version_4_stays.Goals as goal

pub returns-clause-reads : goal.returns-clause-reads
returns-clause-reads c = reads_version_4

pub returns-clause-keeps : goal.returns-clause-keeps
returns-clause-keeps c = keeps_version_4
