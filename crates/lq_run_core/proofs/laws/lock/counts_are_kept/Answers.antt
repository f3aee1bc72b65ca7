use Rattle.lq_run_laws.proofs.LocalSteps.{moved}
use Rattle.lq_run_laws.proofs.Counts.{one-holder, calls-inside, one-scheduled}
use Rattle.lq_run_core.proofs.laws.lock.counts_are_kept.Goals as goal

pub returns-clause-holder : goal.returns-clause-holder
returns-clause-holder c m n ind move = one-holder m n ind (moved m n move)

pub returns-clause-inside : goal.returns-clause-inside
returns-clause-inside c m n ind move = calls-inside m n ind (moved m n move)

pub returns-clause-scheduled : goal.returns-clause-scheduled
returns-clause-scheduled c m n ind move = one-scheduled m n ind (moved m n move)
