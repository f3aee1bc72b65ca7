use Rattle.lq_run_laws.proofs.LocalSteps.{moved}
use Rattle.lq_run_laws.proofs.Missed.{lock-free-missed}
use Rattle.lq_run_core.proofs.laws.lock.missed_is_kept.Goals as goal

pub returns : goal.returns
returns c m n ind move = lock-free-missed m n ind (moved m n move)
