use Rattle.lq_run_laws.proofs.LockFreeClear.{lock-free-clear}
use Rattle.lq_run_laws.proofs.LookedClear.{looked-clear}
use Rattle.lq_run_core.proofs.laws.exposed.exposed_is_kept.Goals as goal

pub returns : goal.returns
returns c = record { free = lock-free-clear; looked = looked-clear }
