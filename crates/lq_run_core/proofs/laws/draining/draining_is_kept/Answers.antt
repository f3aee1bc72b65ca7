use Rattle.lq_run_laws.proofs.LockFreeDraining.{lock-free-draining}
use Rattle.lq_run_laws.proofs.EndingDraining.{ending-draining}
use Rattle.lq_run_laws.proofs.BlockedDraining.{blocked-draining}
use Rattle.lq_run_core.proofs.laws.draining.draining_is_kept.Goals as goal

pub returns : goal.returns
returns c = record { free = lock-free-draining; ending = ending-draining; blocked = blocked-draining }
