use Rattle.lq_run_laws.proofs.Deactivation.{deactivation}
use Rattle.lq_run_laws.proofs.QuietInside.{quiet-inside}
use Rattle.lq_run_laws.proofs.Purging.{purging}
use Rattle.lq_run_laws.proofs.PurgedHoldsNothing.{purged-holds-nothing}
use Rattle.lq_run_core.proofs.laws.deactivation.deactivation_is_kept.Goals as goal

pub returns : goal.returns
returns c = record { phase = deactivation; inside = quiet-inside; purging = purging; purged = purged-holds-nothing }
