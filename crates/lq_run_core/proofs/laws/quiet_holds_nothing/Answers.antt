use Rattle.lq_run_laws.proofs.Quiet.{quiet-holds-nothing}
use Rattle.lq_run_core.proofs.laws.quiet_holds_nothing.Goals as goal

pub returns : goal.returns
returns c m p kept quiet held = quiet-holds-nothing m kept quiet p held
