use Rattle.lq_run_core.proofs.Mistakes.{draining-set}
use Rattle.lq_run_core.proofs.laws.mistakes.draining_set_without_looking_again.Goals as goal

pub returns : goal.returns
returns c = draining-set
