use Rattle.lq_run_core.proofs.Mistakes.{missed-cleared}
use Rattle.lq_run_core.proofs.laws.mistakes.missed_cleared_after_the_second_look.Goals as goal

pub returns : goal.returns
returns c = missed-cleared
