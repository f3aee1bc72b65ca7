use Rattle.lq_run_core.proofs.Mistakes.{begin-gives-up}
use Rattle.lq_run_core.proofs.laws.mistakes.begin_gives_up_after_one_try.Goals as goal

pub returns : goal.returns
returns c = begin-gives-up
