use Rattle.lq_table.proofs.AllAtRest.{stands_for_nothing}
use Rattle.lq_table.proofs.laws.quiet_words_hold_nothing.Goals as goal

pub returns : goal.returns
returns c k s r quiet = stands_for_nothing k s r quiet
