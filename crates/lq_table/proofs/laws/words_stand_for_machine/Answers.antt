use Rattle.lq_table.proofs.AllAtRest.{stands_for}
use Rattle.lq_table.proofs.laws.words_stand_for_machine.Goals as goal

pub returns : goal.returns
returns c k s r = stands_for k s r
