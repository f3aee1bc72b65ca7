use Rattle.lq_control.proofs.EndLaws.{finish_comes}
use Rattle.lq_control.proofs.laws.an_end_purges_what_hangs.Goals as goal

pub returns : goal.returns
returns c k count old new f = finish_comes k count old new f
