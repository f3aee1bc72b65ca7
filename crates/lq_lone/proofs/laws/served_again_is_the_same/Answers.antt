use Rattle.lq_lone.proofs.Again.{again}
use Rattle.lq_lone.proofs.laws.served_again_is_the_same.Goals as goal

pub returns : goal.returns
returns c infos s m queues lone = again infos queues s m lone
