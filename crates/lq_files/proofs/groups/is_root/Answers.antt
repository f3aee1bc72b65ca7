use Rattle.std.proofs.Common.{ap, nat_lt}
use Rattle.lq_files.proofs.groups.is_root.Goals as goal

pub mq-requires : goal.mq-requires
mq-requires c = c.requires

pub returns : goal.returns
returns c = ap (nat_lt 1) c.mq.ensures.mq
