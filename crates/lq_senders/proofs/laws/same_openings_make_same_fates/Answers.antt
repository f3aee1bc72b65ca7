use Rattle.lq_senders.proofs.SameOpenings.{fates-same}
use Rattle.lq_senders.proofs.laws.same_openings_make_same_fates.Goals as goal

pub returns : goal.returns
returns c plan infos opens others fates before after same are = fates-same plan infos opens others same fates before after are
