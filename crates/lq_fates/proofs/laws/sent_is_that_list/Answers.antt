use Rattle.lq_fates.proofs.SentLemmas.{sent_is}
use Rattle.lq_fates.proofs.laws.sent_is_that_list.Goals as goal

pub returns : goal.returns
returns c = sent_is
