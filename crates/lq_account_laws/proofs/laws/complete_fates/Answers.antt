use Rattle.lq_account_laws.proofs.Complete.{complete}
use Rattle.lq_account_laws.proofs.laws.complete_fates.Goals as goal

pub returns : goal.returns
returns c plan infos fates of_plan settled = complete plan infos fates of_plan settled
