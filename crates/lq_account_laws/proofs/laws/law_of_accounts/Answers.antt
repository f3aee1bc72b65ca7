use Rattle.lq_account_laws.proofs.Law.{law_of_accounts}
use Rattle.lq_account_laws.proofs.laws.law_of_accounts.Goals as goal

pub returns : goal.returns
returns c plan infos fates station past a inside closed = law_of_accounts plan infos fates station past a inside closed
