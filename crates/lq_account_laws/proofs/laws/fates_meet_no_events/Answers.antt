use Rattle.lq_account_laws.proofs.NoEvents.{meets_no_events}
use Rattle.lq_account_laws.proofs.laws.fates_meet_no_events.Goals as goal

pub returns : goal.returns
returns c plan infos fates none settled = meets_no_events plan infos fates none settled
