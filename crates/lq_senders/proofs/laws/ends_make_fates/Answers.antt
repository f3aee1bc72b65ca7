use Rattle.lq_senders.proofs.FatesOfRun.{fates_of_run}
use Rattle.lq_senders.proofs.laws.ends_make_fates.Goals as goal

pub returns : goal.returns
returns c plan infos opens before after views fates ends = fates_of_run plan infos opens before after views fates ends
