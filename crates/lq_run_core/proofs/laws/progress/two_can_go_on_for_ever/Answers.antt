use Rattle.lq_run_core.proofs.Chase.{chase-reached, goes-round, stopped-reached, stopped-goes-round}
use Rattle.lq_run_core.proofs.laws.progress.two_can_go_on_for_ever.Goals as goal

pub returns : goal.returns
returns c = record { reached = chase-reached; again = goes-round; stopped = stopped-reached; stopped_again = stopped-goes-round }
