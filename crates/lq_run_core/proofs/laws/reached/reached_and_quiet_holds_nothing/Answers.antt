use Rattle.lq_run_laws.proofs.First.{first-inductive}
use Rattle.lq_run_laws.proofs.Quiet.{quiet-holds-nothing}
use Rattle.lq_run_core.proofs.Reached.{reached-inductive}
use Rattle.lq_run_core.proofs.laws.reached.reached_and_quiet_holds_nothing.Goals as goal

pub returns-clause-kept : goal.returns-clause-kept
returns-clause-kept c seats len bypass queues m reached = reached-inductive _ m (first-inductive seats len bypass queues) reached

pub returns-clause-quiet : goal.returns-clause-quiet
returns-clause-quiet c seats len bypass queues m p reached quiet holds =
    quiet-holds-nothing m (reached-inductive _ m (first-inductive seats len bypass queues) reached).kept quiet p holds
