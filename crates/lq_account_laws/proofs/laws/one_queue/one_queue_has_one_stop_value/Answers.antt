use Rattle.lq_account_laws.proofs.OneStop.{meets_one_stop_value}
use Rattle.lq_account_laws.proofs.OneStopRun.{finished_by_rounds, served_by_turns}
use Rattle.lq_account_laws.proofs.laws.one_queue.one_queue_has_one_stop_value.Goals as goal

pub returns-clause-events : goal.returns-clause-events
returns-clause-events c plan infos station past a queues one legal is = meets_one_stop_value plan infos station past a queues one legal is

pub returns-clause-serving : goal.returns-clause-serving
returns-clause-serving c infos s queues one = served_by_turns infos s queues one

pub returns-clause-finish : goal.returns-clause-finish
returns-clause-finish c infos s queues one = finished_by_rounds infos s queues one
