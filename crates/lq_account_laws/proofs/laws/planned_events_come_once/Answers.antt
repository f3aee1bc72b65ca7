use Rattle.lq_account_laws.proofs.Legal.{downs-once, resizes-once, swaps-once}
use Rattle.lq_account_laws.proofs.laws.planned_events_come_once.Goals as goal

pub returns-clause-resizes : goal.returns-clause-resizes
returns-clause-resizes c plan infos station start past len event legal came = resizes-once len event legal came

pub returns-clause-downs : goal.returns-clause-downs
returns-clause-downs c plan infos station start past event legal came = downs-once event legal came

pub returns-clause-swaps : goal.returns-clause-swaps
returns-clause-swaps c plan infos station start past unit legal came = swaps-once unit legal came
