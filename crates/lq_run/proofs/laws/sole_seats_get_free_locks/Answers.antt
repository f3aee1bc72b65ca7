use Rattle.lq_run.proofs.Begins.{begun}
use Rattle.lq_run.proofs.laws.sole_seats_get_free_locks.Goals as goal

pub returns : goal.returns
returns c got xs s begins told alone = (begun begins s told).sole alone
