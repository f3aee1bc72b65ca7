use Rattle.lq_run.proofs.Ends.{alone_ended}
use Rattle.lq_run.proofs.laws.sole_seats_schedule_missed.Goals as goal

pub returns : goal.returns
returns c xs s ends told alone = alone_ended ends s told alone
