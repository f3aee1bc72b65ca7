use Rattle.lq_senders.proofs.OpenedTimes.{AreOpenedTimes}
use Rattle.lq_senders.proofs.course.open_times.Given as goal

abbrev pub invariant-loop-time : goal.invariant-loop-time
invariant-loop-time g l = AreOpenedTimes l.run.job.plan.now l.run.job.infos.now l.run.tables.now l._time l.fn.seats.items l.seats.items
