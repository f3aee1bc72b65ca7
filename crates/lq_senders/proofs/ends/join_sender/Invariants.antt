use Rattle.std.proofs.Common.{◌-◌}
use Rattle.lq_senders.specs.Joins.{JoinsDown}
use Rattle.lq_senders.specs.Units.{SameDevices}
use Rattle.lq_senders.proofs.ends.join_sender.Given as goal

abbrev pub invariant-loop-other : goal.invariant-loop-other
invariant-loop-other g l = record {
  down : JoinsDown l.run.job.plan.now l.run.job.infos.now (l.fn.sender.owner - 1) l.others.len l.run.tables.now l.seats.items l.others.items;
  devices : SameDevices l.fn.seats.items l.seats.items;
}

abbrev pub decreases-loop-other : goal.decreases-loop-other
decreases-loop-other g l = l.others.len
