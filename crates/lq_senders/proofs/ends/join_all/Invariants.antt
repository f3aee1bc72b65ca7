use Rattle.std.proofs.Common.{◌≡◌, ◌≤◌}
use Rattle.lq_senders.specs.Joins.{SenderJoined}
use Rattle.lq_senders.specs.Senders.{AreDoneSenders}
use Rattle.lq_senders.specs.Units.{SameDevices}
use Rattle.lq_senders.proofs.ends.join_all.Given as goal

abbrev pub invariant-loop-sender : goal.invariant-loop-sender
invariant-loop-sender g l = record {
  joined : SenderJoined l.run.job.plan.now l.run.job.infos.now l.others.len l.run.tables.now l.seats.items;
  others : AreDoneSenders l.run.job.plan.now l.run.job.infos.now l.run.tables.now l.others.items;
  devices : SameDevices l.fn.seats.items l.seats.items;
  fewer : l.others.len ≤ l.fn.others.len;
  alone : l.fn.others.len ≡ 0 → l.seats.items ≡ l.fn.seats.items;
}

abbrev pub decreases-loop-sender : goal.decreases-loop-sender
decreases-loop-sender g l = l.others.len
