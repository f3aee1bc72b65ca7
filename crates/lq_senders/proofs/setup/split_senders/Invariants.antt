use Rattle.std.proofs.Common.{◌≡◌, ◌+◌}
use Rattle.lq_senders.specs.Units.{SameDevices}
use Rattle.lq_senders.specs.Setup.{AreSplitting}
use Rattle.lq_senders.proofs.Splits.{SendersSplit}
use Rattle.lq_senders.proofs.setup.split_senders.Given as goal

-- the seats of the first others were split off
abbrev pub invariant-loop-place : goal.invariant-loop-place
invariant-loop-place g l = record {
  len : l.others.len ≡ l.fn.others.len;
  others : SendersSplit l.run.job.plan.now l.run.job.infos.now l.place l.run.tables.now l.others.items;
  splitting : AreSplitting l.run.job.plan.now l.run.job.infos.now (l.place + 1) l.run.tables.now l.seats.items;
  devices : SameDevices l.fn.seats.items l.seats.items;
  alone : l.place ≡ 0 → l.seats.items ≡ l.fn.seats.items;
}
