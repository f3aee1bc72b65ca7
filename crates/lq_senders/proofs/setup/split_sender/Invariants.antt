use Rattle.std.proofs.Common.{◌≡◌, ◌≤◌, ◌-◌, length}
use Rattle.lq_senders.specs.Units.{SameDevices}
use Rattle.lq_senders.proofs.Splits.{SplitsUp}
use Rattle.lq_senders.proofs.setup.split_sender.Given as goal

-- a seat was split off at the first stations
abbrev pub invariant-loop-j : goal.invariant-loop-j
invariant-loop-j g l = record {
  owner : l.sender.owner ≡ l.fn.sender.owner;
  seats : l.sender.seats.len ≡ l.j;
  room : length l.run.job.plan.now.stations ≤ l.sender.seats.cap;
  splits : SplitsUp l.run.job.plan.now l.run.job.infos.now (l.fn.sender.owner - 1) l.j l.run.tables.now l.seats.items l.sender.seats.items;
  devices : SameDevices l.fn.seats.items l.seats.items;
}
