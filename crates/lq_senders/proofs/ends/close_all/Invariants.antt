use Rattle.std.proofs.Common.{◌≡◌, ◌≤◌, ◌+◌, length, drop, map}
use Rattle.lq_senders.specs.Ends.{FirstClosed, closed_state}
use Rattle.lq_senders.proofs.ends.close_all.Given as goal

abbrev pub invariant-loop-station : goal.invariant-loop-station
invariant-loop-station g l = record {
  tables : l.shared.items ≡ drop l._station l.fn.shared.items;
  tables_len : l._station + l.shared.len ≡ l.fn.shared.len;
  seats : l.seats.items ≡ drop l._station l.fn.seats.items;
  seats_len : l._station + l.seats.len ≡ l.fn.seats.len;
  closed : FirstClosed l.job.plan.now l.job.infos.now l._station l.fn.seats.items (map closed_state l.closed.items);
  room : length l.job.plan.now.stations ≤ l.closed.cap;
}
