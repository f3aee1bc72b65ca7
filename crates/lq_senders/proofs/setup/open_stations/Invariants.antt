use Rattle.std.proofs.Common.{◌≡◌, ◌≤◌, ◌+◌, length, drop, map}
use Rattle.lq_senders.specs.Setup.{AreOpened}
use Rattle.lq_senders.proofs.setup.open_stations.Given as goal

-- the first stations are opened
abbrev pub invariant-loop-station : goal.invariant-loop-station
invariant-loop-station g l = record {
  rest : l.bench.items ≡ drop l.station l.fn.bench.items;
  len : l.station + l.bench.len ≡ l.fn.bench.len;
  capacity : l.bench.cap ≡ l.fn.bench.cap;
  so_many : l.stations.tables.len ≡ l.station;
  seats : l.stations.seats.len ≡ l.station;
  room : length l.plan.stations ≤ l.stations.tables.cap;
  seats_room : length l.plan.stations ≤ l.stations.seats.cap;
  opened : AreOpened l.plan l.infos (map g.D.TxDevice.state l.fn.bench.items) l.stations.tables.items l.stations.seats.items;
}
