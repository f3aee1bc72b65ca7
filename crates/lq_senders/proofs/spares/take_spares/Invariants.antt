use Rattle.std.proofs.Common.{◌≡◌, ◌≤◌, ◌+◌, take, drop}
use Rattle.lq_senders.proofs.spares.take_spares.Given as goal

-- the first devices are taken
abbrev pub invariant-loop-place : goal.invariant-loop-place
invariant-loop-place g l = record {
  taken : l.spares.items ≡ take l._place l.fn.bench.items;
  so_many : l.spares.len ≡ l._place;
  rest : l.bench.items ≡ drop l._place l.fn.bench.items;
  len : l._place + l.bench.len ≡ l.fn.bench.len;
  capacity : l.bench.cap ≡ l.fn.bench.cap;
  room : l.fn.count ≤ l.spares.cap;
}
