use Rattle.std.proofs.Common.{◌≡◌, ◌≤◌, ◌+◌, ◌++◌, take, drop}
use Rattle.lq_senders.proofs.spares.lay_back.Given as goal

-- the last devices stand before the others
abbrev pub invariant-loop-device : goal.invariant-loop-device
invariant-loop-device g l = record {
  fewer : l.devices.len ≤ l.fn.devices.len;
  left : l.devices.items ≡ take l.devices.len l.fn.devices.items;
  laid : l.bench.items ≡ drop l.devices.len l.fn.devices.items ++ l.fn.bench.items;
  len : l.devices.len + l.bench.len ≡ l.fn.devices.len + l.fn.bench.len;
  capacity : l.bench.cap ≡ l.fn.bench.cap;
}

abbrev pub decreases-loop-device : goal.decreases-loop-device
decreases-loop-device g l = l.devices.len
