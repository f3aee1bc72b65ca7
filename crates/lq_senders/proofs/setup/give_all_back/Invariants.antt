use Rattle.std.proofs.Common.{◌≡◌, ◌≤◌, ◌+◌, ◌-◌, ◌++◌, drop, take, map}
use Rattle.lq_senders.specs.Fates.{identities_of}
use Rattle.lq_senders.specs.Setup.{origins_of}
use Rattle.lq_senders.proofs.setup.give_all_back.Given as goal

-- the devices of the last tables stand before the others
abbrev pub invariant-loop-table : goal.invariant-loop-table
invariant-loop-table g l =
    let states = map g.D.TxDevice.state in
    record {
      fewer : l.tables.len ≤ l.fn.tables.len;
      left : l.tables.items ≡ take l.tables.len l.fn.tables.items;
      seats : l.seats.len ≡ l.tables.len;
      seats_left : l.seats.items ≡ take l.tables.len l.fn.seats.items;
      boxes : identities_of (states l.bench.items) ≡ origins_of (drop l.tables.len l.fn.seats.items) ++ identities_of (states l.fn.bench.items);
      rest : drop (l.fn.tables.len - l.tables.len) l.bench.items ≡ l.fn.bench.items;
      len : l.tables.len + l.bench.len ≡ l.fn.tables.len + l.fn.bench.len;
      capacity : l.bench.cap ≡ l.fn.bench.cap;
    }

abbrev pub decreases-loop-table : goal.decreases-loop-table
decreases-loop-table g l = l.tables.len
