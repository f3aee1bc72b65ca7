use Rattle.std.proofs.Common.{◌≡◌, ◌≤◌, ◌+◌, ◌++◌, [], drop, take, map}
use Rattle.lq_senders.specs.Ends.{ClosedState, closed_state, home_device}
use Rattle.lq_table.specs.Ended.{ended_state}
use Rattle.lq_senders.proofs.undo.take_apart.Given as goal

-- the last stations were taken apart
abbrev pub invariant-loop-station : goal.invariant-loop-station
invariant-loop-station g l = record {
  fewer : l.closed.len ≤ l.fn.closed.len;
  left : l.closed.items ≡ take l.closed.len l.fn.closed.items;
  homes : map g.D.TxDevice.state l.homes.items ≡ map home_device (map closed_state (drop l.closed.len l.fn.closed.items)) ++ [];
  homes_len : l.closed.len + l.homes.len ≡ l.fn.closed.len;
  homes_room : l.fn.closed.len ≤ l.homes.cap;
  stays : map ended_state l.ended.items ≡ map (λ (x : ClosedState). x.ended) (map closed_state (drop l.closed.len l.fn.closed.items)) ++ [];
  ended_len : l.closed.len + l.ended.len ≡ l.fn.closed.len;
  ended_room : l.fn.closed.len ≤ l.ended.cap;
}

abbrev pub decreases-loop-station : goal.decreases-loop-station
decreases-loop-station g l = l.closed.len
