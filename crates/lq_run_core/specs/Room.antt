-- The room that the list of a band has.
use Rattle.std.specs.Prelude.{ℕ, ◌≤◌}
use Rattle.std.specs.Global.{Global}
use Rattle.std.specs.declared.collections.VecDeque.{VecDeque}
use Rattle.std.specs.VecDeque.{deque_len, deque_capacity}
use Rattle.lq_model.specs.declared.machine.Packet.{Packet}

-- it holds at most so many packets, and has room for them
pub record IsBandList (len : ℕ) (list : VecDeque Packet Global) : Type 0 where
  pub held : deque_len list ≤ len
  pub room : len ≤ deque_capacity list
