use Rattle.std.proofs.Common.{◌≡◌, ℕ, ◌+◌, ◌≤◌, Some, slice_get}
use Rattle.lq_senders.specs.Setup.{HasNoSeats}
use Rattle.lq_senders.specs.declared.sender.Sender.{Sender}
use Rattle.lq_senders.proofs.setup.other_senders.Given as goal

-- the first others are there, without seats
abbrev pub invariant-loop-owner : goal.invariant-loop-owner
invariant-loop-owner g l = record {
  so_many : l.others.len + 1 ≡ l.owner;
  room : l.plan.senders ≤ l.others.cap + 1;
  empty : (i : ℕ) (sender : Sender g.row.D.Denot) → slice_get l.others.items i ≡ Some sender → HasNoSeats l.plan i sender;
}
