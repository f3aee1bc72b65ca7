use Rattle.std.proofs.Common.{◌≡◌, ◌+◌, ◌-◌, ◌++◌, drop}
use Rattle.lq_ring_core.specs.Slots.{entries_from}
use Rattle.lq_ring_core.proofs.slots.copy_entries.Given as goal

-- the entries that were passed stand at the front
abbrev pub invariant-loop-place : goal.invariant-loop-place
invariant-loop-place l =
    l.out ≡ entries_from l.slots l.size (l.head + l.kept) (l.place - l.kept) ++ drop (l.place - l.kept) l.fn.out
