use Rattle.std.proofs.Common.{ℕ, ◌<◌}
use Rattle.lq_bench.specs.Senders.{AreFourOwners}
use Rattle.lq_bench.proofs.packets.are_theirs.Given as goal

abbrev pub invariant-loop-k : goal.invariant-loop-k
invariant-loop-k l = (k : ℕ) → k < l.k → AreFourOwners l.infos k
