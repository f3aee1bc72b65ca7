use Rattle.std.proofs.Common.{ℕ, ◌<◌}
use Rattle.lq_test_below.specs.Seats.{IsTheirs}
use Rattle.lq_test_below.proofs.tables.check_packets.Given as goal

abbrev pub invariant-loop-k : goal.invariant-loop-k
invariant-loop-k g l = (k : ℕ) → k < l.k → IsTheirs l.infos k
