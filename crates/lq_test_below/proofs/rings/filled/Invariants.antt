use Rattle.std.proofs.Common.{◌≡◌}
use Rattle.lq_test_below.proofs.rings.filled.Given as goal

abbrev pub invariant-loop-n : goal.invariant-loop-n
invariant-loop-n g l = record { size : l.ring.size ≡ 8; max_size : l.ring.max_size ≡ 8 }
