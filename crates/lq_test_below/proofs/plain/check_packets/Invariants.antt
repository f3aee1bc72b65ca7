use Rattle.std.proofs.Common.{ℕ, ◌<◌}
use Rattle.lq_test_below.specs.Plain.{IsPlainPacket}
use Rattle.lq_test_below.proofs.plain.check_packets.Given as goal

abbrev pub invariant-loop-k : goal.invariant-loop-k
invariant-loop-k g l = (k : ℕ) → k < l.k → IsPlainPacket l.infos l.queues k
