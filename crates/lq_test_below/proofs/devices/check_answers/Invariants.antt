use Rattle.std.proofs.Common.{◌≤◌, ◌+◌, length}
use Rattle.lq_device.specs.Bench.{bench_state}
use Rattle.lq_test_below.proofs.devices.check_answers.Given as goal

abbrev pub invariant-loop-n : goal.invariant-loop-n
invariant-loop-n g l = length l.answers ≤ (bench_state l.device).spare + l.n
