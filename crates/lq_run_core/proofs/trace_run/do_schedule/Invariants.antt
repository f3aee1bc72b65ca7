use Rattle.std.proofs.Common.{◌≡◌, ◌+◌, ◌*◌, ◌≤◌, ◌^◌, length, None}
use Rattle.lq_run_core.specs.Schedule.{lines}
use Rattle.lq_run_core.specs.Trace.{lines_done, sends_so_far, steps_so_far}
use Rattle.lq_run_core.proofs.trace_run.do_schedule.Given as goal

abbrev pub invariant-loop-rest : goal.invariant-loop-rest
invariant-loop-rest l =
    (lines_done l.progress (l.number + 1) (lines l.rest) ≡ lines_done None 1 (lines l.text))
    × (l.number + length (lines l.rest) ≡ length (lines l.text))
    × (l.number + length l.rest ≤ 65536)
    × (sends_so_far l.progress + length l.rest ≤ 65536)
    × (steps_so_far l.progress + length l.rest * 2 ^ 32 ≤ 2 ^ 48)

abbrev pub decreases-loop-rest : goal.decreases-loop-rest
decreases-loop-rest l = length l.rest
