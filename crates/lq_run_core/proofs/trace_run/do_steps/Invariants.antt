use Rattle.std.proofs.Common.{◌≡◌, ◌-◌, length}
use Rattle.lq_run_core.specs.Trace.{steps_of}
use Rattle.lq_run_core.proofs.trace_run.do_steps.Given as goal

abbrev pub invariant-loop : goal.invariant-loop
invariant-loop l =
    (steps_of (l.count - l.counter) l.seat l.answer l.machine.machine ≡ steps_of l.count l.seat l.answer l.fn.machine.machine)
    × (length l.machine.machine.seats ≡ length l.fn.machine.machine.seats) × (l.machine.next ≡ l.fn.machine.next)
