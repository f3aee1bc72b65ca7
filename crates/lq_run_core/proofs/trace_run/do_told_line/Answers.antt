use Rattle.std.proofs.Common.{sym, ◌∙◌}
use Rattle.lq_run_core.specs.Schedule.{words}
use Rattle.lq_run_core.proofs.Schedules.{line_commanded}
use Rattle.lq_run_core.proofs.trace_run.do_told_line.Goals as goal

pub returns-in-Some-read_command-clause-done : goal.returns-in-Some-read_command-clause-done
returns-in-Some-read_command-clause-done c =
    let read = sym c.read_command.ensures.command ∙ c.in-Some-read_command.is in
    let done = line_commanded c.in-Some.progress c.args.number (words c.args.line.now) c.in-Some-read_command.command c.do_command.ensures.few read in
    rw (c.in-Some.is, done) c.do_command.ensures.done
