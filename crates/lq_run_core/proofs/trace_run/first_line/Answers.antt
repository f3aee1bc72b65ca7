use Rattle.lq_run_core.proofs.Schedules.{lines_cut}
use Rattle.lq_run_core.proofs.trace_run.first_line.Goals as goal

pub returns-in-Some-clause-lines : goal.returns-in-Some-clause-lines
returns-in-Some-clause-lines c =
    lines_cut c.args.text.now c.cut.result.0.now c.in-Some.behind.now (rw c.in-Some.is at c.cut.ensures.pieces)
