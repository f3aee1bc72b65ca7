use Rattle.std.proofs.Common.{sym}
use Rattle.lq_run_core.proofs.TraceTexts.{seat_lines_more}
use Rattle.lq_run_core.proofs.trace_text.seat_lines.Goals as goal

pub loop-index-preserved : goal.loop-index-preserved
loop-index-preserved c =
    rw (seat_lines_more c.args.machine.now.machine c.loop-index.index, sym c.loop-index.invariant, sym c.seat.ensures, sym c.in_ok-line.ensures, sym c.as_str.ensures.value)
    c.in_ok-push_str.ensures.bytes
