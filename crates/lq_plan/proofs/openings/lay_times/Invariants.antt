use Rattle.lq_plan.proofs.Times.{AreTimesUpTo}
use Rattle.lq_plan.proofs.openings.lay_times.Given as goal

abbrev pub invariant-loop-n : goal.invariant-loop-n
invariant-loop-n g l = AreTimesUpTo l.microseconds (g.F.Frames.packets l.frames) l.n l.earlier l.times
