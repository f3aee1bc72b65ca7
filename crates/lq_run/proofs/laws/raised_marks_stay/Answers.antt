use Rattle.lq_run.proofs.Begins.{raised_begun}
use Rattle.lq_run.proofs.Ends.{raised_ended}
use Rattle.lq_run.proofs.laws.raised_marks_stay.Goals as goal

pub returns-clause-begins : goal.returns-clause-begins
returns-clause-begins c got xs s begins told a at = raised_begun begins s told a at

pub returns-clause-ends : goal.returns-clause-ends
returns-clause-ends c xs s ends may raised = raised_ended ends s may raised
