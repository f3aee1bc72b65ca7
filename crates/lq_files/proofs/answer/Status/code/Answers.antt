use Rattle.std.proofs.Common.{ap, sym}
use Rattle.lq_files.specs.Status.{code_of}
use Rattle.lq_files.proofs.answer.Status.code.Goals as goal

pub returns-in-Done : goal.returns-in-Done
returns-in-Done c = sym (ap code_of c.in-Done.is)

pub returns-in-Usage : goal.returns-in-Usage
returns-in-Usage c = sym (ap code_of c.in-Usage.is)

pub returns-in-Plan : goal.returns-in-Plan
returns-in-Plan c = sym (ap code_of c.in-Plan.is)

pub returns-in-Bench : goal.returns-in-Bench
returns-in-Bench c = sym (ap code_of c.in-Bench.is)

pub returns-in-Capture : goal.returns-in-Capture
returns-in-Capture c = sym (ap code_of c.in-Capture.is)

pub returns-in-Fault : goal.returns-in-Fault
returns-in-Fault c = sym (ap code_of c.in-Fault.is)

pub returns-in-NoMemory : goal.returns-in-NoMemory
returns-in-NoMemory c = sym (ap code_of c.in-NoMemory.is)

pub returns-in-Trace : goal.returns-in-Trace
returns-in-Trace c = sym (ap code_of c.in-Trace.is)
