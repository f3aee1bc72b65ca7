use Rattle.lq_files.proofs.PieceLemmas.{packets_end}
use Rattle.lq_files.proofs.source.PacketsSource.len.Goals as goal

pub returns-clause-ends : goal.returns-clause-ends
returns-clause-ends c = packets_end c.args.self.now.capture.now c.args.self.now.numbers.now
