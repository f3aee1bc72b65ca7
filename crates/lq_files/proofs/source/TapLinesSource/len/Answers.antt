use Rattle.lq_fates.specs.TapTexts.{tap_fate_words}
use Rattle.lq_files.proofs.PieceLemmas.{lines_end}
use Rattle.lq_files.proofs.source.TapLinesSource.len.Goals as goal

pub returns-clause-ends : goal.returns-clause-ends
returns-clause-ends c = lines_end tap_fate_words c.args.self.now.fates.now
