use Rattle.lq_model.specs.Texts.{fate_words}
use Rattle.lq_files.proofs.PieceLemmas.{lines_end}
use Rattle.lq_files.proofs.source.FateLinesSource.len.Goals as goal

pub returns-clause-ends : goal.returns-clause-ends
returns-clause-ends g c = lines_end fate_words (g.F.Fates.fates c.args.self.now.fates.now)
