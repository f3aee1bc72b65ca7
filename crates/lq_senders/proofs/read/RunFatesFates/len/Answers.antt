use Rattle.std.proofs.Common.{sym}
use Rattle.lq_senders.specs.Told.{words_lent}
use Rattle.lq_senders.proofs.WordsTold.{told-long}
use Rattle.lq_senders.proofs.read.RunFatesFates.len.Goals as goal

pub returns : goal.returns
returns c = sym (told-long c.args.self.now.infos.now (words_lent c.args.self.now.words))
