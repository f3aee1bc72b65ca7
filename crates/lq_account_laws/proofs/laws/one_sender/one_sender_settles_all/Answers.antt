use Rattle.lq_account_laws.proofs.Alone.{alone_settles}
use Rattle.lq_account_laws.proofs.laws.one_sender.one_sender_settles_all.Goals as goal

pub returns : goal.returns
returns c plan infos opens = alone_settles plan infos opens
