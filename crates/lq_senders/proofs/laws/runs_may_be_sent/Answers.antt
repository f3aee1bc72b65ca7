use Rattle.lq_senders.proofs.Sendable.{sendable}
use Rattle.lq_senders.proofs.laws.runs_may_be_sent.Goals as goal

pub returns : goal.returns
returns c plan infos run = sendable plan infos run
