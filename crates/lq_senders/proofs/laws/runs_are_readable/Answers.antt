use Rattle.lq_senders.proofs.FatesRead.{readable}
use Rattle.lq_senders.proofs.laws.runs_are_readable.Goals as goal

pub returns : goal.returns
returns c plan infos opens others start brought closed spares ran sendable = readable plan infos opens others start brought closed spares ran sendable
