use Rattle.lq_pcapng.proofs.Again.{accepted_again}
use Rattle.lq_pcapng.proofs.laws.accepts_again.Goals as goal

pub returns : goal.returns
returns c = accepted_again
