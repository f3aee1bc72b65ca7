use Rattle.lq_pcapng.proofs.Acceptance.{accepted_is, is_accepted}
use Rattle.lq_pcapng.proofs.laws.accepts_exactly.Goals as goal

pub returns : goal.returns
returns c = λ timed bytes capture. (accepted_is timed bytes capture, is_accepted timed bytes capture)
