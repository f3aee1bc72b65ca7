use Rattle.lq_pcap.proofs.GeneratedCaptures.{generated_accepted}
use Rattle.lq_pcap.proofs.laws.generates_captures.Goals as goal

pub returns : goal.returns
returns c = generated_accepted
