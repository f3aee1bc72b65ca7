use Rattle.lq_pcap.proofs.FirstFault.{fault_refused, first_fault}
use Rattle.lq_pcap.proofs.laws.refuses_exactly.Goals as goal

pub returns : goal.returns
returns c = λ bytes reason place. (first_fault bytes reason place, fault_refused bytes reason place)
