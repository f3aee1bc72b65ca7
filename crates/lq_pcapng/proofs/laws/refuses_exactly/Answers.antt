use Rattle.lq_pcapng.proofs.FirstFault.{fault_refused, first_fault}
use Rattle.lq_pcapng.proofs.laws.refuses_exactly.Goals as goal

pub returns : goal.returns
returns c = λ timed bytes f. (first_fault timed bytes f, fault_refused timed bytes f)
