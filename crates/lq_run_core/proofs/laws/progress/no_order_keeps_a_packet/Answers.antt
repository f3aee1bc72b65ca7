use Rattle.lq_run_core.proofs.Bounded.{not-kept}
use Rattle.lq_run_core.proofs.laws.progress.no_order_keeps_a_packet.Goals as goal

pub returns : goal.returns
returns c = not-kept
