use Rattle.lq_run_core.proofs.Mistakes.{soft-interrupt-gives-up}
use Rattle.lq_run_core.proofs.laws.mistakes.soft_interrupt_gives_up_when_deactivated.Goals as goal

pub returns : goal.returns
returns c = soft-interrupt-gives-up
