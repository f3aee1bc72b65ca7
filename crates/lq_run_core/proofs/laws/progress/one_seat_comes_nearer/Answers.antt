use Rattle.lq_run_core.proofs.AmongNearer.{control-nearer, start-nearer, step-nearer}
use Rattle.lq_run_core.proofs.laws.progress.one_seat_comes_nearer.Goals as goal

pub returns : goal.returns
returns c = record { steps = step-nearer; begins = start-nearer; controls = control-nearer }
