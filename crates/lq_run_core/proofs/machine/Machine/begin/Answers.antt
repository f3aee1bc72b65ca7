use Rattle.lq_run_core.proofs.Sound.{begin-sound}
use Rattle.lq_run_core.proofs.machine.Machine.begin.Goals as goal

pub returns-clause-sound : goal.returns-clause-sound
returns-clause-sound c sound = begin-sound c.args.self.now c.begin_call.new.self c.args.seat c.args.start sound c.begin_call.ensures.machine
