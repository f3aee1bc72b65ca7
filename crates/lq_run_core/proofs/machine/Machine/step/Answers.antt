use Rattle.lq_run_core.proofs.Sound.{step-sound}
use Rattle.lq_run_core.proofs.machine.Machine.step.Goals as goal

pub returns-clause-sound : goal.returns-clause-sound
returns-clause-sound c sound = step-sound c.args.self.now c.do_step.new.self c.args.seat c.args.answer sound c.do_step.ensures.machine
