use Rattle.lq_run_laws.proofs.Among.{hand-from, slot-from, bands-from}
use Rattle.lq_run_laws.proofs.laws.among.packets_come_from.Goals as goal

pub returns-clause-hand : goal.returns-clause-hand
returns-clause-hand c q s answer p may e = hand-from q s answer may p e

pub returns-clause-slot : goal.returns-clause-slot
returns-clause-slot c q s answer p may e = slot-from q s answer may p e

pub returns-clause-bands : goal.returns-clause-bands
returns-clause-bands c q s answer band p may held = bands-from q s answer may band p held
