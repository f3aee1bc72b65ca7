use Rattle.lq_run_laws.proofs.Among.{own-packet-stays, control-stays-away, phase-stays, purge-stays, lock-stays}
use Rattle.lq_run_laws.proofs.laws.among.step_leaves_alone.Goals as goal

pub returns-clause-own_packet : goal.returns-clause-own_packet
returns-clause-own_packet c q s answer p may is = own-packet-stays q s answer may p is

pub returns-clause-control : goal.returns-clause-control
returns-clause-control c q s answer may = control-stays-away q s answer may

pub returns-clause-phase : goal.returns-clause-phase
returns-clause-phase c q s answer may = phase-stays q s answer may

pub returns-clause-purge : goal.returns-clause-purge
returns-clause-purge c q s answer may = purge-stays q s answer may

pub returns-clause-lock : goal.returns-clause-lock
returns-clause-lock c before behind q s answer one may same = lock-stays q s answer may before behind one same
