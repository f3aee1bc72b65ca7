use Rattle.lq_run_laws.proofs.Among.{steps-among, begins-among, controls-among}
use Rattle.lq_run_laws.proofs.laws.among.one_seat_moves.Goals as goal

pub returns-clause-steps : goal.returns-clause-steps
returns-clause-steps c before behind q s answer may = steps-among before behind q s answer may

pub returns-clause-begins : goal.returns-clause-begins
returns-clause-begins c before behind q s b may free = begins-among before behind q s b may free

pub returns-clause-controls : goal.returns-clause-controls
returns-clause-controls c before behind q s step control may = controls-among before behind q s step control may
