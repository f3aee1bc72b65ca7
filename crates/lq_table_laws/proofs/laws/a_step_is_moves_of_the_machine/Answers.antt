use Rattle.lq_table_laws.proofs.EachStep.{is_its_moves}
use Rattle.lq_table_laws.proofs.laws.a_step_is_moves_of_the_machine.Goals as goal

pub returns : goal.returns
returns c k x s place t m = is_its_moves k x s place t m
