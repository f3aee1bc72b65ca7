use Rattle.lq_table_laws.proofs.Served.{comes}
use Rattle.lq_table_laws.proofs.laws.somebody_comes_for_what_is_held.Goals as goal

pub returns : goal.returns
returns c k s r n opens is = comes k s r n opens is
