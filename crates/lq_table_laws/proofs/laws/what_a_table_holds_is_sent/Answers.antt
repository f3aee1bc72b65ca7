use Rattle.lq_table_laws.proofs.Sent.{is_sent}
use Rattle.lq_table_laws.proofs.laws.what_a_table_holds_is_sent.Goals as goal

pub returns : goal.returns
returns c k s s2 r r2 moves cost n sent is runs many = is_sent k s s2 r r2 moves cost n sent is runs many
