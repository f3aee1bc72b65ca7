use Rattle.lq_senders.proofs.Leaves.{leaves-fates}
use Rattle.lq_senders.proofs.laws.runs_make_fates.Goals as goal

pub returns : goal.returns
returns c plan infos opens before after others start brought closed spares fates ran sendable over read back =
    leaves-fates plan infos opens before after others start brought closed spares fates ran sendable over read back c.one_fate_a_word.ensures
