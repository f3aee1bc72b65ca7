use Rattle.lq_senders.proofs.Leaves.{keeps-box}
use Rattle.lq_senders.proofs.laws.runs_keep_boxes.Goals as goal

pub returns : goal.returns
returns c plan infos opens before after others start brought closed spares ran over back unit old new below at-old at-new =
    keeps-box plan infos opens before after others start brought closed spares ran over back unit old new below at-old at-new
