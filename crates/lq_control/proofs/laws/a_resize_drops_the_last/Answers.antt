use Rattle.lq_control.proofs.CallLaws.{resizes_shrinks}
use Rattle.lq_control.proofs.laws.a_resize_drops_the_last.Goals as goal

pub returns : goal.returns
returns c event len count old new r = resizes_shrinks event len count old new r
