use Rattle.std.proofs.Common.{rules}
use Rattle.lq_qdisc.proofs.sends.refuse.Goals as goal

pub returns : goal.returns
returns g c = record { same = search rules; settled = search rules; event = search rules; step = search rules }
