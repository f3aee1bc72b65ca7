use Rattle.std.proofs.Common.{rules}
use Rattle.lq_qdisc.proofs.direct.ask_device.Goals as goal

pub returns : goal.returns
returns g c = record { same = search rules; station = search rules; handed = search rules; made = search rules }
