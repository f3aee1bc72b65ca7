use Rattle.std.proofs.Common.{◌∙◌}
use Rattle.lq_class.proofs.Windows.{five_are}
use Rattle.lq_class.proofs.flows.key_from.Goals as goal

pub returns : goal.returns
returns c = c.from_be_bytes.ensures ∙ five_are c.args.place c.requires
