use Rattle.std.proofs.Common.{refl}
use Rattle.std.specs.Fmt.{digits}
use Rattle.lq_model.specs.Texts.{times_text}
use Rattle.lq_model.proofs.runs.times_are_lines.Goals as goal

pub returns : goal.returns
unfolding times_text digits
returns c = refl
