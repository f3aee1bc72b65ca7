use Rattle.std.proofs.Common.{ap}
use Rattle.lq_model.specs.Positions.{direct_packet}
use Rattle.lq_run_core.proofs.laws.direct_comes_alone.Goals as goal

pub returns : goal.returns
returns c m i p r ind at held = ind.direct_alone i p r (ap direct_packet at) held
