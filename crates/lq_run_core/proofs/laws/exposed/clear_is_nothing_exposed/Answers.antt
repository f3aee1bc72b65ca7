use Rattle.lq_run_core.proofs.Exposed.{clear-exposed}
use Rattle.lq_run_core.proofs.laws.exposed.clear_is_nothing_exposed.Goals as goal

pub returns : goal.returns
returns c m = clear-exposed m
