use Rattle.lq_run_laws.proofs.OwnersDiffer.{owners-differ}
use Rattle.lq_run_laws.proofs.DirectAlone.{direct-alone}
use Rattle.lq_run_core.proofs.laws.exposed.direct_is_kept.Goals as goal

pub returns : goal.returns
returns c = record { owners = owners-differ; alone = direct-alone }
