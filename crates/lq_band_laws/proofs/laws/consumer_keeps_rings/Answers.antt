use Rattle.lq_band_laws.proofs.Kept.{takes, empties}
use Rattle.lq_band_laws.proofs.laws.consumer_keeps_rings.Goals as goal

pub returns-clause-taken : goal.returns-clause-taken
returns-clause-taken c size slots word seats band e r rests full = (takes size slots word seats band e r rests full).0

pub returns-clause-emptied : goal.returns-clause-emptied
returns-clause-emptied c size slots word seats band e r busy = empties size slots word seats band e r busy
