use Rattle.lq_band_laws.proofs.Kept.{finds_full, finds_none, takes}
use Rattle.lq_band_laws.proofs.laws.slots_tell.Goals as goal

pub returns-clause-full : goal.returns-clause-full
returns-clause-full c size slots word seats band e id l r at has new full = finds_full size slots word seats band e id l r at has new full

pub returns-clause-none : goal.returns-clause-none
returns-clause-none c size slots word seats band e r rests z = finds_none size slots word seats band e r rests z

pub returns-clause-first : goal.returns-clause-first
returns-clause-first c size slots word seats band e r rests full = (takes size slots word seats band e r rests full).1
