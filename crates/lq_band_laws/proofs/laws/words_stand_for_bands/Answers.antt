use Rattle.lq_band_laws.proofs.StandsFor.{index_stands, head_stands, held_stand, occupied}
use Rattle.lq_band_laws.proofs.laws.words_stand_for_bands.Goals as goal

pub returns-clause-index : goal.returns-clause-index
returns-clause-index c size slots word seats band e r = index_stands size slots word seats band e r

pub returns-clause-head : goal.returns-clause-head
returns-clause-head c size slots word seats band e r rests = head_stands size slots word seats band e r rests

pub returns-clause-held : goal.returns-clause-held
returns-clause-held c size slots word seats band e r i from below = held_stand size slots word seats band e r i from below

pub returns-clause-occupied : goal.returns-clause-occupied
returns-clause-occupied c size slots word seats band e r rests = occupied size slots word seats band e r rests
