use Rattle.lq_band_laws.proofs.Kept.{loosened}
use Rattle.lq_band_laws.proofs.HoldsKept.{empties_held, finds_room_before, finds_full_before, puts_back}
use Rattle.lq_band_laws.proofs.laws.giving_back_keeps_bands.Goals as goal

pub returns-clause-ring : goal.returns-clause-ring
returns-clause-ring c size slots word seats band e r = loosened size slots word seats band e r

pub returns-clause-emptied : goal.returns-clause-emptied
returns-clause-emptied c size slots word seats band e h some_left = empties_held size slots word seats band e h some_left

pub returns-clause-room : goal.returns-clause-room
returns-clause-room c size slots word seats band e id l h at has new clear edge empty_ = finds_room_before size slots word seats band e id l h at has new clear edge empty_

pub returns-clause-full : goal.returns-clause-full
returns-clause-full c size slots word seats band e h clear edge full = finds_full_before size slots word seats band e h clear edge full

pub returns-clause-put_back : goal.returns-clause-put_back
returns-clause-put_back c size slots word seats band e id n l h at has new room inside clear edge some_taken last = puts_back size slots word seats band e id l h at n has new room inside clear edge some_taken last
