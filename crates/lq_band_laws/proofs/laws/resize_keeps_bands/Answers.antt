use Rattle.lq_band_laws.proofs.HalfResizedKept.{begins, clears, fills, shrinks, reindexes, restarts}
use Rattle.lq_band_laws.proofs.laws.resize_keeps_bands.Goals as goal

pub returns-clause-begun : goal.returns-clause-begun
returns-clause-begun c size slots word seats band e id l len r at has new rests apart = begins size slots word seats band e r id l len at has new rests apart

pub returns-clause-cleared : goal.returns-clause-cleared
returns-clause-cleared c slots word seats band waiting known hand i m r inside found member = clears slots word seats band waiting known hand r i m inside found member

pub returns-clause-filled : goal.returns-clause-filled
returns-clause-filled c slots word seats band waiting known hand i m r inside empty_ = fills slots word seats band waiting known hand m r i inside empty_

pub returns-clause-settled : goal.returns-clause-settled
returns-clause-settled c slots word seats band waiting known hand m r out = shrinks slots word seats band waiting known hand m r out

pub returns-clause-set : goal.returns-clause-set
returns-clause-set c slots word seats band waiting known hand id i l r at has = reindexes slots word seats band waiting known hand id i l r at has

pub returns-clause-restarted : goal.returns-clause-restarted
returns-clause-restarted c len slots word seats band waiting known hand r some_len filled index fresh = restarts len slots word seats band waiting known hand r some_len filled index fresh
