use Rattle.lq_band_laws.proofs.Kept.{locks, sizes_if, finds_room, stores, gives}
use Rattle.lq_band_laws.proofs.laws.producers_keep_rings.Goals as goal

pub returns-clause-locked : goal.returns-clause-locked
returns-clause-locked c size slots word seats band e id i l r at free even = locks size slots word seats band e id l r at i free even

pub returns-clause-sized : goal.returns-clause-sized
returns-clause-sized c size slots word seats band e id l r at = sizes_if size slots word seats band e id l r at

pub returns-clause-room : goal.returns-clause-room
returns-clause-room c size slots word seats band e id l r at has new empty_ = finds_room size slots word seats band e id l r at has new empty_

pub returns-clause-joined : goal.returns-clause-joined
returns-clause-joined c size slots word seats band e id n l r at has new room = stores size slots word seats band e id l r at n has new room

pub returns-clause-given : goal.returns-clause-given
returns-clause-given c size slots word seats band e id l r at has = gives size slots word seats band e id l r at has
