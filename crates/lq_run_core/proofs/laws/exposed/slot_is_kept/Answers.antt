use Rattle.lq_run_laws.proofs.SlotFree.{slot-free}
use Rattle.lq_run_laws.proofs.SlotWaits.{slot-waits}
use Rattle.lq_run_laws.proofs.DequeueWaits.{dequeue-waits}
use Rattle.lq_run_core.proofs.laws.exposed.slot_is_kept.Goals as goal

pub returns : goal.returns
returns c = record { free = slot-free; waits = slot-waits; dequeue = dequeue-waits }
