use Rattle.std.proofs.Common.{◌-◌, length}
use Rattle.lq_pcapng.proofs.Walk.{Walks}
use Rattle.lq_pcapng.proofs.reader.places_of.Given as goal

abbrev pub invariant-loop-place : goal.invariant-loop-place
invariant-loop-place l = Walks l.timed l.bytes l.places.interfaces.items l.places.packets l.place

abbrev pub decreases-loop-place : goal.decreases-loop-place
decreases-loop-place l = length l.bytes - l.place
