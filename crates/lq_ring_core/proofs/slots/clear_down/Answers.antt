use Rattle.std.proofs.Common.{arith}
use Rattle.lq_ring_core.proofs.Uses.{IsCleared-set}
use Rattle.lq_ring_core.proofs.slots.clear_down.Goals as goal

pub loop-place-preserved : goal.loop-place-preserved
loop-place-preserved c = record {
  after_start = omega arith;
  before_end = omega arith;
  cleared = IsCleared-set c.args.slots.now c.loop-place.slots c.loop-place.place c.args.end (omega arith) (omega arith) c.requires.within c.loop-place.invariant.cleared;
}
