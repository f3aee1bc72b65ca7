use Rattle.std.proofs.Common.{◌≡◌}
use Rattle.lq_band_laws.specs.Three.{at}
use Rattle.lq_band_laws.specs.Ring.{emptied_down}
use Rattle.lq_table.specs.Sees.{view, ends_at, IsSeatOf, IsElseSame}
use Rattle.lq_ring.specs.Take.{having_ends, emptied_times}
use Rattle.lq_table.specs.Step.{MakesSteps}
use Rattle.lq_ring.specs.StepLists.{zero_steps}
use Rattle.lq_ring.proofs.takes.zero_tail.Given as goal

abbrev pub invariant-loop-n : goal.invariant-loop-n
invariant-loop-n g l = record {
  seat : IsSeatOf l.shared l.cpu;
  same : IsElseSame l.fn.cpu l.cpu;
  view_is : view l.cpu ≡ having_ends l.band (emptied_down (view l.fn.cpu).holder.size (ends_at l.band l.fn.cpu) l.n) (emptied_times (view l.fn.cpu).holder.size l.n (at l.band (view l.fn.cpu).whole.state.ends)) (view l.fn.cpu);
  made : MakesSteps (zero_steps l.band l.head l.n) l.fn.cpu l.cpu;
}
