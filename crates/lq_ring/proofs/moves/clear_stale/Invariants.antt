use Rattle.std.proofs.Common.{◌≡◌}
use Rattle.lq_table.specs.Sees.{view, IsSeatOf, IsElseSame}
use Rattle.lq_ring.specs.Work.{work_at, working, zeroed_to}
use Rattle.lq_ring.proofs.Works.{with_slots}
use Rattle.lq_ring.specs.StepLists.{MakesStepsFrom, TurnRing}
use Rattle.lq_ring.proofs.moves.clear_stale.Given as goal

abbrev pub invariant-loop-n : goal.invariant-loop-n
invariant-loop-n g l = record {
  seat : IsSeatOf l.shared l.cpu;
  same : IsElseSame l.fn.cpu l.cpu;
  view_is : view l.cpu ≡ working l.band (with_slots (zeroed_to l.tail l.n (work_at l.band (view l.fn.cpu)).slots) (work_at l.band (view l.fn.cpu))) (view l.fn.cpu);
  made : MakesStepsFrom (λ s. TurnRing l.band) l.fn.cpu l.cpu;
}
