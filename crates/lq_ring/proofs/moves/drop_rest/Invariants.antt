use Rattle.std.proofs.Common.{◌≡◌, ◌≤◌, ◌+◌, drop, length}
use Rattle.lq_table.specs.Sees.{view, IsSeatOf, IsElseSame}
use Rattle.lq_ring.specs.Work.{work_at, working}
use Rattle.lq_ring.proofs.Works.{shrunk_to, having_settled, dropped_to}
use Rattle.lq_ring.specs.StepLists.{MakesStepsFrom, TurnRing}
use Rattle.lq_ring.proofs.moves.drop_rest.Given as goal

abbrev pub invariant-loop-n : goal.invariant-loop-n
invariant-loop-n g l = record {
  seat : IsSeatOf l.shared l.cpu;
  same : IsElseSame l.fn.cpu l.cpu;
  view_is : view l.cpu ≡ having_settled (shrunk_to l.resize.event l.n (work_at l.band (view l.fn.cpu)).waiting (view l.fn.cpu).settled) (working l.band (dropped_to l.from l.n (work_at l.band (view l.fn.cpu))) (view l.fn.cpu));
  count_is : l.count + length (drop l.n (work_at l.band (view l.fn.cpu)).waiting) ≡ length (work_at l.band (view l.fn.cpu)).waiting;
  few : l.count ≤ l.n;
  made : MakesStepsFrom (λ s. TurnRing l.band) l.fn.cpu l.cpu;
}
