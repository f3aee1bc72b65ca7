use Rattle.std.proofs.Common.{◌≡◌, ◌≢◌, ◌<◌, ℕ}
use Rattle.std.specs.Prelude.{slice_index}
use Rattle.lq_table.specs.Sees.{view, IsSeatOf, IsElseSame}
use Rattle.lq_ring.specs.Work.{work_at}
use Rattle.lq_ring.specs.StepLists.{MakesStepsFrom, TurnRing}
use Rattle.lq_ring.proofs.moves.count_filled.Given as goal

abbrev pub invariant-loop-i : goal.invariant-loop-i
invariant-loop-i g l = record {
  seat : IsSeatOf l.shared l.cpu;
  same : IsElseSame l.fn.cpu l.cpu;
  view_is : view l.cpu ≡ view l.fn.cpu;
  filled : (j : ℕ) → j < l.i → slice_index (work_at l.band (view l.fn.cpu)).slots j ≢ 0;
  made : MakesStepsFrom (λ s. TurnRing l.band) l.fn.cpu l.cpu;
}
