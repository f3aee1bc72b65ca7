use Rattle.std.proofs.Common.{◌≡◌, ◌∷◌, List, Some}
use Rattle.lq_table.specs.Views.{Left}
use Rattle.lq_table.specs.Sees.{view, slot, IsSeatOf, IsSameSeat}
use Rattle.lq_ring.specs.Take.{CarriesStation}
use Rattle.lq_ring.proofs.PurgeSteps.{IsPurgedTo}
use Rattle.lq_table.specs.Step.{LoadSize, MakesSteps, Step, standing, step_leaves}
use Rattle.lq_ring.specs.StepLists.{PurgeEach}
use Rattle.lq_ring.proofs.purges.purge_band.Given as goal

abbrev pub invariant-loop-n : goal.invariant-loop-n
invariant-loop-n g l = record {
  seat : IsSeatOf l.shared l.cpu;
  still : IsSameSeat l.fn.cpu l.cpu;
  slot : slot l.cpu ≡ slot l.fn.cpu;
  station : CarriesStation l.cpu;
  each : (xs : List Step) × PurgeEach l.band l.size l.cause (step_leaves (LoadSize l.size) (standing l.fn.cpu)) l.n xs × MakesSteps (LoadSize l.size ∷ xs) l.fn.cpu l.cpu;
  purged : (f : Left) → (view l.fn.cpu).holder.left ≡ Some f → IsPurgedTo l.band l.n f (view l.fn.cpu) (view l.cpu);
}
