use Rattle.std.proofs.Common.{◌≡◌}
use Rattle.lq_table.specs.Sees.{view, slot, IsSeatOf}
use Rattle.lq_ring.specs.StepLists.{MakesStepsFrom}
use Rattle.lq_ring.proofs.StepsThen.{Spun}
use Rattle.lq_ring.proofs.puts.lock_producer.Given as goal

abbrev pub invariant-loop : goal.invariant-loop
invariant-loop g l = record {
  can : (goal.iterator-loop g).can_next l.iterator';
  ends : (goal.iterator-loop g).is_finite l.iterator';
  seat : IsSeatOf l.shared l.cpu;
  same : view l.cpu ≡ view l.fn.cpu;
  slot : slot l.cpu ≡ slot l.fn.cpu;
  station : l.cpu.station ≡ l.fn.cpu.station;
  spun : MakesStepsFrom (λ s. Spun l.band) l.fn.cpu l.cpu;
}
