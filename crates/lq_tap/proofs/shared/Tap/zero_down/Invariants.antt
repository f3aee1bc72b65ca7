use Rattle.std.proofs.Common.{◌≡◌}
use Rattle.lq_log.specs.Made.{becomes}
use Rattle.lq_band_laws.specs.Ring.{emptied_down}
use Rattle.lq_tap.specs.Told.{with_ends}
use Rattle.lq_tap.proofs.Tells.{emptying}
use Rattle.lq_tap.specs.Steps.{emptied_below}
use Rattle.lq_tap.specs.Sees.{view, steps, IsSeatOf, IsElseSame}
use Rattle.lq_tap.proofs.shared.Tap.zero_down.Given as goal

abbrev pub ghosts-store : goal.ghosts-store
ghosts-store a = record { told = becomes (λ _. emptying) }

abbrev pub invariant-loop-n : goal.invariant-loop-n
invariant-loop-n l = record {
  seat : IsSeatOf l.self l.seat;
  same : IsElseSame l.fn.seat l.seat;
  view_is : view l.seat ≡ with_ends (emptied_down l.self.len (view l.fn.seat).reader.ends l.n) (view l.fn.seat);
  made : steps l.seat ≡ emptied_below l.head l.n (steps l.fn.seat);
}
