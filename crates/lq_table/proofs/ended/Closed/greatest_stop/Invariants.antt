use Rattle.std.proofs.Common.{◌≡◌, ◌+◌, take}
use Rattle.lq_model.specs.Numbers.{greatest}
use Rattle.lq_table.specs.Sees.{closed_stops}
use Rattle.lq_table.proofs.ended.Closed.greatest_stop.Given as goal

abbrev pub invariant-loop-queue : goal.invariant-loop-queue
invariant-loop-queue g l = l.most ≡ greatest (take (l.queue + 1) (closed_stops l.self))
