use Rattle.std.proofs.Common.{◌≡◌, drop}
use Rattle.lq_plan.specs.Limits.{falls_below}
use Rattle.lq_plan.proofs.order.falls.Given as goal

abbrev pub invariant-loop-event : goal.invariant-loop-event
invariant-loop-event l = falls_below l.last (drop l.event-index l.events) ≡ falls_below 0 l.events
