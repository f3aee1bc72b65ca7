use Rattle.std.proofs.Common.{◌≡◌, drop, true, Some}
use Rattle.lq_plan.specs.Limits.{is_misplaced, kinds_at}
use Rattle.lq_plan.proofs.order.has_misplaced.Given as goal

abbrev pub invariant-loop-event : goal.invariant-loop-event
invariant-loop-event l =
    is_misplaced (Some l.active) (kinds_at l.station (drop l.event-index l.events)) ≡ is_misplaced (Some true) (kinds_at l.station l.events)
