use Rattle.std.proofs.Common.{◌∙◌, sym}
use Rattle.lq_plan.proofs.Events.{misplaced_here}
use Rattle.lq_plan.proofs.order.has_misplaced.Goals as goal

pub returns-in-None : goal.returns-in-None
returns-in-None c =
    misplaced_here c.args.events.now c.loop-event.event-index c.args.station c.loop-event.active _ c.loop-event-test.true (sym c.is_at.ensures ∙ c.if-is_at.true) c.in-None.ensures
    ∙ c.loop-event.invariant
