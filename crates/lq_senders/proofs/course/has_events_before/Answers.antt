use Rattle.std.proofs.Common.{◌≡◌, ◌<◌, ◌≤◌, arith}
use Rattle.std.proofs.lemmas.Bool.{leb-false}
use Rattle.lq_senders.proofs.Orders.{all-after, none-after}
use Rattle.lq_senders.proofs.course.has_events_before.Goals as goal

pub returns-then-next-events-clause-left : goal.returns-then-next-events-clause-left
returns-then-next-events-clause-left c none first =
    let past = c.if-next-events.true in let last = c.events.ensures.events in none-after c.args.plan.now c.args.next c.args.n (omega arith)

pub returns-clause-left : goal.returns-clause-left
returns-clause-left c none first =
    all-after c.args.plan.now c.args.next c.args.n c.event.result c.stays_within_limits.ensures.order c.event.ensures.event (leb-false _ _ none)
