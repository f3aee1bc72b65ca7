use Rattle.std.proofs.Common.{◌∙◌, ap, map}
use Rattle.lq_plan.specs.Reading.{event_in}
use Rattle.lq_plan.proofs.Tables.{read_more, table_at, tables_end}
use Rattle.lq_plan.proofs.reader.read_events.Goals as goal

pub read_event-requires-clause-small : goal.read_event-requires-clause-small
read_event-requires-clause-small c =
    c.requires.each c.loop-event.event-index _ (table_at c.args.events.now c.loop-event.event-index c.event-item.result c.loop-event-test.true c.event-item.is)

pub loop-event-preserved : goal.loop-event-preserved
loop-event-preserved c =
    rw (c.in_ok-push.ensures.items, c.read_event.ensures)
    (read_more (event_in c.args.groups.now) c.args.events.now c.loop-event.event-index c.event-item.result c.loop-event.plans.items c.loop-event-test.true c.event-item.is c.loop-event.invariant)

pub returns : goal.returns
returns c =
    c.loop-event.invariant ∙ ap (map (event_in c.args.groups.now))
    (tables_end c.args.events.now c.loop-event.event-index c.loop-event-test.false)
