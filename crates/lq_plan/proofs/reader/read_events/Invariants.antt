use Rattle.std.proofs.Common.{◌≡◌, take, map}
use Rattle.lq_plan.specs.Reading.{event_in}
use Rattle.lq_plan.specs.Tables.{tables_view}
use Rattle.lq_plan.proofs.reader.read_events.Given as goal

abbrev pub invariant-loop-event : goal.invariant-loop-event
invariant-loop-event l = l.plans.items ≡ map (event_in l.groups) (take l.event-index (tables_view l.events))
