use Rattle.std.proofs.Common.{sym, ap, ◌∙◌, subst, arith}
use Rattle.lq_model.specs.Plan.{is_at}
use Rattle.lq_seat.specs.State.{IsHere, Setup, TableState}
use Rattle.lq_senders.specs.Senders.{AllDid, DoesEventAt, StandsAt}
use Rattle.lq_senders.proofs.Events.{all-called, all-keep, all-run, all-stand, may-do-at}
use Rattle.lq_senders.proofs.Rounds.{all-did, none-did, one-more-did}
use Rattle.lq_senders.proofs.Seats.{made-of, read-at}
use Rattle.lq_senders.proofs.swaps.do_next_event.Goals as goal

pub loop-j-init : goal.loop-j-init
loop-j-init g c = none-did (DoesEventAt c.args.e c.event-event.result) c.args.seats.now.items

-- how the seat that is next stands
there : (g : _) (c : goal.After-index_mut g)
    → StandsAt c.args.run.now.job.plan.now c.args.run.now.job.infos.now 0 c.args.e c.requires.stands.0 c.loop-j.j c.index-run-j.result c.index_mut.result.now
there g c =
    let standing = c.requires.stands.1 in let first = c.loop-j.invariant in let long = first.long in let same = standing.long in let test = c.loop-j-test.true in
    standing.each c.loop-j.j c.index-run-j.result c.index_mut.result.now
    (read-at c.args.run.now.tables.now c.loop-j.j c.index-run-j.result test c.index-run-j.is)
    (sym (first.rest c.loop-j.j (omega arith)) ∙ read-at c.loop-j.seats.items c.loop-j.j c.index_mut.result.now (omega arith) c.index_mut.ensures.value)

pub event_at-requires-clause-here : goal.event_at-requires-clause-here
event_at-requires-clause-here g c κs within = subst (λ (t : TableState). IsHere t c.index_mut.result.now) c.index-run-j.is (there g c).seat

pub event_at-requires-clause-no_swap : goal.event_at-requires-clause-no_swap
event_at-requires-clause-no_swap g c κs within = c.requires.no_swap c.event-event.result c.event-event.ensures.event

pub event_at-requires-clause-may : goal.event_at-requires-clause-may
event_at-requires-clause-may g c κs within at =
    let all = c.requires.stands.1.all in let test = c.loop-j-test.true in
    may-do-at c.args.run.now.job.plan.now c.args.run.now.job.infos.now c.args.e c.event-event.result c.event-event.ensures.event c.stays_within_limits.ensures.order c.stays_within_limits.ensures.stations
    c.requires.stands.0 c.loop-j.j c.index-run-j.result c.index_mut.result.now (omega arith) c.event-event.ensures.within (there g c)
    (ap (λ (k : Setup). is_at k.station c.event-event.result) (sym (made-of c.args.run.now.job.plan.now c.args.run.now.job.infos.now c.loop-j.j c.index-run-j.result (there g c).table c.index_mut.result.now (there g c).seat)) ∙ at)

pub loop-j-preserved : goal.loop-j-preserved
loop-j-preserved g c =
    let first = c.loop-j.invariant in let long = first.long in let same = c.requires.stands.1.long in let test = c.loop-j-test.true in
    one-more-did (DoesEventAt c.args.e c.event-event.result) c.loop-j.j c.args.seats.now.items c.loop-j.seats.items c.index_mut.result.now c.event_at.new.seat
    (read-at c.loop-j.seats.items c.loop-j.j c.index_mut.result.now (omega arith) c.index_mut.ensures.value) c.event_at.ensures.does first

did : (g : _) (c : goal.After-loop-j g) → AllDid (DoesEventAt c.args.e c.event-event.result) c.args.seats.now.items c.loop-j.seats.items
did g c =
    let test = c.loop-j-test.false in let same = c.requires.stands.1.long in
    all-did (DoesEventAt c.args.e c.event-event.result) c.loop-j.j c.args.seats.now.items c.loop-j.seats.items (omega arith) c.loop-j.invariant

pub returns-clause-stands : goal.returns-clause-stands
returns-clause-stands g c n standing =
    all-stand c.args.run.now.job.plan.now c.args.run.now.job.infos.now c.args.e c.event-event.result c.event-event.ensures.event c.stays_within_limits.ensures.order c.stays_within_limits.ensures.stations
    c.args.run.now.tables.now c.args.seats.now.items c.loop-j.seats.items (did g c) n standing

pub returns-clause-keeps : goal.returns-clause-keeps
returns-clause-keeps g c =
    all-keep c.args.run.now.job.plan.now c.args.run.now.job.infos.now c.args.e c.event-event.result c.event-event.ensures.event c.stays_within_limits.ensures.order c.stays_within_limits.ensures.stations
    c.args.run.now.tables.now c.args.seats.now.items c.loop-j.seats.items (did g c)

pub returns-clause-calls : goal.returns-clause-calls
returns-clause-calls g c =
    all-called c.args.run.now.job.plan.now c.args.run.now.job.infos.now c.args.e c.event-event.result c.event-event.ensures.event c.stays_within_limits.ensures.order c.stays_within_limits.ensures.stations
    c.args.run.now.tables.now c.args.seats.now.items c.loop-j.seats.items (did g c)

pub returns-clause-runs : goal.returns-clause-runs
returns-clause-runs g c stations runs =
    all-run c.args.run.now.job.plan.now c.args.run.now.job.infos.now c.args.e c.event-event.result c.event-event.ensures.event c.stays_within_limits.ensures.order c.stays_within_limits.ensures.stations
    c.args.run.now.tables.now c.args.seats.now.items c.loop-j.seats.items (did g c) c.requires.stands.0 stations c.requires.stands.1 runs
