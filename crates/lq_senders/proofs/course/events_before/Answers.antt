use Rattle.std.proofs.Common.{◌≡◌, ℕ, ◌≤◌, map, refl, ◌∙◌, subst, arith}
use Rattle.std.proofs.lemmas.Option.{slice_get_within}
use Rattle.lq_senders.proofs.Orders.{in-order}
use Rattle.lq_senders.proofs.Turns.{FirstEvents, no-events-yet, one-event-more}
use Rattle.lq_senders.proofs.course.events_before.Goals as goal

pub loop-e-init : goal.loop-e-init
loop-e-init g c = record { owner = refl; first = no-events-yet c.args.run.now.job.plan.now c.args.run.now.job.infos.now c.args.run.now.tables.now c.args.next c.args.n c.args.sender.now.seats.items (map g.D.TxDevice.state c.args.sender.now.spares.items) }

pub returns-then-event-n-clause-owner : goal.returns-then-event-n-clause-owner
returns-then-event-n-clause-owner g c = c.loop-e.invariant.owner

pub returns-clause-owner : goal.returns-clause-owner
returns-clause-owner g c = c.loop-e.invariant.owner

pub returns-then-event-n-clause-done : goal.returns-then-event-n-clause-done
returns-then-event-n-clause-done g c k event above below there = c.loop-e.invariant.first.done k event above below there

pub returns-then-event-n-clause-left : goal.returns-then-event-n-clause-left
returns-then-event-n-clause-left g c k event above there =
    let behind = c.if-event-n.true in
    let order = in-order c.args.run.now.job.plan.now c.loop-e.e k c.event.result event c.stays_within_limits.ensures.order above c.event.ensures.event there in omega arith

pub returns-then-event-n-clause-stands : goal.returns-then-event-n-clause-stands
returns-then-event-n-clause-stands g c m standing = c.loop-e.invariant.first.stands m standing

pub returns-then-event-n-clause-calls : goal.returns-then-event-n-clause-calls
returns-then-event-n-clause-calls g c = c.loop-e.invariant.first.calls

pub returns-then-event-n-clause-runs : goal.returns-then-event-n-clause-runs
returns-then-event-n-clause-runs g c units stand tell stations runs = c.loop-e.invariant.first.runs units stand tell stations runs

pub returns-then-event-n-clause-devices : goal.returns-then-event-n-clause-devices
returns-then-event-n-clause-devices g c units stand = c.loop-e.invariant.first.devices units stand

pub do_any_event-requires-clause-stands : goal.do_any_event-requires-clause-stands
do_any_event-requires-clause-stands g c κs within = (c.requires.stands.0, c.loop-e.invariant.first.stands c.requires.stands.0 c.requires.stands.1)

pub do_any_event-requires-clause-devices : goal.do_any_event-requires-clause-devices
do_any_event-requires-clause-devices g c κs within = (c.requires.devices.0, c.loop-e.invariant.first.devices c.requires.devices.0 c.requires.devices.1)

pub loop-e-preserved : goal.loop-e-preserved
loop-e-preserved g c =
    let test = c.if-event-n.false in
    record {
      owner = c.do_any_event.ensures.owner ∙ c.loop-e.invariant.owner;
      first = one-event-more c.args.run.now.job.plan.now c.args.run.now.job.infos.now c.args.run.now.tables.now c.args.next c.args.n c.loop-e.e c.event.result c.args.sender.now.seats.items (map g.D.TxDevice.state c.args.sender.now.spares.items)
          c.loop-e.sender.seats.items (map g.D.TxDevice.state c.loop-e.sender.spares.items) c.do_any_event.new.sender.seats.items (map g.D.TxDevice.state c.do_any_event.new.sender.spares.items)
          c.loop-e.auto.e c.event.ensures.event (omega arith) c.do_any_event.ensures.stands c.do_any_event.ensures.calls c.do_any_event.ensures.devices c.do_any_event.ensures.runs c.loop-e.invariant.first;
    }

pub returns-clause-done : goal.returns-clause-done
returns-clause-done g c k event above below there =
    let test = c.loop-e-test.false in let end = c.events-e-end.ensures.events in let last = c.events.ensures.events in let within = slice_get_within c.args.run.now.job.plan.now.events k event there in
    c.loop-e.invariant.first.done k event above (omega arith) there

pub returns-clause-left : goal.returns-clause-left
returns-clause-left g c k event above there =
    let last = c.events.ensures.events in let within = slice_get_within c.args.run.now.job.plan.now.events k event there in absurd (omega arith)

pub returns-clause-stands : goal.returns-clause-stands
returns-clause-stands g c m standing =
    let test = c.loop-e-test.false in let end = c.events-e-end.ensures.events in let next = c.requires.next in let stop : c.loop-e.e ≤ c.events-e-end.result = c.loop-e.auto.e-end (omega arith) in
    let same : c.loop-e.e ≡ c.events.result = let last = c.events.ensures.events in omega arith in
    (subst (λ (e : ℕ). FirstEvents c.args.run.now.job.plan.now c.args.run.now.job.infos.now c.args.run.now.tables.now c.args.next c.args.n e c.args.sender.now.seats.items (map g.D.TxDevice.state c.args.sender.now.spares.items) c.loop-e.sender.seats.items (map g.D.TxDevice.state c.loop-e.sender.spares.items)) same c.loop-e.invariant.first).stands m standing

pub returns-clause-calls : goal.returns-clause-calls
returns-clause-calls g c = c.loop-e.invariant.first.calls

pub returns-clause-runs : goal.returns-clause-runs
returns-clause-runs g c units stand tell stations runs =
    let test = c.loop-e-test.false in let end = c.events-e-end.ensures.events in let next = c.requires.next in let stop : c.loop-e.e ≤ c.events-e-end.result = c.loop-e.auto.e-end (omega arith) in
    let same : c.loop-e.e ≡ c.events.result = let last = c.events.ensures.events in omega arith in
    (subst (λ (e : ℕ). FirstEvents c.args.run.now.job.plan.now c.args.run.now.job.infos.now c.args.run.now.tables.now c.args.next c.args.n e c.args.sender.now.seats.items (map g.D.TxDevice.state c.args.sender.now.spares.items) c.loop-e.sender.seats.items (map g.D.TxDevice.state c.loop-e.sender.spares.items)) same c.loop-e.invariant.first).runs units stand tell stations runs

pub returns-clause-devices : goal.returns-clause-devices
returns-clause-devices g c units stand =
    let test = c.loop-e-test.false in let end = c.events-e-end.ensures.events in let next = c.requires.next in let stop : c.loop-e.e ≤ c.events-e-end.result = c.loop-e.auto.e-end (omega arith) in
    let same : c.loop-e.e ≡ c.events.result = let last = c.events.ensures.events in omega arith in
    (subst (λ (e : ℕ). FirstEvents c.args.run.now.job.plan.now c.args.run.now.job.infos.now c.args.run.now.tables.now c.args.next c.args.n e c.args.sender.now.seats.items (map g.D.TxDevice.state c.args.sender.now.spares.items) c.loop-e.sender.seats.items (map g.D.TxDevice.state c.loop-e.sender.spares.items)) same c.loop-e.invariant.first).devices units stand
