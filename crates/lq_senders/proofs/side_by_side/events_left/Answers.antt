use Rattle.std.proofs.Common.{◌≡◌, ℕ, ◌-◌, length, map, refl, sym, subst, arith}
use Rattle.lq_model.specs.Alone.{with_events}
use Rattle.lq_senders.specs.Senders.{SenderStands, AreRunAlone}
use Rattle.lq_senders.specs.Units.{DevicesStand}
use Rattle.lq_senders.specs.Way.{numbers_from}
use Rattle.lq_senders.proofs.Calls.{none-called}
use Rattle.lq_senders.proofs.Sending.{at-last, sender-any}
use Rattle.lq_senders.proofs.side_by_side.events_left.Given as given
use Rattle.lq_senders.proofs.side_by_side.events_left.Goals as goal
use Rattle.lq_senders.proofs.side_by_side.events_left.Goals.{After-events_before-last}

-- no event stands after the highest number
all-done : (g : given.Over) (c : After-events_before-last g) → c.events_before-last.result ≡ length c.args.run.now.job.plan.now.events
all-done g c =
    let e = c.events_before-last.ensures in
    at-last c.args.run.now.job.plan.now c.events_before-last.result 4294967295 e.within.1 e.left
    (λ j event there. let within = (c.stays_within_limits.ensures.each_event j event there).before in omega arith)

pub returns-then-sender-eq0-clause-stands : goal.returns-then-sender-eq0-clause-stands
returns-then-sender-eq0-clause-stands g c m standing =
    let run = c.args.run.now in let seats = c.events_before-last.new.sender.seats.items in let zero_th = c.if-sender-eq0.true in
    subst (λ (s : ℕ). SenderStands run.job.plan.now run.job.infos.now s (length run.job.plan.now.events) m run.tables.now seats) (sym zero_th)
    (subst (λ (k : ℕ). SenderStands run.job.plan.now run.job.infos.now 0 k m run.tables.now seats) (all-done g (goal.at.returns-then-sender-eq0-clause-stands g c).After-events_before-last)
    (c.events_before-last.ensures.stands m (subst (λ (s : ℕ). SenderStands run.job.plan.now run.job.infos.now s c.args.next m run.tables.now c.args.sender.now.seats.items) zero_th standing)))

pub returns-then-sender-eq0-clause-devices : goal.returns-then-sender-eq0-clause-devices
returns-then-sender-eq0-clause-devices g c zero_th units stand =
    let run = c.args.run.now in let new = c.events_before-last.new.sender in
    subst (λ (k : ℕ). DevicesStand run.job.plan.now run.job.infos.now units k new.seats.items (map g.D.TxDevice.state new.spares.items))
    (all-done g (goal.at.returns-then-sender-eq0-clause-devices g c).After-events_before-last) (c.events_before-last.ensures.devices units stand)

pub returns-then-sender-eq0-clause-runs : goal.returns-then-sender-eq0-clause-runs
returns-then-sender-eq0-clause-runs g c zero_th units stand tell stations runs =
    let run = c.args.run.now in
    subst (λ (k : ℕ). AreRunAlone run.job.plan.now run.job.infos.now c.events_before-last.new.sender.seats.items (with_events run.job.plan.now run.job.infos.now (numbers_from c.args.next (k - c.args.next)) stations))
    (all-done g (goal.at.returns-then-sender-eq0-clause-runs g c).After-events_before-last) (c.events_before-last.ensures.runs units stand tell stations runs)

pub returns-else-sender-eq0-clause-stands : goal.returns-else-sender-eq0-clause-stands
returns-else-sender-eq0-clause-stands g c m standing =
    let run = c.args.run.now in
    sender-any run.job.plan.now run.job.infos.now c.args.sender.now.owner c.args.next (length run.job.plan.now.events) m run.tables.now c.args.sender.now.seats.items c.if-sender-eq0.false standing

pub returns-then-sender-eq0-clause-calls : goal.returns-then-sender-eq0-clause-calls
returns-then-sender-eq0-clause-calls g c = (c.events_before-last.ensures.calls, (λ other. absurd (other c.if-sender-eq0.true)))

pub returns-else-sender-eq0-clause-calls : goal.returns-else-sender-eq0-clause-calls
returns-else-sender-eq0-clause-calls g c = (none-called c.args.sender.now.seats.items, (λ _. refl))

pub returns-else-sender-eq0-clause-devices : goal.returns-else-sender-eq0-clause-devices
returns-else-sender-eq0-clause-devices g c zero_th units stand = absurd (c.if-sender-eq0.false zero_th)

pub returns-else-sender-eq0-clause-runs : goal.returns-else-sender-eq0-clause-runs
returns-else-sender-eq0-clause-runs g c zero_th units stand tell stations runs = absurd (c.if-sender-eq0.false zero_th)
