use Rattle.std.proofs.Common.{◌≡◌, ℕ, ◌+◌, true, ap, length, map, refl, sym, ◌∙◌, subst, arith}
use Rattle.lq_model.specs.Alone.{with_events, after_packets}
use Rattle.lq_plan.specs.Openings.{opens_while_stopped}
use Rattle.lq_senders.specs.Senders.{IsSending, SenderAtEnd, SenderStands, AreRunAlone, ComesPast, SendsAll}
use Rattle.lq_senders.proofs.Calls.{called-keep}
use Rattle.lq_senders.proofs.Turns.{seats-on}
use Rattle.lq_senders.specs.Woken.{count_sent}
use Rattle.lq_senders.specs.Runs.{opens_in}
use Rattle.lq_senders.proofs.Sending.{events-after-are, sending-start}
use Rattle.lq_senders.proofs.side_by_side.send_loop.Goals as goal

pub loop-n-init : goal.loop-n-init
loop-n-init g c = record {
  owner = refl;
  counted = c.left_at_start.ensures;
  sending = sending-start c.args.run.now.job.plan.now c.args.run.now.job.infos.now (opens_in c.args.run.now) c.args.run.now.tables.now c.args.sender.now.owner c.args.sender.now.seats.items (map g.D.TxDevice.state c.args.sender.now.spares.items) c.requires.stands;
}

pub loop-n-preserved : goal.loop-n-preserved
loop-n-preserved g c = let states = map g.D.TxDevice.state in record {
  owner = c.come_to-at.ensures.owner ∙ c.loop-n.invariant.owner;
  counted = c.come_to-at.ensures.counted;
  sending = subst (λ (s : ℕ). IsSending c.args.run.now.job.plan.now c.args.run.now.job.infos.now (opens_in c.args.run.now) c.args.run.now.tables.now s (c.loop-n.n + 1) c.come_to-at.result.sent c.come_to-at.result.next c.args.sender.now.seats.items (states c.args.sender.now.spares.items)
      c.come_to-at.new.sender.seats.items (states c.come_to-at.new.sender.spares.items)) (sym c.come_to-at.ensures.owner)
      (c.come_to-at.ensures.sending c.args.sender.now.seats.items (states c.args.sender.now.spares.items) c.loop-n.invariant.sending);
}

pub come_to-at-requires-clause-devices : goal.come_to-at-requires-clause-devices
come_to-at-requires-clause-devices g c κs within zero_th = let stand = c.requires.devices (sym c.loop-n.invariant.owner ∙ zero_th) in (stand.0, c.loop-n.invariant.sending.devices stand.0 stand.1)

pub events_left-requires-clause-devices : goal.events_left-requires-clause-devices
events_left-requires-clause-devices g c κs within zero_th = let stand = c.requires.devices (sym c.loop-n.invariant.owner ∙ zero_th) in (stand.0, c.loop-n.invariant.sending.devices stand.0 stand.1)

-- the sender is through
done : (g : _) (c : goal.After-events_left g) → SenderAtEnd c.args.run.now.job.plan.now c.args.run.now.job.infos.now c.events_left.new.sender.owner c.args.run.now.tables.now c.events_left.new.sender.seats.items
done g c =
    let own = c.loop-n.invariant in let test = c.loop-n-test.false in let stop = c.loop-n.auto.n-end in let few = c.args.run.now.job.sendable.few in
    let same : c.loop-n.n ≡ length c.args.run.now.job.infos.now = omega arith in
    subst (λ (s : ℕ). SenderAtEnd c.args.run.now.job.plan.now c.args.run.now.job.infos.now s c.args.run.now.tables.now c.events_left.new.sender.seats.items) (sym c.events_left.ensures.owner)
    (c.events_left.ensures.stands (length c.args.run.now.job.infos.now)
    (subst (λ (n : ℕ). SenderStands c.args.run.now.job.plan.now c.args.run.now.job.infos.now c.loop-n.sender.owner c.loop-n.at.next n c.args.run.now.tables.now c.loop-n.sender.seats.items) same own.sending.stands))

pub returns-clause-owner : goal.returns-clause-owner
returns-clause-owner g c = c.events_left.ensures.owner ∙ c.loop-n.invariant.owner

pub returns-clause-stands : goal.returns-clause-stands
returns-clause-stands g c = done g c.before

pub returns-clause-keeps : goal.returns-clause-keeps
returns-clause-keeps g c = seats-on c.args.sender.now.seats.items c.loop-n.sender.seats.items c.events_left.new.sender.seats.items c.loop-n.invariant.sending.keeps
    (called-keep c.loop-n.sender.seats.items c.events_left.new.sender.seats.items c.events_left.ensures.calls.0)

pub returns-clause-devices : goal.returns-clause-devices
returns-clause-devices g c zero_th units stand =
    c.events_left.ensures.devices (c.loop-n.invariant.owner ∙ zero_th) units (c.loop-n.invariant.sending.devices units stand)

pub returns-clause-runs : goal.returns-clause-runs
returns-clause-runs g c zero_th units stand tell own from begins =
    let inv = c.loop-n.invariant in let test = c.loop-n-test.false in let stop = c.loop-n.auto.n-end in let few = c.args.run.now.job.sendable.few in let states = map g.D.TxDevice.state in
    let same : c.loop-n.n ≡ length c.args.run.now.job.infos.now = omega arith in
    let sending = subst (λ (n : ℕ). IsSending c.args.run.now.job.plan.now c.args.run.now.job.infos.now (opens_in c.args.run.now) c.args.run.now.tables.now c.loop-n.sender.owner n c.loop-n.at.sent c.loop-n.at.next c.args.sender.now.seats.items (states c.args.sender.now.spares.items)
    c.loop-n.sender.seats.items (states c.loop-n.sender.spares.items)) same inv.sending in
    let alone = sending.alone units stand tell (inv.owner ∙ zero_th) own from begins in
    subst (λ l. AreRunAlone c.args.run.now.job.plan.now c.args.run.now.job.infos.now c.events_left.new.sender.seats.items (with_events c.args.run.now.job.plan.now c.args.run.now.job.infos.now l (after_packets c.args.run.now.job.plan.now c.args.run.now.job.infos.now (opens_in c.args.run.now) (λ n. true) from (length c.args.run.now.job.infos.now))))
    (sym (events-after-are c.args.run.now.job.plan.now (length c.args.run.now.job.infos.now) c.loop-n.at.next sending.within sending.earlier alone.1))
    (c.events_left.ensures.runs (inv.owner ∙ zero_th) units (sending.devices units stand) tell _ alone.2)

pub pass_last-requires-clause-number : goal.pass_last-requires-clause-number
pass_last-requires-clause-number g c κs within =
    let test = c.loop-n-test.false in let stop = c.loop-n.auto.n-end in let few = c.args.run.now.job.sendable.few in let same : c.loop-n.n ≡ length c.args.run.now.job.infos.now = omega arith in
    c.loop-n.invariant.sending.sent ∙ (ap (λ (n : ℕ). count_sent c.args.run.now.job.infos.now c.loop-n.sender.owner n) same ∙ ap (λ (s : ℕ). count_sent c.args.run.now.job.infos.now s (length c.args.run.now.job.infos.now)) (sym c.events_left.ensures.owner))

pub pass_last-requires-clause-done : goal.pass_last-requires-clause-done
pass_last-requires-clause-done g c κs within = done g c

pub returns-clause-course : goal.returns-clause-course
returns-clause-course g c =
    let own = c.loop-n.invariant in let test = c.loop-n-test.false in let stop = c.loop-n.auto.n-end in let few = c.args.run.now.job.sendable.few in
    let same : c.loop-n.n ≡ length c.args.run.now.job.infos.now = omega arith in
    let infos = c.args.run.now.job.infos.now in let opens = opens_in c.args.run.now in let only = opens_while_stopped c.args.run.now.job.plan.now in let start = c.args.sender.now.seats.items in
    subst (λ (s : ℕ). SendsAll infos only opens s start c.events_left.new.sender.seats.items) own.owner (
      c.loop-n.sender.seats.items,
      (
        subst (λ (n : ℕ). ComesPast infos only opens c.loop-n.sender.owner n start c.loop-n.sender.seats.items) same own.sending.came,
        c.events_left.ensures.calls,
      ),
    )
