use Rattle.std.proofs.Common.{◌≡◌, ℕ, suc, ◌+◌, map, sym, ◌∙◌, subst, arith}
use Rattle.lq_senders.specs.Units.{DevicesStand}
use Rattle.lq_senders.proofs.Devices.{devices-kept, devices-past}
use Rattle.lq_senders.proofs.swaps.do_any_event.Goals as goal

pub returns-else-is_swap_kind-clause-devices : goal.returns-else-is_swap_kind-clause-devices
returns-else-is_swap_kind-clause-devices g c units stand =
    let plan = c.args.run.now.job.plan.now in let infos = c.args.run.now.job.infos.now in let e = c.args.e in let spares = map g.D.TxDevice.state c.args.sender.now.spares.items in
    let more : suc e ≡ e + 1 = omega arith in
    subst (λ (k : ℕ). DevicesStand plan infos units k c.do_next_event.new.seats.items spares) more
    (devices-past plan infos units e c.event.result c.do_next_event.new.seats.items spares c.event.ensures.event (sym c.is_swap_kind.ensures ∙ c.if-is_swap_kind.false)
    (devices-kept plan infos units e c.args.sender.now.seats.items c.do_next_event.new.seats.items spares c.do_next_event.ensures.keeps stand))
