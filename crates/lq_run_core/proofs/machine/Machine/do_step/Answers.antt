use Rattle.std.proofs.Common.{◌<◌, length, arith, rules, sym, ◌∙◌}
use Rattle.lq_run_laws.proofs.Counts.{few-inside, step-inside}
use Rattle.lq_run_core.proofs.machine.Machine.do_step.Goals as goal

pub step-requires-clause-few : goal.step-requires-clause-few
step-requires-clause-few c =
    omega (arith, c.self.invariant.0, few-inside (record { qdisc = c.self.inside.qdisc; seats = c.self.inside.seats.items }) c.self.invariant.1)

pub invariant_of-self : goal.invariant_of-self
invariant_of-self c =
    let within : c.args.seat < length c.self.inside.seats.items = search rules in (
      c.self.invariant.0,
      step-inside c.self.inside.qdisc c.step.new.self c.self.inside.seats.items c.args.seat c.index-old.result.now c.step.result c.args.answer
          within c.index-old.ensures (sym c.may_answer.ensures ∙ c.if-not-may_answer.false) c.self.invariant.1 c.step.ensures.qdisc c.step.ensures.seat,
    )
