use Rattle.std.proofs.Common.{◌<◌, length, rules, sym, ◌∙◌}
use Rattle.lq_run_core.specs.Numbered.{NumberedMachine, beginning_of}
use Rattle.lq_run_laws.proofs.Counts.{start-inside}
use Rattle.lq_run_core.proofs.machine.Machine.begin_call.Goals as goal

pub invariant_of-self : goal.invariant_of-self
invariant_of-self c =
    let within : c.args.seat < length c.self.inside.seats.items = search rules in
    let r : NumberedMachine = record { machine = record { qdisc = c.self.inside.qdisc; seats = c.self.inside.seats.items }; next = c.self.inside.next } in (
      c.self.invariant.0,
      start-inside c.self.inside.qdisc c.self.inside.seats.items c.args.seat c.index-old.result.now c.begun.result (beginning_of c.args.start c.args.seat r)
          within c.index-old.ensures (sym (c.may_begin.ensures c.args.seat r) ∙ c.if-not-may_begin.false) c.self.invariant.1 (c.begun.ensures r.machine),
    )
