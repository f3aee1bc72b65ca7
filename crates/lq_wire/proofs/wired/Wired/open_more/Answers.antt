use Rattle.std.proofs.Common.{◌≡◌, ◌+◌, ◌-◌, ◌<◌, ◌≤◌, ◌&&◌, Bool, true, false, cond, length, refl, sym, ap, subst, ◌∙◌, arith}
use Rattle.lq_model.specs.Account.{held}
use Rattle.lq_model.specs.Alone.{opened, served}
use Rattle.lq_model.specs.Wire.{ring_has_room, is_shut, opened_at}
use Rattle.lq_model.specs.declared.plan.Card.{Card}
use Rattle.lq_wire.specs.Wired.{StepsTo, stop_count}
use Rattle.lq_wire.proofs.Openings.{opens-done, opens-first, opens-next, opens-stop}
use Rattle.lq_wire.proofs.wired.Wired.open_more.Goals as goal

stops-few : (b : Bool) → cond b 1 0 ≤ 1
stops-few true = omega arith
stops-few false = omega arith

pub loop-turn-init : goal.loop-turn-init
loop-turn-init g c =
    let few = stops-few c.args.self.now.station.stopped in record {
      on = λ infos o queues wired.
          let is = c.held-turn-end.ensures.held o.wired.station wired.station in let count = c.held-turn-end.ensures.count in (
            length (held o.wired.station.account) + 1,
            omega arith,
            opens-first c.args.self.now.wire.card (g.F.Frames.packets c.args.frames.now) infos c.args.now (length (held o.wired.station.account) + 1) o c.args.self.now wired,
          );
      count = omega arith;
      accepted = omega arith;
      load = refl;
      bypass = refl;
      card = refl;
    }

pub returns-then-not-may_open-clause-opens : goal.returns-then-not-may_open-clause-opens
returns-then-not-may_open-clause-opens g c infos o queues wired =
    let card = c.args.self.now.wire.card in let packets = g.F.Frames.packets c.args.frames.now in
    let at = c.loop-turn.invariant.on infos o queues wired in let on = at.2 in
    opens-stop card packets infos c.args.now at.0 c.loop-turn.times (opened_at card packets infos c.args.now o) o c.loop-turn.self on
    (ap (λ (k : Card). is_shut on.here.wired.station && ring_has_room k on.here.wired.ring) (sym c.loop-turn.invariant.card) ∙ (sym (c.may_open.ensures.opens on.here.wired on.opened.wired) ∙ c.if-not-may_open.true))

pub loop-turn-preserved : goal.loop-turn-preserved
loop-turn-preserved g c =
    let card = c.args.self.now.wire.card in let packets = g.F.Frames.packets c.args.frames.now in
    let inv = c.loop-turn.invariant in let done = c.in_ok-open.ensures in
    let stopped : stop_count c.loop-turn.self ≡ 1 = ap (λ (b : Bool). cond b 1 0) (c.may_open.ensures.stopped c.if-not-may_open.false) in
    record {
      on = λ infos o queues wired.
          let at = inv.on infos o queues wired in let on = at.2 in
          let sum = at.1 in let test = c.loop-turn-test.true in let turns = c.held-turn-end.ensures.count in
          let some : 0 < at.0 = omega arith in
          let may = ap (λ (k : Card). is_shut on.here.wired.station && ring_has_room k on.here.wired.ring) (sym inv.card) ∙ (sym (c.may_open.ensures.opens on.here.wired on.opened.wired) ∙ c.if-not-may_open.false) in
          let steps = subst (λ (k : Card). StepsTo k packets c.args.now (λ s. served infos (opened s)) on.here.wired c.open.new.self) inv.card (done.opens infos on.here.wired queues on.opened.wired) in
          (at.0 - 1, omega arith, opens-next card packets infos c.args.now at.0 c.loop-turn.times (opened_at card packets infos c.args.now o) o c.loop-turn.self c.open.new.self on some may steps);
      count = omega (arith, stopped, inv.count, done.count);
      accepted = omega (arith, inv.accepted, done.accepted);
      load = done.load ∙ inv.load;
      bypass = done.bypass ∙ inv.bypass;
      card = done.card ∙ inv.card;
    }

pub returns-clause-opens : goal.returns-clause-opens
returns-clause-opens g c infos o queues wired =
    let card = c.args.self.now.wire.card in let packets = g.F.Frames.packets c.args.frames.now in
    let at = c.loop-turn.invariant.on infos o queues wired in
    let sum = at.1 in let test = c.loop-turn-test.false in let turns = c.held-turn-end.ensures.count in
    opens-done card packets infos c.args.now at.0 c.loop-turn.times (opened_at card packets infos c.args.now o) o c.loop-turn.self at.2 (omega arith)
