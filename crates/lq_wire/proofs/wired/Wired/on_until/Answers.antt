use Rattle.std.proofs.Common.{Vec, Global, ◌+◌, ◌-◌, ◌<◌, length, refl, sym, ap, subst, ◌∙◌, arith}
use Rattle.lq_model.specs.Account.{held}
use Rattle.lq_model.specs.Wire.{OpenedSoFar, all_interrupted, interrupted, left_at}
use Rattle.lq_model.specs.declared.flight.Flight.{Flight}
use Rattle.lq_model.specs.declared.plan.Card.{Card}
use Rattle.lq_wire.specs.Wire.{due_at, due_by}
use Rattle.lq_wire.specs.Wired.{HasOpened}
use Rattle.lq_wire.proofs.Openings.{goes-done, goes-first, goes-next, goes-stop}
use Rattle.lq_wire.proofs.wired.Wired.on_until.Goals as goal

pub loop-interrupt-init : goal.loop-interrupt-init
loop-interrupt-init g c = record {
  on = λ infos o queues wired.
      let is = c.held.ensures.held o.wired.station wired.station in let count = c.held.ensures.count in let ring = ap length wired.wire.ring in (
        length o.wired.ring + length (held o.wired.station.account),
        omega arith,
        goes-first c.args.self.now.wire.card (g.F.Frames.packets c.args.frames.now) infos (due_by c.args.until) (length o.wired.ring + length (held o.wired.station.account)) o c.args.self.now wired,
      );
  count = omega arith;
  load = refl;
  bypass = refl;
  card = refl;
}

pub returns-in_default-clause-opens : goal.returns-in_default-clause-opens
returns-in_default-clause-opens g c infos o queues wired =
    let card = c.args.self.now.wire.card in let packets = g.F.Frames.packets c.args.frames.now in
    let at = c.loop-interrupt.invariant.on infos o queues wired in let on = at.2 in
    goes-stop card packets infos (due_by c.args.until) at.0 c.loop-interrupt.times (all_interrupted card packets infos (due_by c.args.until) o) o c.loop-interrupt.self on
    (ap (λ (k : Card). due_at k (due_by c.args.until) on.here.wired.ring) (sym c.loop-interrupt.invariant.card)
    ∙ (ap (due_at c.loop-interrupt.self.wire.card (due_by c.args.until)) (sym on.opened.wired.wire.ring) ∙ (sym c.due.ensures.due ∙ c.in_default.is)))

pub loop-interrupt-preserved : goal.loop-interrupt-preserved
loop-interrupt-preserved g c =
    let card = c.args.self.now.wire.card in let packets = g.F.Frames.packets c.args.frames.now in
    let inv = c.loop-interrupt.invariant in let done = c.in_ok-times.ensures in let now = c.in-Some.now in
    let count = inv.count in let more = done.count in let loaded = done.load in let same = c.reclaim.ensures.accepted in let load = inv.load in
    record {
      on = λ infos o queues wired.
          let at = inv.on infos o queues wired in let on = at.2 in
          let sum = at.1 in let test = c.loop-interrupt-test.true in let turns = c.held.ensures.count in let long = c.len.ensures in
          let some : 0 < at.0 = omega arith in
          let comes = ap (λ (k : Card). due_at k (due_by c.args.until) on.here.wired.ring) (sym inv.card)
          ∙ (ap (due_at c.loop-interrupt.self.wire.card (due_by c.args.until)) (sym on.opened.wired.wire.ring) ∙ (sym c.due.ensures.due ∙ c.in-Some.is)) in
          let left : OpenedSoFar = record on.here { wired = record on.here.wired { ring = left_at now on.here.wired.ring } } in
          let has = done.opens infos left queues (record {
            station = on.opened.wired.station;
            wire = record { ring = c.reclaim.ensures.ring ∙ ap (left_at now) on.opened.wired.wire.ring; free = c.reclaim.ensures.free ∙ on.opened.wired.wire.free; flights = ap (λ (l : Vec Flight Global). l.items) c.reclaim.ensures.untold ∙ on.opened.wired.wire.flights };
          }) in
          let here : HasOpened (interrupted card packets infos now on.here) on.here c.in_ok-times.field-0 c.open_while_room.new.self =
          subst (λ (k : Card). HasOpened (interrupted k packets infos now on.here) on.here c.in_ok-times.field-0 c.open_while_room.new.self) (c.reclaim.ensures.card ∙ inv.card)
          (record { wired = has.wired; times = has.times }) in (
            at.0 - 1,
            omega arith,
            goes-next card packets infos (due_by c.args.until) now at.0 c.loop-interrupt.times c.in_ok-times.field-0 (all_interrupted card packets infos (due_by c.args.until) o) o c.loop-interrupt.self
                c.open_while_room.new.self on some comes here,
          );
      count = omega arith;
      load = omega arith;
      bypass = done.bypass ∙ inv.bypass;
      card = done.card ∙ (c.reclaim.ensures.card ∙ inv.card);
    }

pub returns-clause-opens : goal.returns-clause-opens
returns-clause-opens g c infos o queues wired =
    let card = c.args.self.now.wire.card in let packets = g.F.Frames.packets c.args.frames.now in
    let at = c.loop-interrupt.invariant.on infos o queues wired in
    let sum = at.1 in let test = c.loop-interrupt-test.false in let turns = c.held.ensures.count in let long = c.len.ensures in
    goes-done card packets infos (due_by c.args.until) at.0 c.loop-interrupt.times (all_interrupted card packets infos (due_by c.args.until) o) o c.loop-interrupt.self at.2 (omega arith)
