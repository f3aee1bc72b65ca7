use Rattle.std.proofs.Common.{rules, [], refl, sym, ap, ◌∙◌}
use Rattle.lq_table.specs.Views.{FirstPart, View, first_account}
use Rattle.lq_table.specs.Sees.{view, setup, solo}
use Rattle.lq_ring.proofs.Seats.{seat_on}
use Rattle.lq_qdisc.proofs.AloneRests.{rests_served}
use Rattle.lq_control.specs.Control.{IsServed}
use Rattle.lq_control.specs.Steps.{NoneYet}
use Rattle.lq_qdisc.specs.StepLists.{NetTxAction}
use Rattle.lq_ring.proofs.StepsThen.{makes_none}
use Rattle.lq_control.proofs.StepLemmas.{coming, softirq_more}
use Rattle.lq_control.proofs.Served.{served_none, served_then}
use Rattle.lq_control.proofs.drains.drain.Goals as goal

pub loop-init : goal.loop-init
loop-init g c = record {
  can = (search rules);
  ends = (search rules);
  seat = c.requires.seat;
  same = (refl, refl);
  at = c.requires.at.0;
  ready = c.requires.at.1;
  served = served_none (view c.args.cpu.now) (view c.args.cpu.now) refl;
  alone = λ h. (h, refl);
  interrupted = ([], NoneYet, makes_none c.args.cpu.now);
}

pub loop-preserved : goal.loop-preserved
loop-preserved g c =
    let i = c.loop.invariant in let k = c.softirq.ensures.kept in let s = c.softirq.ensures.still in
    let one : IsServed (view c.loop.cpu) (view c.softirq.new.cpu) = record {
      kept = record { share = k.share; turns = s.turns; first = ap (λ (x : FirstPart). x.first) k.control; told = k.told };
      control = k.control;
      trail = s.trail;
      fates = c.softirq.ensures.fates;
    } in record {
      can = (search rules);
      ends = (search rules);
      seat = seat_on c.args.shared.now c.loop.cpu c.softirq.new.cpu i.seat k.seat k.share;
      same = (k.seat.0 ∙ i.same.0, k.seat.1 ∙ i.same.1);
      at = c.softirq.ensures.at;
      ready = c.softirq.ensures.ready;
      served = served_then (view c.args.cpu.now) (view c.loop.cpu) (view c.softirq.new.cpu) i.served one;
      alone = λ h. let before = i.alone h in let now = c.softirq.ensures.alone before.0 in (now.0, now.1 ∙ before.1);
      interrupted = let k = setup c.args.shared.now in softirq_more k i.interrupted (sym c.if-not-raised.ensures) (coming IsServed (NetTxAction k) c.softirq.ensures.makes one);
    }

pub returns-then-not-raised : goal.returns-then-not-raised
returns-then-not-raised g c = record {
  same = search rules;
  served = search rules;
  at = search rules;
  makes = let i = c.loop.invariant.interrupted in (i.0, (i.1, ap (λ (v : View). v.place.raised) (sym i.2.knows) ∙ sym c.if-not-raised.ensures), i.2);
  alone = λ h.
      let now = c.loop.invariant.alone h in
      (now.0, sym (rests_served c.args.shared.now.infos.now (first_account (setup c.args.shared.now)) (solo (view c.loop.cpu)) now.0 (sym c.if-not-raised.ensures)) ∙ now.1);
}
