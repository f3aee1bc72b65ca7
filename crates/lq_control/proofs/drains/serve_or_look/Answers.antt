use Rattle.std.proofs.Common.{◌≡◌, rules, [], ◌∷◌, ◌++◌, ap, ◌∙◌, sym}
use Rattle.lq_table.specs.Views.{View, FirstPart}
use Rattle.lq_table.specs.Sees.{view, known, setup, solo}
use Rattle.lq_qdisc.proofs.ViewLemmas.{interrupts_view}
use Rattle.lq_qdisc.specs.StepLists.{NetTxAction}
use Rattle.lq_control.specs.Alone.{unmarked}
use Rattle.lq_control.proofs.FinishSteps.{ready_kept, served_begun}
use Rattle.lq_control.proofs.Keeps.{seat_then}
use Rattle.lq_control.proofs.Served.{served_none, served_then}
use Rattle.lq_control.specs.Control.{IsServed}
use Rattle.lq_control.specs.Steps.{LookClear, Looks, Serves}
use Rattle.lq_control.proofs.StepLemmas.{coming}
use Rattle.lq_ring.proofs.StepsThen.{makes_then}
use Rattle.lq_qdisc.proofs.ListLemmas.{leads}
use Rattle.lq_table.specs.Step.{BeginControl}
use Rattle.lq_control.proofs.Alone.{off_served}
use Rattle.lq_control.proofs.drains.serve_or_look.Given as given
use Rattle.lq_control.proofs.drains.serve_or_look.Goals as goal

pub returns-then-raised : goal.returns-then-raised
returns-then-raised g c = record {
  same = seat_then c.args.cpu.now c.softirq.new.cpu c.begin_control.new.cpu c.softirq.ensures.kept.seat c.begin_control.ensures.makes.1.seat;
  served = let v1 = view c.softirq.new.cpu in let v2 = view c.begin_control.new.cpu in let k = c.softirq.ensures.kept in let s = c.softirq.ensures.still in
      served_then (view c.args.cpu.now) v1 v2 (record {
        kept = record { share = k.share; turns = s.turns; first = ap (λ (x : FirstPart). x.first) k.control; told = k.told };
        control = k.control;
        trail = s.trail;
        fates = c.softirq.ensures.fates;
      }) (served_begun v1 v2 c.begin_control.ensures.makes.1.knows);
  at = let b = c.begin_control.ensures in (
    ap (λ (x : View). x.place.position) b.makes.1.knows,
    ready_kept c.softirq.new.cpu c.begin_control.new.cpu (b.makes.1.seat, b.makes.1.carries, b.makes.1.places, b.makes.1.has) (ap (λ (x : View). x.packets) b.makes.1.knows) (ap (λ (x : View). x.locks) b.makes.1.knows) (ap (λ (x : View). x.holder.resizing) b.makes.1.knows) c.softirq.ensures.ready,
  );
  clear = search rules;
  off = λ sole down. let i = interrupts_view (setup c.args.shared.now) (known c.args.cpu.now) (known c.softirq.new.cpu) (leads (NetTxAction (setup c.args.shared.now)) c.args.cpu.now c.softirq.new.cpu c.softirq.ensures.makes) in
      ap (λ v. unmarked (solo v)) c.begin_control.ensures.makes.1.knows ∙ off_served c.args.shared.now.infos.now (view c.args.cpu.now) i.0 (view c.softirq.new.cpu) sole down c.requires.at.2.1 i.1 i.3;
  makes = let k = c.softirq.ensures.kept in let s = c.softirq.ensures.still in let f = c.begin_control.ensures.makes in
      let one = coming IsServed (NetTxAction (setup c.args.shared.now)) c.softirq.ensures.makes (record {
        kept = record { share = k.share; turns = s.turns; first = ap (λ (x : FirstPart). x.first) k.control; told = k.told };
        control = k.control;
        trail = s.trail;
        fates = c.softirq.ensures.fates;
      }) in
      (one.0 ++ BeginControl f.0 ∷ [], Serves f.0 (sym c.if-raised.ensures) one.1, makes_then one.2 f.1);
}

pub returns : goal.returns
returns g c = record {
  same = search rules;
  served = served_none (view c.args.cpu.now) (view c.is_clear.new.cpu) c.is_clear.ensures.same.1;
  at = let s = c.is_clear.ensures.same in let e = s.1 in (
    ap (λ (x : View). x.place.position) e ∙ c.requires.at.0,
    ready_kept c.args.cpu.now c.is_clear.new.cpu s.0 (ap (λ (x : View). x.packets) e) (ap (λ (x : View). x.locks) e) (ap (λ (x : View). x.holder.resizing) e) c.requires.at.2,
  );
  clear = search rules;
  off = λ sole down. ap (λ v. unmarked (solo v)) c.is_clear.ensures.same.1;
  makes = let looks = coming (λ (v w : View). w ≡ v) (λ s. LookClear c.is_clear.result) c.is_clear.ensures.makes c.is_clear.ensures.same.1 in (looks.0, Looks (sym c.if-raised.ensures) looks.1, looks.2);
}
