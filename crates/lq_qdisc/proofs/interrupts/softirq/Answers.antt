use Rattle.std.proofs.Common.{rules, sym, Bool, true, [], ◌∷◌, ◌++◌, ap, ◌∙◌, subst, refl}
use Rattle.lq_ring.proofs.StepsThen.{makes_then}
use Rattle.lq_table.specs.Sees.{view, known, setup}
use Rattle.lq_table.specs.Step.{Enter, Leave, MakesSteps, standing}
use Rattle.lq_run.specs.Steps.{MakesStepsOf}
use Rattle.lq_qdisc.proofs.ViewRelations.{IsDue}
use Rattle.lq_qdisc.specs.StepLists.{BeginSoftirq, IsDueNow, IsNotDue, NetTxAction, QdiscRun, Then}
use Rattle.lq_ring.specs.StepLists.{MakesStepsFrom}
use Rattle.lq_qdisc.proofs.ListLemmas.{from_there, leads, then_makes}
use Rattle.lq_qdisc.proofs.AloneCalls.{softirq_alone}
use Rattle.lq_qdisc.proofs.ViewLemmas.{due_view, interrupts_view}
use Rattle.lq_table.specs.Views.{View}
use Rattle.lq_qdisc.proofs.RunLemmas.{fates_same, fates_then}
use Rattle.lq_qdisc.proofs.SendLemmas.{called_from}
use Rattle.lq_qdisc.proofs.StepLemmas.{due_keeps}
use Rattle.lq_qdisc.proofs.interrupts.softirq.Goals as goal
use Rattle.lq_qdisc.proofs.interrupts.softirq.Goals.{then-begin_softirq, else-begin_softirq}

pub returns : goal.returns
returns g c =
    let k = setup c.args.shared.now in let b = c.args.cpu.now in let m = c.enter.new.cpu in let d = c.begin_softirq in let w = c.leave.new.cpu in let e = c.enter.ensures.makes in
    let due_is : IsDue d.result (view m) (view d.new.cpu) = subst (λ (v : View). IsDue d.result (view m) v) (sym d.ensures.makes.2.knows) (due_view (standing m) d.ensures.makes.1 d.ensures.makes.2.told) in
    let made : MakesStepsFrom (NetTxAction k) b w =
    elim c.if-begin_softirq.branch [
      | then-begin_softirq x ↦
          let due = subst (λ (on : Bool). MakesStepsOf (BeginSoftirq on) m d.new.cpu) x.if-begin_softirq.true d.ensures.makes in
          let t = then_makes {one = λ _. BeginSoftirq true} {two = QdiscRun k} m d.new.cpu x.qdisc_run.new.cpu due x.qdisc_run.ensures.makes in
          let ends = subst (λ (z : _). MakesSteps (Leave ∷ []) z w) x.cpu-is c.leave.ensures.makes in
          (Enter ∷ t.0 ++ Leave ∷ [], IsDueNow (from_there (Then (λ _. BeginSoftirq true) (QdiscRun k)) e t.1), makes_then e (makes_then t.2 ends))
      | else-begin_softirq x ↦
          let t = subst (λ (on : Bool). MakesStepsOf (BeginSoftirq on) m d.new.cpu) x.if-begin_softirq.false d.ensures.makes in
          let ends = subst (λ (z : _). MakesSteps (Leave ∷ []) z w) x.cpu-is c.leave.ensures.makes in
          (Enter ∷ t.0 ++ Leave ∷ [], IsNotDue t.1, makes_then e (makes_then t.2 ends))
    ] in record {
      kept =
          let l = c.leave.ensures in let e = c.enter.ensures in let d = c.begin_softirq.ensures in let old = view c.enter.new.cpu in let new = view c.begin_softirq.new.cpu in let due = c.begin_softirq.result in
          let share = d.still.0.share ∙ ap (λ (v : View). v.share) e.makes.knows in
          let control = due_keeps (λ (v : View). v.control) due old new (λ _ _. refl) (λ _ _ _. refl) due_is ∙ ap (λ (v : View). v.control) e.makes.knows in
          let told = due_keeps (λ (v : View). v.whole.told) due old new (λ _ _. refl) (λ _ _ _. refl) due_is ∙ ap (λ (v : View). v.whole.told) e.makes.knows in
          elim c.if-begin_softirq.branch [
            | then-begin_softirq w ↦ called_from c.args.cpu.now c.begin_softirq.new.cpu c.leave.new.cpu (d.same.0.0 ∙ e.makes.seat.0, d.same.0.1 ∙ e.makes.seat.1) share control told (record {
              seat = (l.makes.seat.0 ∙ (ap (λ x. x.known.seat.table_id) w.cpu-is ∙ w.qdisc_run.ensures.kept.seat.0), l.makes.seat.1 ∙ (ap (λ x. x.known.seat.id) w.cpu-is ∙ w.qdisc_run.ensures.kept.seat.1));
              share = ap (λ (v : View). v.share) l.makes.knows ∙ (ap (λ x. (view x).share) w.cpu-is ∙ w.qdisc_run.ensures.kept.share);
              control = ap (λ (v : View). v.control) l.makes.knows ∙ (ap (λ x. (view x).control) w.cpu-is ∙ w.qdisc_run.ensures.kept.control);
              told = ap (λ (v : View). v.whole.told) l.makes.knows ∙ (ap (λ x. (view x).whole.told) w.cpu-is ∙ w.qdisc_run.ensures.kept.told);
            })
            | else-begin_softirq w ↦ called_from c.args.cpu.now c.begin_softirq.new.cpu c.leave.new.cpu (d.same.0.0 ∙ e.makes.seat.0, d.same.0.1 ∙ e.makes.seat.1) share control told (record {
              seat = (l.makes.seat.0 ∙ ap (λ x. x.known.seat.table_id) w.cpu-is, l.makes.seat.1 ∙ ap (λ x. x.known.seat.id) w.cpu-is);
              share = ap (λ (v : View). v.share) l.makes.knows ∙ ap (λ x. (view x).share) w.cpu-is;
              control = ap (λ (v : View). v.control) l.makes.knows ∙ ap (λ x. (view x).control) w.cpu-is;
              told = ap (λ (v : View). v.whole.told) l.makes.knows ∙ ap (λ x. (view x).whole.told) w.cpu-is;
            })
          ];
      fates =
          let l = c.leave.ensures in let v = view c.args.cpu.now in let m = view c.begin_softirq.new.cpu in let w = view c.leave.new.cpu in
          let before = fates_same v m (due_keeps (λ (x : View). x.settled) c.begin_softirq.result (view c.enter.new.cpu) (view c.begin_softirq.new.cpu) (λ _ _. refl) (λ _ _ _. refl) due_is ∙ ap (λ (x : View). x.settled) c.enter.ensures.makes.knows) in
          elim c.if-begin_softirq.branch [
            | then-begin_softirq x ↦ fates_then v m w before (x.qdisc_run.ensures.fates.0, ap (λ (y : View). y.settled) l.makes.knows ∙ (ap (λ y. (view y).settled) x.cpu-is ∙ x.qdisc_run.ensures.fates.1))
            | else-begin_softirq x ↦ fates_then v m w before (fates_same m w (ap (λ (y : View). y.settled) l.makes.knows ∙ ap (λ y. (view y).settled) x.cpu-is))
          ];
      at = search rules;
      ready = search rules;
      still = search rules;
      makes = made;
      alone =
          let i = interrupts_view (setup c.args.shared.now) (known c.args.cpu.now) (known c.leave.new.cpu) (leads (NetTxAction k) b w made) in
          softirq_alone (setup c.args.shared.now) c.args.shared.now.infos.now (view c.args.cpu.now) i.0 (view c.leave.new.cpu) c.requires.seat.2 c.requires.ready.1 c.requires.raised i.1 i.3;
    }
