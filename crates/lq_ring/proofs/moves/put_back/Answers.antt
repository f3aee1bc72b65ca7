use Rattle.std.proofs.Common.{rules, ◌-◌, sym, ap, ◌∙◌}
use Rattle.std.specs.Prelude.{slice_index}
use Rattle.lq_table.specs.Views.{Work}
use Rattle.lq_table.specs.Resizes.{into}
use Rattle.lq_table.specs.Sees.{view}
use Rattle.lq_ring.specs.Work.{work_at, working}
use Rattle.lq_ring.proofs.Works.{back_zero, work_back, work_of, told_work, into_is}
use Rattle.lq_ring.proofs.StepsThen.{turns_back, turns_none}
use Rattle.lq_table.proofs.OneStep.{fills_slot}
use Rattle.lq_ring.proofs.moves.put_back.Goals as goal

pub fill_slot-requires-clause-hand : goal.fill_slot-requires-clause-hand
fill_slot-requires-clause-hand g c _ _ =
    let b = c.args.band in let v = view c.args.cpu.now in let t = c.requires.turner.1 in let h = c.requires.hand c.if-x-ne0.true in let here = sym (work_of b v t.0 t.1) in
    (t.0, h.0, t.1, ap (λ (w : Work). w.hand) here ∙ h.1, ap (λ (w : Work). slice_index w.slots c.args.i) here ∙ h.2)

pub returns-then-x-ne0 : goal.returns-then-x-ne0
returns-then-x-ne0 g c = record {
  makes = turns_back c.args.band c.fill_slot.ensures.makes;
  stands = (
    search rules,
    let b = c.args.band in let v = view c.args.cpu.now in let i = c.args.i in let x = c.args.x in let t = c.requires.turner.1 in let some_ = c.if-x-ne0.true in let h = c.requires.hand some_ in
        fills_slot c.fill_slot.ensures.makes t.0 h.0 t.1 (ap (λ (w : Work). w.hand) (sym (work_of b v t.0 t.1)) ∙ h.1)
        ∙ (told_work b (into i (x - 1) h.0) v t.0 t.1 ∙ ap (λ (w : Work). working b w v) (into_is i x h.0 (work_at b v) some_ h.1)),
  );
}

pub returns-else-x-ne0 : goal.returns-else-x-ne0
returns-else-x-ne0 g c = record {
  makes = turns_none c.args.band c.args.cpu.now;
  stands = (
    search rules,
    let b = c.args.band in let v = view c.args.cpu.now in let t = c.requires.turner in
        sym (ap (λ (w : Work). working b w v) (back_zero c.args.i c.args.x (work_at b v) c.if-x-ne0.false) ∙ work_back b v t.1.0 t.1.1 t.1.2),
  );
}
