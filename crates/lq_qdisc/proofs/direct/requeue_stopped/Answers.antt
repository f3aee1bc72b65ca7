use Rattle.std.proofs.Common.{rules, ap, ◌∙◌, Some}
use Rattle.lq_device.specs.Station.{with_slot}
use Rattle.lq_table.proofs.StepsThen.{makes_then}
use Rattle.lq_model.specs.declared.machine.Position.{Position}
use Rattle.lq_table.specs.Rule.{shown}
use Rattle.lq_table.specs.Sees.{view, carried}
use Rattle.lq_table.specs.Views.{View, HolderPart}
use Rattle.lq_qdisc.specs.Calls.{laid_aside}
use Rattle.lq_qdisc.proofs.ListLemmas.{is_carried, station_changed}
use Rattle.lq_qdisc.proofs.TakeLemmas.{carries_filled, carries_slot}
use Rattle.lq_qdisc.proofs.direct.requeue_stopped.Goals as goal

pub returns : goal.returns
returns g c = record {
  kept = search rules;
  serving = search rules;
  at = search rules;
  run = search rules;
  fates = search rules;
  holder = search rules;
  sole = search rules;
  makes =
      let m = c.maybe_clear_missed in let w = m.ensures.makes in let s = c.set_missed.ensures.makes in let st = shown (view c.args.cpu.now).holder in let is = c.requires.serving.0.1 in
      let filled = station_changed (λ x. with_slot x (Some c.args.n)) (carried c.args.cpu.now) st m.new.cpu c.fill_requeue_slot.new.cpu (m.ensures.station.0 ∙ is) (is_carried c.args.cpu.now st is) c.fill_requeue_slot.ensures in
      (w.0, s.0, w.1, makes_then w.2 (makes_then filled s.1));
}

pub maybe_clear_missed-requires-clause-slot : goal.maybe_clear_missed-requires-clause-slot
maybe_clear_missed-requires-clause-slot g c _ _ = carries_slot c.args.cpu.now c.requires.serving

pub set_missed-requires-clause-slot : goal.set_missed-requires-clause-slot
set_missed-requires-clause-slot g c _ _ =
    let m = c.maybe_clear_missed.ensures in let f = c.fill_requeue_slot.ensures in let may = c.requires in let v = view c.args.cpu.now in
    let station = f.station (shown v.holder) (m.station.0 ∙ may.serving.0.1) in
    carries_filled c.args.n (shown v.holder) c.fill_requeue_slot.new.cpu station
    (ap (λ (w : View). w.holder.slot) f.same.3 ∙ (ap (λ (h : HolderPart). h.slot) m.holder ∙ (ap (λ (at : Position). (laid_aside at v.holder).slot) may.at.1 ∙ may.hand)))
