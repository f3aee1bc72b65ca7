use Rattle.std.proofs.Common.{rules, Option, Some, sym, ap, ◌∙◌}
use Rattle.std.specs.Option.{unwrap_or}
use Rattle.lq_device.specs.Station.{StationState, with_slot}
use Rattle.lq_table.specs.Views.{no_station}
use Rattle.lq_table.specs.Sees.{carried, packet_at}
use Rattle.lq_table.proofs.StepsThen.{makes_then}
use Rattle.lq_table.proofs.BeginPurgeKept.{some_of}
use Rattle.lq_qdisc.proofs.DirectLemmas.{carries_busy}
use Rattle.lq_qdisc.proofs.ListLemmas.{is_carried, station_changed}
use Rattle.lq_qdisc.proofs.direct.requeue_busy.Goals as goal

pub requeue-requires-clause-at : goal.requeue-requires-clause-at
requeue-requires-clause-at g c κs within =
    let b = c.args.cpu.now in let f = c.fill_requeue_slot in let st = some_of b.station c.requires.station in
    carries_busy b f.new.cpu c.args.n (packet_at c.args.shared.now c.args.n) c.requires.at.0 f.ensures.same.3 c.requires.at.1 c.requires.hand c.requires.called
    (f.ensures.station st.0 st.1 ∙ ap (λ (s : StationState). Some (with_slot s (Some c.args.n))) (sym (ap (λ (o : Option StationState). unwrap_or o no_station) st.1)))

pub returns : goal.returns
returns g c = record {
  same = search rules;
  indices = search rules;
  same_slot = search rules;
  requeued = search rules;
  station = search rules;
  step = search rules;
  makes =
      let b = c.args.cpu.now in let st = some_of b.station c.requires.station in let r = c.requeue.ensures.makes in
      (r.0, makes_then (station_changed (λ x. with_slot x (Some c.args.n)) (carried b) st.0 b c.fill_requeue_slot.new.cpu st.1 (is_carried b st.0 st.1) c.fill_requeue_slot.ensures) r.1);
}
