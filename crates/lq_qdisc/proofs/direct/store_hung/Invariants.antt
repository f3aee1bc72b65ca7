use Rattle.std.proofs.Common.{◌≡◌, Bool, true, if◌then◌else◌}
use Rattle.std.specs.Prelude.{nat_lt}
use Rattle.lq_model.specs.declared.machine.Position.TheVariants.{StoreXoff}
use Rattle.lq_table.specs.Sees.{view, position, IsSeatOf, IsElseSame, solo}
use Rattle.lq_qdisc.specs.Direct.{StaysAt, hung_below, position_after}
use Rattle.lq_qdisc.specs.declared.answers.Through.TheVariants.{Yes}
use Rattle.lq_qdisc.specs.StepLists.{hung_steps}
use Rattle.lq_table.specs.Step.{MakesSteps}
use Rattle.lq_qdisc.proofs.DirectLemmas.{hearing_hung}
use Rattle.lq_qdisc.proofs.direct.store_hung.Given as goal

abbrev pub invariant-loop-queue : goal.invariant-loop-queue
invariant-loop-queue g l = record {
  seat : IsSeatOf l.shared l.cpu;
  same : IsElseSame l.fn.cpu l.cpu;
  at : (direct : Bool) → position l.fn.cpu ≡ StoreXoff 0 true direct → position l.cpu ≡ (if nat_lt l.queue l.shared.queues then StoreXoff l.queue true direct else position_after Yes direct (view l.cpu));
  stays : StaysAt (view l.fn.cpu) (view l.cpu);
  heard : (view l.cpu).whole.state.past ≡ hung_below l.queue (view l.fn.cpu).whole.state.past;
  step : solo (view l.cpu) ≡ hearing_hung l.queue (solo (view l.fn.cpu));
  makes : MakesSteps (hung_steps l.queue) l.fn.cpu l.cpu;
}
