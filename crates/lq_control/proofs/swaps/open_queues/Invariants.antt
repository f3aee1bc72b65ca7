use Rattle.std.proofs.Common.{◌≡◌, ◌≤◌, ◌-◌}
use Rattle.lq_table.specs.Views.{WholePart}
use Rattle.lq_table.specs.Controls.{shut_after}
use Rattle.lq_table.specs.Sees.{view, IsSeatOf, IsElseSame, solo}
use Rattle.lq_control.specs.Control.{all_opened}
use Rattle.lq_table.specs.Step.{MakesSteps}
use Rattle.lq_control.specs.Steps.{open_steps}
use Rattle.lq_control.proofs.swaps.open_queues.Given as goal

abbrev pub invariant-loop-queue : goal.invariant-loop-queue
invariant-loop-queue g l = record {
  seat : IsSeatOf l.shared l.cpu;
  same : IsElseSame l.fn.cpu l.cpu;
  opened : (w : WholePart) × (view l.cpu ≡ all_opened (shut_after (l.queue - 1) l.shared.queues) w (view l.fn.cpu)) × (w.told ≡ (view l.fn.cpu).whole.told);
  step : solo (view l.cpu) ≡ solo (view l.fn.cpu);
  from : 1 ≤ l.queue;
  makes : MakesSteps (open_steps (l.queue - 1)) l.fn.cpu l.cpu;
}
