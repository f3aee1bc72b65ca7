use Rattle.std.proofs.Common.{◌≡◌, true, sym, ◌∙◌}
use Rattle.std.specs.Prelude.{is_some}
use Rattle.lq_model.specs.Steps.{step_of}
use Rattle.lq_run_core.proofs.Schedules.{steps_more, length-step}
use Rattle.lq_run_core.proofs.trace_run.do_steps.Goals as goal

pub loop-preserved : goal.loop-preserved
loop-preserved c =
    let done : is_some (step_of c.loop.machine.machine c.args.seat c.args.answer) ≡ true = sym c.step.ensures.answers ∙ c.if-not-step.false in
    let more = steps_more c.loop.counter c.args.count c.args.seat c.args.answer c.loop.machine.machine c.loop-test.true done in (
      rw c.step.ensures.machine (sym more ∙ c.loop.invariant.0),
      rw c.step.ensures.machine (length-step c.loop.machine.machine c.args.seat c.args.answer ∙ c.loop.invariant.1),
      c.step.ensures.next ∙ c.loop.invariant.2,
    )
