use Rattle.lq_run_core.proofs.Pieces.{value_more}
use Rattle.lq_run_core.proofs.schedule.value.Goals as goal

pub loop-digit-preserved : goal.loop-digit-preserved
loop-digit-preserved c =
    value_more c.args.digits.now c.loop-digit.digit-index c.loop-digit.value c.saturating_mul.result _
    c.loop-digit-test.true c.requires c.loop-digit.invariant c.saturating_mul.ensures c.saturating_add-value.ensures
