use Rattle.std.proofs.Common.{All}
use Rattle.lq_bench.specs.Words.{IsStepperAt}
use Rattle.lq_bench.proofs.words.measure_each.Given as goal

abbrev pub invariant-loop-operation : goal.invariant-loop-operation
invariant-loop-operation g l = All (λ s. IsStepperAt l.table s) l.steppers
