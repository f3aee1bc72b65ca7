use Rattle.lq_bench.specs.Words.{IsStepperAt}
use Rattle.lq_bench.proofs.words.steps.Given as goal

abbrev pub invariant-loop : goal.invariant-loop
invariant-loop l = IsStepperAt l.table l.stepper
