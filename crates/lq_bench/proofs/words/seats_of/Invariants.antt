use Rattle.std.proofs.Common.{All}
use Rattle.lq_bench.specs.Words.{IsStepperAt}
use Rattle.lq_bench.proofs.words.seats_of.Given as goal

abbrev pub invariant-loop : goal.invariant-loop
invariant-loop l = IsStepperAt l.table l.first × All (λ s. IsStepperAt l.table s) l.seats.items
