use Rattle.std.proofs.Common.{ℕ, ◌<◌, subst}
use Rattle.lq_bench.specs.Words.{IsStepperAt}
use Rattle.lq_bench.proofs.words.side_by_side.Goals as goal

pub returns-then-threads-gt0 : goal.returns-then-threads-gt0
returns-then-threads-gt0 g c = record {
  at = λ k d below. let here = (c.for_each_mut.ensures k d (subst (λ (n : ℕ). k < n) c.for_each_mut.auto.s below)).1 in subst (λ z. IsStepperAt c.args.table.now z) here.left here.call;
}
