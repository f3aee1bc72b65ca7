use Rattle.std.proofs.Common.{rules, ◌≡◌, ◌<◌, ℕ, [], ◌∷◌, ◌++◌, subst, arith}
use Rattle.lq_table.specs.Step.{LoadXoff, MakesSteps}
use Rattle.lq_table.proofs.StepsThen.{makes_then}
use Rattle.lq_control.specs.EndSteps.{EachIs, OtherIs, xoff_steps}
use Rattle.lq_control.proofs.EndStepLemmas.{stops_more}
use Rattle.lq_control.proofs.finishes.are_stops.Goals as goal

pub returns-then-load_xoff-word : goal.returns-then-load_xoff-word
returns-then-load_xoff-word g c = record {
  same = search rules;
  sole = search rules;
  makes =
      let queue = c.loop-queue.queue in let test = c.loop-queue-test.true in let end = c.queues-queue-end.ensures in
      let below : queue < c.args.shared.now.queues = omega arith in
      (xoff_steps c.args.word queue ++ LoadXoff queue c.load_xoff.result ∷ [], OtherIs below c.if-load_xoff-word.true, makes_then c.loop-queue.invariant.makes c.load_xoff.ensures.makes);
}

pub loop-queue-preserved : goal.loop-queue-preserved
loop-queue-preserved g c = record {
  seat = search rules;
  still = search rules;
  same = search rules;
  sole = search rules;
  makes =
      let queue = c.loop-queue.queue in let is = c.if-load_xoff-word.false in
      let last = subst (λ (n : ℕ). MakesSteps (LoadXoff queue n ∷ []) c.loop-queue.cpu c.load_xoff.new.cpu) is c.load_xoff.ensures.makes in
      stops_more c.args.word queue c.loop-queue.invariant.makes last;
}

pub returns : goal.returns
returns g c = record {
  same = search rules;
  sole = search rules;
  makes =
      let within = c.loop-queue.auto.queue-end in let test = c.loop-queue-test.false in let end = c.queues-queue-end.ensures in
      let all : c.loop-queue.queue ≡ c.args.shared.now.queues = omega arith in
      (xoff_steps c.args.word c.args.shared.now.queues, EachIs, subst (λ (n : ℕ). MakesSteps (xoff_steps c.args.word n) c.args.cpu.now c.loop-queue.cpu) all c.loop-queue.invariant.makes);
}
