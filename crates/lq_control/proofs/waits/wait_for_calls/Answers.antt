use Rattle.std.proofs.Common.{rules, false, refl, [], ◌∷◌, subst, ℕ}
use Rattle.lq_table.specs.Sees.{view}
use Rattle.lq_table.specs.Step.{LoadInside, MakesSteps}
use Rattle.lq_run.specs.Steps.{MakesStepsOf}
use Rattle.lq_control.specs.Steps.{CallInside, LookInside, NoCall, Wait}
use Rattle.lq_control.proofs.StepLemmas.{look_again, no_look}
use Rattle.lq_control.proofs.waits.wait_for_calls.Goals as goal

pub loop-init : goal.loop-init
loop-init g c = let v = view c.args.cpu.now in record {
  can = (search rules);
  ends = (search rules);
  seat = c.requires.seat;
  still = ((refl, refl), refl, refl, refl);
  phased = (v.whole.qdisc.phase, λ j. record v { control = record v.control { phase = c.requires.at.1 j } });
  makes = no_look;
}

pub returns-then-load_inside-eq0 : goal.returns-then-load_inside-eq0
returns-then-load_inside-eq0 g c = record {
  same = search rules;
  makes =
      let last = subst (λ (n : ℕ). MakesSteps (LoadInside n ∷ []) c.loop.cpu c.load_inside.new.cpu) c.if-load_inside-eq0.true c.load_inside.ensures.makes in
      look_again c.loop.invariant.makes (LoadInside 0 ∷ [], NoCall, last);
  quiet = search rules;
}

pub loop-preserved : goal.loop-preserved
loop-preserved g c =
    let more : MakesStepsOf (Wait LookInside false) c.args.cpu.now c.load_inside.new.cpu =
    look_again c.loop.invariant.makes (LoadInside c.load_inside.result ∷ [], CallInside c.if-load_inside-eq0.false, c.load_inside.ensures.makes) in search rules
