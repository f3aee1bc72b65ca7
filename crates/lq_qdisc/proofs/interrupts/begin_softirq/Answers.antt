use Rattle.std.proofs.Common.{rules, ◌≡◌, Bool, true, not, sym, ap, ◌∙◌, subst, [], ◌∷◌}
use Rattle.lq_ring.proofs.StepsThen.{makes_then}
use Rattle.lq_run.specs.Steps.{MakesStepsOf}
use Rattle.lq_table.specs.Step.{ClearSched, LoadState}
use Rattle.lq_qdisc.specs.StepLists.{BeginSoftirq, IsActive, LooksAgain}
use Rattle.lq_table.specs.Moves.{is_set}
use Rattle.lq_qdisc.proofs.interrupts.begin_softirq.Goals as goal

pub returns-then-is_deactivated : goal.returns-then-is_deactivated
returns-then-is_deactivated g c = record {
  same = search rules;
  at = search rules;
  still = search rules;
  makes =
      let first = c.load_state-first in let m = c.load_state in let on : is_set 2 first.result ≡ true = sym c.is_deactivated.ensures ∙ c.if-is_deactivated.true in
      subst (λ (due : Bool). MakesStepsOf (BeginSoftirq due) c.args.cpu.now m.new.cpu) (sym (ap not c.is_deactivated-then-is_deactivated.ensures))
      (LoadState first.result ∷ ClearSched ∷ LoadState m.result ∷ [], LooksAgain on, makes_then (makes_then first.ensures.makes c.unschedule.ensures.makes) m.ensures.makes);
  mark = search rules;
}

pub returns : goal.returns
returns g c = record {
  same = search rules;
  at = search rules;
  still = search rules;
  makes = let first = c.load_state-first in
      (LoadState first.result ∷ ClearSched ∷ [], IsActive (sym c.is_deactivated.ensures ∙ c.if-is_deactivated.false), makes_then first.ensures.makes c.unschedule.ensures.makes);
  mark = search rules;
}
