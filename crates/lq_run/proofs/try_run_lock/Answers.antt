use Rattle.std.proofs.Common.{◌≡◌, ℕ, Bool, [], ◌∷◌, Option, None, Some, sym, ◌∙◌, subst}
use Rattle.std.specs.Prelude.{is_some}
use Rattle.std.proofs.lemmas.Bool.{eqb-false, eqb-true, not-false, not-true}
use Rattle.lq_table.specs.Step.{LookLock, MakesSteps, TryLock}
use Rattle.lq_table.specs.Views.{HolderPart}
use Rattle.lq_run.specs.Steps.{Got, Held, Lost, TryRunLock}
use Rattle.lq_table.proofs.StepsThen.{makes_then}
use Rattle.lq_run.proofs.try_run_lock.Goals as goal

tried : (answer : Bool) (got : Option HolderPart) → answer ≡ is_some got → TryRunLock answer (LookLock 0 ∷ TryLock got ∷ [])
tried answer None is = subst (λ (b : Bool). TryRunLock b (LookLock 0 ∷ TryLock None ∷ [])) (sym is) Lost
tried answer (Some d) is = subst (λ (b : Bool). TryRunLock b (LookLock 0 ∷ TryLock (Some d) ∷ [])) (sym is) Got

pub returns-then-look_lock : goal.returns-then-look_lock
returns-then-look_lock g c = record {
  makes = let l = c.look_lock.ensures.makes in (LookLock l.0 ∷ [], Held (eqb-false l.0 0 (not-true _ (sym l.1 ∙ c.if-look_lock.true))), l.2);
}

pub returns : goal.returns
returns g c = record {
  makes =
      let l = c.look_lock.ensures.makes in let t = c.try_lock.ensures.makes in let free = eqb-true l.0 0 (not-false _ (sym l.1 ∙ c.if-look_lock.false)) in
      (LookLock 0 ∷ TryLock t.0 ∷ [], tried c.try_lock.result t.0 t.1, makes_then (subst (λ (n : ℕ). MakesSteps (LookLock n ∷ []) c.args.cpu.now c.look_lock.new.cpu) free l.2) t.2);
}
