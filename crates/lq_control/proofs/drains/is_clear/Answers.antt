use Rattle.std.proofs.Common.{rules, ℕ, Bool, [], ◌∷◌, ne_eqb, refl, subst, sym}
use Rattle.lq_table.specs.Step.{LoadLock, LoadState, MakesSteps}
use Rattle.lq_table.proofs.StepsThen.{makes_then}
use Rattle.lq_control.specs.Steps.{LockHeld, LookClear}
use Rattle.lq_control.proofs.StepLemmas.{clear_by}
use Rattle.lq_control.proofs.drains.is_clear.Goals as goal

pub returns-then-load_lock-eq0 : goal.returns-then-load_lock-eq0
returns-then-load_lock-eq0 g c = record {
  same = search rules;
  sole = search rules;
  makes =
      let lock = subst (λ (n : ℕ). MakesSteps (LoadLock n ∷ []) c.args.cpu.now c.load_lock.new.cpu) c.if-load_lock-eq0.true c.load_lock.ensures.makes in
      (LoadLock 0 ∷ LoadState c.load_state.result ∷ [], clear_by _ c.load_state.result refl, makes_then lock c.load_state.ensures.makes);
}

pub returns-else-load_lock-eq0 : goal.returns-else-load_lock-eq0
returns-else-load_lock-eq0 g c = record {
  same = search rules;
  sole = search rules;
  makes =
      let found = c.load_lock.result in let held = c.if-load_lock-eq0.false in
      (LoadLock found ∷ [], subst (λ (answer : Bool). LookClear answer (LoadLock found ∷ [])) (sym (ne_eqb found 0 held)) (LockHeld held), c.load_lock.ensures.makes);
}
