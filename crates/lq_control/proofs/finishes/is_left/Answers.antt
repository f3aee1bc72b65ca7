use Rattle.std.proofs.Common.{◌≡◌, ℕ, Bool, inl, false, [], ◌∷◌, ne_eqb, refl, sym, ap, ◌∙◌, subst}
use Rattle.lq_model.specs.declared.machine.Position.TheVariants.{Control}
use Rattle.lq_table.specs.Sees.{position}
use Rattle.lq_table.specs.Step.{LoadInside, LoadState, MakesSteps}
use Rattle.lq_table.specs.Views.{View}
use Rattle.lq_table.proofs.StepsThen.{makes_then}
use Rattle.lq_control.specs.EndSteps.{LookLeft, StillInside}
use Rattle.lq_control.specs.Steps.{CallInside}
use Rattle.lq_control.proofs.EndStepLemmas.{left_by}
use Rattle.lq_control.proofs.Looks.{looked_inside, looked_state, looked_then}
use Rattle.lq_control.proofs.finishes.is_left.Goals as goal

pub returns-then-load_inside-eq0 : goal.returns-then-load_inside-eq0
returns-then-load_inside-eq0 g c = record {
  same =
      let a = c.load_inside.ensures in let b = c.load_state.ensures in let c0 = c.args.cpu.now in let c1 = c.load_inside.new.cpu in let c2 = c.load_state.new.cpu in
      let at : position c1 ≡ Control false = ap (λ (x : View). x.place.position) a.makes.knows ∙ c.requires.at in
      looked_then c0 c1 c2 (looked_inside c.load_inside.result c0 c1 (inl c.requires.active) (a.makes.seat, a.makes.carries, a.makes.places, a.makes.has) a.makes.knows) (looked_state c.load_state.result false c1 c2 at (b.makes.seat, b.makes.carries, b.makes.places, b.makes.has) b.makes.knows);
  makes =
      let inside = subst (λ (n : ℕ). MakesSteps (LoadInside n ∷ []) c.args.cpu.now c.load_inside.new.cpu) c.if-load_inside-eq0.true c.load_inside.ensures.makes in
      (LoadInside 0 ∷ LoadState c.load_state.result ∷ [], left_by _ c.load_state.result refl, makes_then inside c.load_state.ensures.makes);
}

pub returns-else-load_inside-eq0 : goal.returns-else-load_inside-eq0
returns-else-load_inside-eq0 g c = record {
  same = let a = c.load_inside.ensures in looked_inside c.load_inside.result c.args.cpu.now c.load_inside.new.cpu (inl c.requires.active) (a.makes.seat, a.makes.carries, a.makes.places, a.makes.has) a.makes.knows;
  makes =
      let found = c.load_inside.result in let some = c.if-load_inside-eq0.false in
      (LoadInside found ∷ [], subst (λ (answer : Bool). LookLeft answer (LoadInside found ∷ [])) (sym (ne_eqb found 0 some)) (StillInside (CallInside some)), c.load_inside.ensures.makes);
}
