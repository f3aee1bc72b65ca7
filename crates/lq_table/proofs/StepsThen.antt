-- Steps after steps: what two lists of steps make of a seat, the one after the other, their list makes of it.
use Rattle.std.proofs.Common.{◌≡◌, List, [], ◌∷◌, ◌++◌, refl, sym, ap, ◌∙◌, subst}
use Rattle.lq_table.specs.Step.{MakesSteps, Standing, Step, standing, step_leaves, steps_leave, steps_tell}
use Rattle.lq_table.specs.declared.shared.Cpu.{Cpu}

pub leave_then : (xs ys : List Step) (s : Standing) → steps_leave (xs ++ ys) s ≡ steps_leave ys (steps_leave xs s)
leave_then [] ys s = refl
leave_then (x ∷ xs) ys s = leave_then xs ys (step_leaves x s)

tell_then : (xs ys : List Step) (s : Standing) → steps_tell xs s → steps_tell ys (steps_leave xs s) → steps_tell (xs ++ ys) s
tell_then [] ys s f g = g
tell_then (x ∷ xs) ys s f g = (f.0, tell_then xs ys (step_leaves x s) f.1 g)

-- and what each of the two tells
pub tell_first : (xs ys : List Step) (s : Standing) → steps_tell (xs ++ ys) s → steps_tell xs s
tell_first [] ys s t = tt
tell_first (x ∷ xs) ys s t = (t.0, tell_first xs ys (step_leaves x s) t.1)

pub tell_last : (xs ys : List Step) (s : Standing) → steps_tell (xs ++ ys) s → steps_tell ys (steps_leave xs s)
tell_last [] ys s t = t
tell_last (x ∷ xs) ys s t = tell_last xs ys (step_leaves x s) t.1

module _ {D : Type 0} where
  pub stands_after : (xs : List Step) (b a : Cpu D) → MakesSteps xs b a → standing a ≡ steps_leave xs (standing b)
  stands_after xs b a m = λ j. record { view = m.knows j; slot = m.has j; station = m.carries j; indices = m.places j; steps = m.made j }

  pub makes_then : {xs ys : List Step} {b m a : Cpu D} → MakesSteps xs b m → MakesSteps ys m a → MakesSteps (xs ++ ys) b a
  makes_then {xs} {ys} {b} {m} {a} x y =
      let s = stands_after xs b m x in
      let e : standing a ≡ steps_leave (xs ++ ys) (standing b) = stands_after ys m a y ∙ (ap (steps_leave ys) s ∙ sym (leave_then xs ys (standing b))) in record {
        seat = (y.seat.0 ∙ x.seat.0, y.seat.1 ∙ x.seat.1);
        knows = λ j. (e j).view;
        has = λ j. (e j).slot;
        carries = λ j. (e j).station;
        places = λ j. (e j).indices;
        made = λ j. (e j).steps;
        told = tell_then xs ys (standing b) x.told (subst (steps_tell ys) s y.told);
      }
