-- Lists of steps after lists of steps, and what a seat does of the station that it carries.
use Rattle.std.proofs.Common.{◌≡◌, List, [], ◌∷◌, ◌++◌, Option, Some, refl, sym, ap, ◌∙◌, subst}
use Rattle.std.specs.Option.{unwrap_or}
use Rattle.lq_device.specs.Station.{StationState}
use Rattle.lq_table.proofs.StepsThen.{tell_first, tell_last}
use Rattle.lq_ring.proofs.StepsThen.{leave_then, makes_then, stands_after}
use Rattle.lq_ring.specs.StepLists.{MakesStepsFrom}
use Rattle.lq_table.specs.Sees.{view, known, steps, carried}
use Rattle.lq_table.specs.Step.{MakesSteps, SetStation, Standing, Step, standing, step_leaves, step_tells, steps_leave, steps_tell}
use Rattle.lq_table.specs.Views.{View, no_station}
use Rattle.lq_table.specs.declared.shared.Cpu.{Cpu}
use Rattle.lq_qdisc.specs.Seats.{ChangesStation, KeepsSeatAndView}
use Rattle.lq_qdisc.specs.StepLists.{Coming, LeadsBy, Then}

-- each step of a list tells what it tells
pub tells_first : (x : Step) (xs : List Step) (s : Standing) → steps_tell (x ∷ xs) s → step_tells x s
tells_first x xs s f = f.0

pub tells_rest : (x : Step) (xs : List Step) (s : Standing) → steps_tell (x ∷ xs) s → steps_tell xs (step_leaves x s)
tells_rest x xs s f = f.1

-- one after the other
module _ {one two : Standing → List Step → Type 0} {s : Standing} {all : List Step} (t : Then one two s all) where
  pub left_then : steps_leave all s ≡ steps_leave t.ys (steps_leave t.xs s)
  left_then = ap (λ (zs : List Step). steps_leave zs s) t.whole ∙ leave_then t.xs t.ys s

  pub told_first : steps_tell all s → steps_tell t.xs s
  told_first told = tell_first t.xs t.ys s (subst (λ (zs : List Step). steps_tell zs s) t.whole told)

  pub told_then : steps_tell all s → steps_tell t.ys (steps_leave t.xs s)
  told_then told = tell_last t.xs t.ys s (subst (λ (zs : List Step). steps_tell zs s) t.whole told)

module _ {D : Type 0} where
  -- what is such from where a seat stands is such from where the steps before it left the seat
  pub from_there : (such : Standing → List Step → Type 0) {xs ys : List Step} {b m : Cpu D} → MakesSteps xs b m → such (standing m) ys → such (steps_leave xs (standing b)) ys
  from_there such {xs} {ys} x s = subst (λ (z : Standing). such z ys) (stands_after x) s

  pub leads : (such : Standing → List Step → Type 0) (b a : Cpu D) → MakesStepsFrom such b a → LeadsBy such (known b) (known a)
  leads such b a m = (standing b, m.0, m.1, refl, refl, m.2.knows, m.2.made, m.2.told)

  -- the station that the seat carries
  pub is_carried : (b : Cpu D) (st : StationState) → b.station ≡ Some st → carried b ≡ st
  is_carried b st is = ap (λ (o : Option StationState). unwrap_or o no_station) is

  station_set : (st : StationState) (b a : Cpu D) → KeepsSeatAndView b a → steps a ≡ steps b → a.station ≡ Some st → MakesSteps (SetStation st ∷ []) b a
  station_set st b a same made station = record { seat = same.0; knows = same.3; has = same.2; carries = station; places = same.1; made = made; told = (tt, tt) }

  pub station_asked : (b a : Cpu D) → KeepsSeatAndView b a → steps a ≡ steps b → a.station ≡ Some (carried a) → MakesSteps (SetStation (carried a) ∷ []) b a
  station_asked b a same made station = station_set (carried a) b a same made station

  -- it changes in this way
  pub station_changed : (change : StationState → StationState) (was st : StationState) (b a : Cpu D) → b.station ≡ Some st → was ≡ st → ChangesStation change b a → MakesSteps (SetStation (change was) ∷ []) b a
  station_changed change was st b a is same c = station_set (change was) b a c.same c.made (c.station st is ∙ ap (λ (x : StationState). Some (change x)) (sym same))

  pub then_makes : {one two : Standing → List Step → Type 0} (b m a : Cpu D) → MakesStepsFrom one b m → MakesStepsFrom two m a → MakesStepsFrom (Then one two) b a
  then_makes {one} {two} b m a x y = (x.0 ++ y.0, record { xs = x.0; ys = y.0; whole = refl; first = x.1; next = from_there two x.2 y.1 }, makes_then x.2 y.2)

  -- what they come to, as the seat is known to know it
  pub comes_to : {such : Standing → List Step → Type 0} (comes : View → View → Type 0) (b a : Cpu D) → MakesStepsFrom such b a → comes (view b) (view a) → MakesStepsFrom (Coming comes such) b a
  comes_to comes b a m c = (m.0, record { by = m.1; came = subst (λ (v : View). comes (view b) v) m.2.knows c }, m.2)
