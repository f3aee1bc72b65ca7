-- Lists of steps, one after the other, and steps of a wait and of a swap.
use Rattle.std.proofs.Common.{◌≡◌, ℕ, zero, suc, ◌+◌, ◌-◌, ◌<◌, ◌≤◌, Bool, true, false, not, List, [], ◌∷◌, ◌++◌, drop, length, refl, sym, subst, ap, ◌∙◌, arith}
use Rattle.lq_device.specs.Station.{StationState}
use Rattle.lq_table.specs.Views.{View, Setup, Known}
use Rattle.lq_ring.specs.Resized.{IsKnownHeld, all_lost, having_resized}
use Rattle.lq_table.specs.Moves.{is_set}
use Rattle.lq_table.specs.Sees.{known, view}
use Rattle.lq_table.specs.Step.{ClearDeactivated, EndControl, LoadLock, LoadState, MakesSteps, OpenXoff, SetStation, Standing, Step, standing, step_leaves, steps_leave}
use Rattle.lq_table.specs.declared.shared.Cpu.{Cpu}
use Rattle.lq_run.specs.Steps.{MakesStepsOf}
use Rattle.lq_ring.specs.StepLists.{MakesStepsFrom, ResizeAll}
use Rattle.lq_ring.proofs.ListLemmas.{resize_told}
use Rattle.lq_ring.proofs.StepsThen.{makes_none, makes_then}
use Rattle.lq_qdisc.specs.StepLists.{Coming, LeadsBy, Then}
use Rattle.lq_qdisc.proofs.ListLemmas.{from_there, left_then, told_first, told_then}
use Rattle.lq_control.specs.Steps.{Again, Clear, Finding, LookClear, NotYet, OnceMore, OneMore, Only, Reactivate, ResizeRings, Scheduled, ServeOrLook, Softirq, SoftirqEach, Wait, WaitUntilClear, open_steps}

-- LISTS THAT A SEAT MAKES

module _ {D : Type 0} where
  pub only : {xs : List Step} {b a : Cpu D} → MakesSteps xs b a → MakesStepsFrom (Only xs) b a
  only {xs} m = (xs, refl, m)

  pub finds : {X : Type 0} (step : X → Step) {b a : Cpu D} → (found : X) × MakesSteps (step found ∷ []) b a → MakesStepsFrom (Finding step) b a
  finds {X} step f = (step f.0 ∷ [], (f.0, refl), f.1)

  pub and_then : (one two : Standing → List Step → Type 0) {b m a : Cpu D} → MakesStepsFrom one b m → MakesStepsFrom two m a → MakesStepsFrom (Then one two) b a
  and_then one two x y = (x.0 ++ y.0, record { xs = x.0; ys = y.0; whole = refl; first = x.1; next = from_there two x.2 y.1 }, makes_then x.2 y.2)

  -- what they come to
  pub coming : (comes : View → View → Type 0) (such : Standing → List Step → Type 0) {b a : Cpu D} → MakesStepsFrom such b a → comes (view b) (view a) → MakesStepsFrom (Coming comes such) b a
  coming comes such {b} {a} m c = (m.0, record { by = m.1; came = subst (λ (v : View). comes (view b) v) m.2.knows c }, m.2)

  pub no_look : {look : Bool → List Step → Type 0} {c : Cpu D} → MakesStepsOf (Wait look false) c c
  no_look {look} {c} = ([], NotYet, makes_none c)

  pub look_again : {look : Bool → List Step → Type 0} {answer : Bool} {b m a : Cpu D} → MakesStepsOf (Wait look false) b m → MakesStepsOf (look answer) m a → MakesStepsOf (Wait look answer) b a
  look_again w l = (w.0 ++ l.0, Again w.1 l.1, makes_then w.2 l.2)

  -- a soft interrupt more, and a look more
  pub softirq_more : (k : Setup) {b m a : Cpu D} → MakesStepsFrom (SoftirqEach k) b m → (view m).place.raised ≡ true → MakesStepsFrom (Softirq k) m a → MakesStepsFrom (SoftirqEach k) b a
  softirq_more k x raised y = (x.0 ++ y.0, OneMore x.1 (ap (λ (v : View). v.place.raised) (sym x.2.knows) ∙ raised) (from_there (Softirq k) x.2 y.1), makes_then x.2 y.2)

  pub clear_more : (k : Setup) (answer got : Bool) {b m a : Cpu D} → got ≡ answer → MakesStepsFrom (λ s. WaitUntilClear k s false) b m → MakesStepsFrom (λ s. ServeOrLook k s got) m a
      → MakesStepsFrom (λ s. WaitUntilClear k s answer) b a
  clear_more k answer got {b} {m} {a} is x y = subst (λ (o : Bool). MakesStepsFrom (λ s. WaitUntilClear k s o) b a) is (x.0 ++ y.0, OnceMore x.1 (from_there (λ s. ServeOrLook k s got) x.2 y.1), makes_then x.2 y.2)

  pub station_set : {st : StationState} {b a : Cpu D} → MakesSteps (SetStation st ∷ []) b a → known a ≡ known b
  station_set m = λ j. record { view = m.knows j; steps = m.made j }

  -- one more queue is opened
  pub opened_more : {b m a : Cpu D} (queue : ℕ) → 1 ≤ queue → MakesSteps (open_steps (queue - 1)) b m → MakesSteps (OpenXoff queue ∷ []) m a → MakesSteps (open_steps (queue + 1 - 1)) b a
  opened_more {b} {m} {a} queue some x y =
      let up : suc (queue - 1) ≡ queue = omega arith in let up1 : suc (queue - 1) ≡ queue + 1 - 1 = omega arith in
      subst (λ (n : ℕ). MakesSteps (open_steps n) b a) up1 (makes_then x (subst (λ (n : ℕ). MakesSteps (OpenXoff n ∷ []) m a) (sym up) y))

  -- DEACTIVATED is cleared, and the call ends
  pub reactivated : {b m a : Cpu D} → MakesSteps (ClearDeactivated ∷ []) b m → (found : ℕ) × MakesSteps (EndControl found ∷ []) m a → MakesStepsFrom Reactivate b a
  reactivated x y = and_then (Only (ClearDeactivated ∷ [])) (Finding EndControl) (only x) (finds EndControl y)

-- the rings were resized, from what the bands held
module _ {D : Type 0} where
  pub record IsTurned (len event count : ℕ) (b a : Cpu D) : Type 0 where
    pub held : ℕ → List ℕ
    pub makes : MakesStepsFrom (λ s. ResizeAll len event held) b a
    pub is : view a ≡ having_resized len event (all_lost len held) (view b)
    pub counted : count ≡ length (all_lost len held)
    pub is_known : IsKnownHeld (view b) held

  pub turned_by : {len event count : ℕ} {b a : Cpu D} → (held : ℕ → List ℕ) × MakesStepsFrom (λ s. ResizeAll len event held) b a × (view a ≡ having_resized len event (all_lost len held) (view b))
      × (count ≡ length (all_lost len held)) → IsTurned len event count b a
  turned_by {len} {event} {count} {b} {a} (held, makes, is, counted) =
      record { held = held; makes = makes; is = is; counted = counted; is_known = (resize_told len event held makes.0 makes.1 (standing b) makes.2.told).1 }

  pub resized : {len event count : ℕ} {b a : Cpu D} → IsTurned len event count b a → MakesStepsFrom (ResizeRings len event count) b a
  resized {len} {event} {count} {b} {a} t =
      let c = coming (λ v w. w ≡ having_resized len event (all_lost len t.held) v) (λ s. ResizeAll len event t.held) t.makes t.is in (c.0, (t.held, t.counted, c.1), c.2)

-- what the state tells after a free lock
pub clear_by : (answer : Bool) (state : ℕ) → is_set 1 state ≡ not answer → LookClear answer (LoadLock 0 ∷ LoadState state ∷ [])
clear_by true state e = Clear e
clear_by false state e = Scheduled e

-- LISTS THAT LEAD FROM WHAT A SEAT KNEW TO WHAT IT KNOWS

-- what it knew between the two
pub apart : (one two : Standing → List Step → Type 0) (old new : Known) → LeadsBy (Then one two) old new → (mid : Known) × LeadsBy one old mid × LeadsBy two mid new
apart one two old new (s, all, t, v, made, v', made', told) =
    let m : Standing = steps_leave t.xs s in (
      record { view = m.view; steps = m.steps },
      (s, t.xs, t.first, v, made, refl, refl, told_first t told),
      (m, t.ys, t.next, refl, refl, v' ∙ ap (λ (z : Standing). z.view) (left_then t), made' ∙ ap (λ (z : Standing). z.steps) (left_then t), told_then t told),
    )

-- what is told of two views, of what these leave
pub led : (tells : View → View → Type 0) (such : Standing → List Step → Type 0) (old new : Known) (h : LeadsBy such old new) → tells h.0.view (steps_leave h.1 h.0).view → tells old.view new.view
led tells such old new h t = subst (λ (z : View × View). tells z.0 z.1) (λ j. (h.3 j, sym h.5 j)) t

pub came_by : (comes : View → View → Type 0) (such : Standing → List Step → Type 0) (old new : Known) → LeadsBy (Coming comes such) old new → comes old.view new.view
came_by comes such old new h = led comes (Coming comes such) old new h h.2.came

pub only_leaves : (xs : List Step) (f : View → View) → ((s : Standing) → (steps_leave xs s).view ≡ f s.view) → (old new : Known) → LeadsBy (Only xs) old new → new.view ≡ f old.view
only_leaves xs f leaves old new h = h.5 ∙ (ap (λ (ys : List Step). (steps_leave ys h.0).view) h.2 ∙ (leaves h.0 ∙ ap f h.3))

pub found_leaves : {X : Type 0} (step : X → Step) (f : View → View) → ((x : X) (s : Standing) → (step_leaves (step x) s).view ≡ f s.view) → (old new : Known) → LeadsBy (Finding step) old new → new.view ≡ f old.view
found_leaves {X} step f leaves old new h = h.5 ∙ (ap (λ (ys : List Step). (steps_leave ys h.0).view) h.2.1 ∙ (leaves h.2.0 h.0 ∙ ap f h.3))

-- bands that held nothing lose nothing
pub none_of : (len : ℕ) (held : ℕ → List ℕ) → ((b : ℕ) → b < 3 → held b ≡ []) → length (all_lost len held) ≡ 0
none_of len held none = ap length (λ j. drop len (none 0 (omega arith) j) ++ (drop len (none 1 (omega arith) j) ++ drop len (none 2 (omega arith) j))) ∙ nothing len
  where
    nothing : (n : ℕ) → (let nil : List ℕ = [] in length (drop n nil ++ (drop n nil ++ drop n nil))) ≡ 0
    nothing zero = refl
    nothing (suc n) = refl
