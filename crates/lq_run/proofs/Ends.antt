-- What the steps of an end come to: what they leave as it was, and what a seat knows that has the table alone.
use Rattle.std.proofs.Common.{◌≡◌, ◌⊎◌, Bool, true, false, if◌then◌else◌, List, inl, inr, refl, sym, ap, ◌∙◌}
use Rattle.lq_model.specs.Control.{is_control}
use Rattle.lq_model.specs.Machine.{is_closed}
use Rattle.lq_model.specs.Steps.{call_ends, step_at}
use Rattle.lq_model.specs.declared.machine.Answer.TheVariants.{Plain}
use Rattle.lq_model.specs.declared.machine.Phase.{Phase}
use Rattle.lq_model.specs.declared.machine.Phase.TheVariants.{Active}
use Rattle.lq_model.specs.declared.machine.Position.{Position}
use Rattle.lq_model.specs.declared.machine.Position.TheVariants as at
use Rattle.lq_table.specs.Locks.{after_release, locked_to, seen_lock, unlock_view, unlock_view_in_call, unlock_view_in_control}
use Rattle.lq_table.specs.Moves.{seen_by}
use Rattle.lq_table.specs.Sees.{view, solo, IsSole, Solo}
use Rattle.lq_table.specs.States.{load_state_view, set_sched_alone, set_sched_view}
use Rattle.lq_table.specs.Step.{Standing, Step, standing, steps_leave, steps_tell}
use Rattle.lq_table.specs.Views.{View}
use Rattle.lq_table.specs.declared.shared.Cpu.{Cpu}
use Rattle.lq_run.specs.Runs.{ended}
use Rattle.lq_run.specs.Steps.{End, MakesStepsOf, NoneMissed, Schedules}
use Rattle.lq_run.proofs.Keeps.{IsElseKept, IsEventless, kept_still}
use Rattle.lq_run.proofs.Tried.{either_still, still}

pub rest_ended : {xs : List Step} → End xs → (s : Standing) → (still (steps_leave xs s).view ≡ still s.view) × ((steps_leave xs s).indices ≡ s.indices)
rest_ended (NoneMissed {state} clear) s = (either_still (is_control s.view.place.position) (unlock_view_in_control s.view) (unlock_view_in_call s.view) (still s.view) refl refl, refl)
rest_ended (Schedules {state} {was} is) s = (either_still (is_control s.view.place.position) (unlock_view_in_control s.view) (unlock_view_in_call s.view) (still s.view) refl refl, refl)

sole_by : (v w : View) → solo w ≡ locked_to false (solo v) → IsSole v → IsSole w
sole_by v w e s = (ap (λ (x : Solo). x.shares) e ∙ s.0, ap (λ (x : Solo). x.told) e ∙ s.1)

abbrev ended_as : Bool → Solo → Solo
ended_as missed s = if missed then set_sched_alone s.whole.scheduled (locked_to false s) else locked_to false s

pub alone_ended : {xs : List Step} → End xs → (s : Standing) → steps_tell xs s → IsSole s.view → solo (steps_leave xs s).view ≡ ended (solo s.view)
alone_ended (NoneMissed {state} clear) s told alone =
    let v = s.view in let u = told.1.0 in let l = told.1.1.0 in let sees = l.1 (sole_by v (unlock_view v) u alone) in
    let missed : v.whole.qdisc.missed ≡ false = sym (ap (λ (x : Solo). x.whole.missed) u) ∙ (sym sees.missed ∙ clear) in
    l.0 ∙ (u ∙ sym (ap (λ (x : Bool). ended_as x (solo v)) missed))
alone_ended (Schedules {state} {was} is) s told alone =
    let v = s.view in let u = told.1.0 in let l = told.1.1.0 in let r = told.1.1.1.0 in let sees = l.1 (sole_by v (unlock_view v) u alone) in
    let missed : v.whole.qdisc.missed ≡ true = sym (ap (λ (x : Solo). x.whole.missed) u) ∙ (sym sees.missed ∙ is) in
    let both = l.0 ∙ u in
    let found : was ≡ v.whole.qdisc.sched = r.1 (sole_by v (load_state_view state (unlock_view v)) both alone) ∙ ap (λ (x : Solo). x.whole.scheduled) both in
    r.0 ∙ (ap (set_sched_alone was) both ∙ (ap (λ (x : Bool). set_sched_alone x (locked_to false (solo v))) found ∙ sym (ap (λ (x : Bool). ended_as x (solo v)) missed)))

module _ {D : Type 0} where
  pub kept_ended : {b a : Cpu D} → MakesStepsOf End b a → IsElseKept b a × IsEventless b a
  kept_ended {b} {a} x = let m = x.2 in let y = rest_ended x.1 (standing b) in kept_still b a m.seat (m.places ∙ y.1) (ap still m.knows ∙ y.0)

  pub sole_ended : {b a : Cpu D} → MakesStepsOf End b a → IsSole (view b) → solo (view a) ≡ ended (solo (view b))
  sole_ended {b} {a} x alone = let m = x.2 in ap solo m.knows ∙ alone_ended x.1 (standing b) m.told alone

-- THE RAISED MARK

-- where the run lock may be released: at the end of a run, or by control
abbrev MayRelease : Bool → View → Type 0
MayRelease true v = v.place.position ≡ at.Unlock
MayRelease false v = (v.place.position ≡ at.Control true) × (v.control.phase ≡ Active)

abbrev released : Bool → View → View
released inside v = record v { place = record v.place { position = at.Tail inside }; whole = record v.whole { qdisc = record v.whole.qdisc { locked = false } } }

abbrev unlocked_at : View → Position → View
unlocked_at v p = if is_control p then unlock_view_in_control v else record v {
  place = (step_at p Plain (seen_lock (seen_by v) false) v.place).seat;
  whole = record v.whole { qdisc = (step_at p Plain v.whole.qdisc v.place).qdisc };
}

unlock_is : (inside : Bool) (v : View) → MayRelease inside v → unlock_view v ≡ released inside v
unlock_is true v here = ap (unlocked_at v) here
unlock_is false v here =
    ap (unlocked_at v) here.0 ∙ ap (λ (p : Phase). record v { place = record v.place { position = after_release (is_closed p) }; whole = record v.whole { qdisc = record v.whole.qdisc { locked = false } } }) here.1

-- the state after that, with MISSED or without
abbrev loaded : Bool → Bool → View → View
loaded missed inside v = record (released inside v) { place = record v.place { position = if missed then at.Sched inside else call_ends inside } }

raised_at : (was inside : Bool) (v : View) → v.place.raised ≡ true → (set_sched_view was (loaded true inside v)).place.raised ≡ true
raised_at true inside v e = e
raised_at false inside v e = refl

raised_from : (inside : Bool) {xs : List Step} → End xs → (s : Standing) → MayRelease inside s.view → s.view.place.raised ≡ true → (steps_leave xs s).view.place.raised ≡ true
raised_from inside (NoneMissed {state} clear) s may raised =
    let v = s.view in let e : load_state_view state (unlock_view v) ≡ loaded false inside v = ap (load_state_view state) (unlock_is inside v may) ∙ ap (λ (x : Bool). loaded x inside v) clear in
    ap (λ (z : View). z.place.raised) e ∙ raised
raised_from inside (Schedules {state} {was} is) s may raised =
    let v = s.view in let e : load_state_view state (unlock_view v) ≡ loaded true inside v = ap (load_state_view state) (unlock_is inside v may) ∙ ap (λ (x : Bool). loaded x inside v) is in
    ap (λ (z : View). z.place.raised) (ap (set_sched_view was) e) ∙ raised_at was inside v raised

pub raised_ended : {xs : List Step} → End xs → (s : Standing) → (s.view.place.position ≡ at.Unlock) ⊎ ((s.view.place.position ≡ at.Control true) × (s.view.control.phase ≡ Active)) → s.view.place.raised ≡ true
    → (steps_leave xs s).view.place.raised ≡ true
raised_ended x s (inl run) raised = raised_from true x s run raised
raised_ended x s (inr control) raised = raised_from false x s control raised
