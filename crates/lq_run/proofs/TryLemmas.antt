-- What the steps of a try of the run lock leave as it was.
use Rattle.std.proofs.Common.{◌≡◌, ℕ, Bool, true, false, if◌then◌else◌, refl, sym, ap, ◌∙◌}
use Rattle.lq_model.specs.Machine.{Qdisc}
use Rattle.lq_model.specs.Steps.{lock_got, miss, step_at}
use Rattle.lq_model.specs.Control.{is_control}
use Rattle.lq_model.specs.declared.machine.Answer.TheVariants.{Plain}
use Rattle.lq_model.specs.declared.machine.Attempt.{Attempt}
use Rattle.lq_model.specs.declared.machine.Attempt.TheVariants.{Direct, Interrupt, Queued}
use Rattle.lq_model.specs.declared.machine.Position.{Position}
use Rattle.lq_model.specs.declared.machine.Position.TheVariants.{Miss, Try1, Try2}
use Rattle.lq_model.specs.declared.machine.Seat.{Seat}
use Rattle.lq_table.specs.Views.{HolderPart, View}
use Rattle.lq_table.specs.Locks.{look_lock_view, try_lock_view, try_lock_view_in_control, seen_lock}
use Rattle.lq_table.specs.Moves.{seen_by}
use Rattle.lq_table.specs.States.{miss_view}
use Rattle.lq_run.specs.Runs.{after_got, run_got}

-- only the place without its raised mark changes, what it has as holder, and the machine
abbrev pub Touches : View → View → Type 0
Touches v w = (place : Seat) × (holder : HolderPart) × (q : Qdisc) × (place.raised ≡ v.place.raised) × (w ≡ record v { place = place; holder = holder; whole = record v.whole { qdisc = q } })

pub touches_then : (u v w : View) → Touches u v → Touches v w → Touches u w
touches_then u v w x y = (
  y.0,
  y.1,
  y.2,
  y.3 ∙ (ap (λ (z : View). z.place.raised) x.4 ∙ x.3),
  y.4 ∙ ap (λ (z : View). record z { place = y.0; holder = y.1; whole = record z.whole { qdisc = y.2 } }) x.4,
)

raised_got : (a : Attempt) (q : Qdisc) (s : Seat) → (lock_got a q s).seat.raised ≡ s.raised
raised_got (Direct p) q s = refl
raised_got (Queued p) q s = refl
raised_got Interrupt q s = refl

raised_missed : (a : Attempt) (was : Bool) (q : Qdisc) (s : Seat) → (miss a (record q { missed = was }) s).seat.raised ≡ s.raised
raised_missed a true q s = refl
raised_missed a false q s = refl

-- the seat after a step from this position that gets the lock, that finds it held, and that sets MISSED; and the view after that
abbrev got_to : Position → HolderPart → View → Seat
got_to p d v = (step_at p Plain (seen_lock (seen_by (record v { holder = d })) false) v.place).seat

abbrev pub place_locked : Position → View → Seat
place_locked p v = (step_at p Plain (seen_lock (seen_by v) true) v.place).seat

abbrev pub place_missed : Position → Bool → View → Seat
place_missed p was v = (step_at p Plain (record (seen_by v) { missed = was }) v.place).seat

abbrev moved_to : Position → Seat → HolderPart → View → View
moved_to p place d v = record v { place = place; holder = d; whole = record v.whole { qdisc = (step_at p Plain v.whole.qdisc v.place).qdisc } }

abbrev got_at : HolderPart → View → Position → View
got_at d v p = if is_control p then try_lock_view_in_control d v else moved_to p (got_to p d v) d v

pub first_got : (a : Attempt) (d : HolderPart) (v w : View) → v.place.position ≡ Try1 a → w ≡ try_lock_view d v → Touches v w
first_got a d v w at is = (got_to (Try1 a) d v, d, (step_at (Try1 a) Plain v.whole.qdisc v.place).qdisc, raised_got a _ v.place, is ∙ ap (got_at d v) at)

pub second_got : (a : Attempt) (d : HolderPart) (v w : View) → v.place.position ≡ Try2 a → w ≡ try_lock_view d v → Touches v w
second_got a d v w at is = (got_to (Try2 a) d v, d, (step_at (Try2 a) Plain v.whole.qdisc v.place).qdisc, raised_got a _ v.place, is ∙ ap (got_at d v) at)

-- the lock was found held: next MISSED is set, or the try is given up
pub first_locked : (a : Attempt) (v w : View) → v.place.position ≡ Try1 a → w ≡ look_lock_view v → Touches v w × (w.place.position ≡ Miss a)
first_locked a v w at is =
    let e = is ∙ ap (λ (p : Position). moved_to p (place_locked p v) v.holder v) at in
    ((place_locked (Try1 a) v, v.holder, (step_at (Try1 a) Plain v.whole.qdisc v.place).qdisc, refl, e), ap (λ (z : View). z.place.position) e)

pub second_locked : (a : Attempt) (v w : View) → v.place.position ≡ Try2 a → w ≡ look_lock_view v → Touches v w
second_locked a v w at is =
    (place_locked (Try2 a) v, v.holder, (step_at (Try2 a) Plain v.whole.qdisc v.place).qdisc, refl, is ∙ ap (λ (p : Position). moved_to p (place_locked p v) v.holder v) at)

pub missed_touches : (a : Attempt) (was : Bool) (v w : View) → v.place.position ≡ Miss a → w ≡ miss_view was v → Touches v w
missed_touches a was v w at is =
    (place_missed (Miss a) was v, v.holder, (step_at (Miss a) Plain v.whole.qdisc v.place).qdisc, raised_missed a was (seen_by v) v.place, is ∙ ap (λ (p : Position). moved_to p (place_missed p was v) v.holder v) at)

-- where MISSED was clear the lock is tried once more
pub missed_leads : (a : Attempt) (v w : View) → v.place.position ≡ Miss a → w ≡ miss_view false v → w.place.position ≡ Try2 a
missed_leads a v w at is = ap (λ (z : View). z.place.position) is ∙ ap (λ (p : Position). (place_missed p false v).position) at

-- where a step that gets the lock leads
leads : (a : Attempt) (d : HolderPart) (v : View) (q : Qdisc) → let w : View = record v { place = got_to (Try1 a) d v; holder = d; whole = record v.whole { qdisc = q } } in (w.place.position ≡ after_got w (Try1 a)) × (w.place.run ≡ run_got v.place.run (Try1 a))
leads (Direct p) d v q = (refl, refl)
leads (Queued p) d v q = (refl, refl)
leads Interrupt d v q = (refl, refl)

abbrev pub LeadsGot : Attempt → ℕ → HolderPart → View → Type 0
LeadsGot a run d w = (w.place.position ≡ after_got w (Try1 a)) × (w.place.run ≡ run_got run (Try1 a)) × (w.holder ≡ d)

leads_from : (a : Attempt) (d : HolderPart) (v w : View) (q : Qdisc) → w ≡ record v { place = got_to (Try1 a) d v; holder = d; whole = record v.whole { qdisc = q } } → LeadsGot a v.place.run d w
leads_from a d v w q e = let l = leads a d v q in
    (ap (λ (z : View). z.place.position) e ∙ (l.0 ∙ sym (ap (λ (z : View). after_got z (Try1 a)) e)), ap (λ (z : View). z.place.run) e ∙ l.1, ap (λ (z : View). z.holder) e)

pub first_leads : (a : Attempt) (d : HolderPart) (v w : View) → v.place.position ≡ Try1 a → w ≡ try_lock_view d v → LeadsGot a v.place.run d w
first_leads a d v w at is = leads_from a d v w (step_at (Try1 a) Plain v.whole.qdisc v.place).qdisc (is ∙ ap (got_at d v) at)

-- at the second try, after the first found the lock held and MISSED was set
pub second_leads : (a : Attempt) (d : HolderPart) (u m v w : View) → u.place.position ≡ Try1 a → m ≡ look_lock_view u → v ≡ miss_view false m → w ≡ try_lock_view d v → LeadsGot a u.place.run d w
second_leads a d u m v w at locked missed is =
    let miss_ = first_locked a u m at locked in let l = leads_from a d v w (step_at (Try2 a) Plain v.whole.qdisc v.place).qdisc (is ∙ ap (got_at d v) (missed_leads a m v miss_.1 missed)) in
    let run : v.place.run ≡ u.place.run = ap (λ (z : View). z.place.run) missed ∙ (ap (λ (p : Position). (place_missed p false m).run) miss_.1 ∙ (ap (λ (z : View). z.place.run) locked ∙ ap (λ (p : Position). (place_locked p u).run) at)) in
    (l.0, l.1 ∙ ap (λ (n : ℕ). run_got n (Try1 a)) run, l.2)
