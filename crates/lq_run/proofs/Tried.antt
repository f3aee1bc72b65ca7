-- What a try of the run lock, and a set of MISSED, come to: what their steps make of what a seat has.
use Rattle.std.proofs.Common.{◌≡◌, ◌≢◌, ◌<◌, ℕ, Bool, true, false, not, if◌then◌else◌, List, ◌∷◌, eqb, ne_eqb, Some, refl, sym, ap, ◌∙◌, subst}
use Rattle.std.proofs.lemmas.Bool.{false≢true, true≢false}
use Rattle.lq_model.specs.Control.{is_control}
use Rattle.lq_model.specs.Machine.{first_qdisc, idle_seat}
use Rattle.lq_table.specs.Locks.{GetsRunLock, SeesTry, look_lock_view, try_lock_view, try_lock_view_in_call, try_lock_view_in_control}
use Rattle.lq_table.specs.Rule.{shown}
use Rattle.lq_table.specs.Sees.{view, slot, solo, IsSameSeat, IsSeatOf, IsSole}
use Rattle.lq_table.specs.States.{miss_view, missed_to}
use Rattle.lq_table.specs.Step.{Standing, Step, TryLock, standing, step_tells, steps_leave, steps_tell}
use Rattle.lq_table.specs.Views.{HolderPart, SharePart, View, not_holding}
use Rattle.lq_table.specs.declared.shared.Cpu.{Cpu}
use Rattle.lq_table.specs.declared.shared.Shared.{Shared}
use Rattle.lq_run.specs.Steps.{Got, Held, Lost, MakesStepsOf, NoteMissed, Seen, Set, TryRunLock}

-- WHAT NO STEP ON THE RUN LOCK CHANGES

-- the view without the place, what the seat has as holder, and the machine
abbrev pub still : View → View
still v = record v { place = idle_seat; holder = not_holding; whole = record v.whole { qdisc = first_qdisc 0 false 1 } }

pub either_still : (b : Bool) (v w u : View) → still v ≡ u → still w ≡ u → still (if b then v else w) ≡ u
either_still true v w u x y = x
either_still false v w u x y = y

pub sole_still : (v w : View) → still w ≡ still v → IsSole v → IsSole w
sole_still v w e s = (ap (λ (z : View). z.share.shares) e ∙ s.0, ap (λ (z : View). z.whole.told) e ∙ s.1)

-- A TRY

pub record IsTried (answer : Bool) (s z : Standing) : Type 0 where
  pub got : answer ≡ true → (d : HolderPart) × (z.view ≡ try_lock_view d s.view) × (z.slot ≡ (0, Some (shown d)) ∷ s.slot) × step_tells (TryLock (Some d)) s
  pub held : answer ≡ false → (z.view ≡ look_lock_view s.view) × (z.slot ≡ s.slot)
  pub station : z.station ≡ s.station
  pub indices : z.indices ≡ s.indices
  pub rest : still z.view ≡ still s.view
  pub sole : IsSole s.view → SeesTry answer s.view z.view

not_held : (found : ℕ) (b : Bool) → not (eqb found 0) ≡ b → found ≢ 0 → false ≡ not b
not_held found b e n = ap not (sym (ap not (ne_eqb found 0 n))) ∙ ap not e

pub tried : {answer : Bool} {xs : List Step} → TryRunLock answer xs → (s : Standing) → steps_tell xs s → IsTried answer s (steps_leave xs s)
tried (Held {found} n) s t = let e = ap (λ (x : Bool). if x then s.view else look_lock_view s.view) (ne_eqb found 0 n) in record {
  got = λ yes. absurd (false≢true yes);
  held = λ _. (e, refl);
  station = refl;
  indices = refl;
  rest = either_still (eqb found 0) s.view (look_lock_view s.view) (still s.view) refl refl;
  sole = λ alone. (let f = t.0 alone in (ap solo e ∙ f.1 n, not_held found _ f.0 n, λ yes. absurd (false≢true yes)));
}
tried Lost s t = record {
  got = λ yes. absurd (false≢true yes);
  held = λ _. (refl, refl);
  station = refl;
  indices = refl;
  rest = refl;
  sole = λ alone. (let f = t.1.0 alone in (f.1, sym (ap not f.0), λ yes. absurd (false≢true yes)));
}
tried (Got {d}) s t = record {
  got = λ _. (d, refl, refl, t.1.0);
  held = λ no_. absurd (true≢false no_);
  station = refl;
  indices = refl;
  rest = either_still (is_control s.view.place.position) (try_lock_view_in_control d s.view) (try_lock_view_in_call d s.view) (still s.view) refl refl;
  sole = λ alone. (let f = t.1.0.7 alone in (f.1, sym (ap not f.0), λ _. f.2));
}

-- A SET OF MISSED

pub record IsNoted (was : Bool) (s z : Standing) : Type 0 where
  pub view : z.view ≡ miss_view was s.view
  pub slot : z.slot ≡ s.slot
  pub station : z.station ≡ s.station
  pub indices : z.indices ≡ s.indices
  pub rest : still z.view ≡ still s.view
  pub step : solo z.view ≡ missed_to true (solo s.view)

pub noted : {was : Bool} {xs : List Step} → NoteMissed was xs → (s : Standing) → steps_tell xs s → IsNoted was s (steps_leave xs s)
noted (Seen {state} is) s t = let e = ap (λ (x : Bool). if x then miss_view true s.view else s.view) is in record {
  view = e;
  slot = refl;
  station = refl;
  indices = refl;
  rest = ap still e;
  step = ap solo e ∙ t.0.0;
}
noted (Set {state} {was} clear) s t =
    let e = ap (λ (x : Bool). if x then miss_view true s.view else s.view) clear in
    let f = ap (λ (v : View). miss_view was v) e in
    let u = subst (λ (v : View). (solo (miss_view was v) ≡ missed_to true (solo v)) × (IsSole v → was ≡ v.whole.qdisc.missed)) e t.1.0 in record {
      view = f;
      slot = refl;
      station = refl;
      indices = refl;
      rest = ap still f;
      step = ap solo f ∙ u.0;
    }

-- A TRY AS A CALL: what the seat has and knows after it

module _ {D : Type 0} where
  pub record TriesRunLock (answer : Bool) (b a : Cpu D) : Type 0 where
    pub seat : IsSameSeat b a × (a.station ≡ b.station) × (a.indices ≡ b.indices)
    pub got : answer ≡ true → GetsRunLock b a
    pub held : answer ≡ false → (view a ≡ look_lock_view (view b)) × (slot a ≡ slot b)
    pub sole : IsSole (view b) → SeesTry answer (view b) (view a)

  pub record NotesMissed (was : Bool) (b a : Cpu D) : Type 0 where
    pub knows : view a ≡ miss_view was (view b)
    pub has : slot a ≡ slot b

  pub tries : {answer : Bool} {b a : Cpu D} → MakesStepsOf (TryRunLock answer) b a → TriesRunLock answer b a
  tries {answer} {b} {a} x = let m = x.2 in let t = tried x.1 (standing b) m.told in record {
    seat = (m.seat, m.carries ∙ t.station, m.places ∙ t.indices);
    got = λ yes. (let g = t.got yes in (g.0, m.knows ∙ g.1, m.has ∙ g.2, g.3.0, g.3.1, g.3.2, g.3.3, g.3.4, g.3.5, g.3.6));
    held = λ no_. (let h = t.held no_ in (m.knows ∙ h.0, m.has ∙ h.1));
    sole = λ alone. subst (λ (v : View). SeesTry answer (view b) v) (sym m.knows) (t.sole alone);
  }

  pub notes : {was : Bool} {b a : Cpu D} → MakesStepsOf (NoteMissed was) b a → NotesMissed was b a
  notes {was} {b} {a} x = let m = x.2 in let n = noted x.1 (standing b) m.told in record { knows = m.knows ∙ n.view; has = m.has ∙ n.slot }

  -- it is a seat of the table still
  seat_still : (t : Shared D) (b a : Cpu D) → IsSeatOf t b → IsSameSeat b a → still (view a) ≡ still (view b) → IsSeatOf t a
  seat_still t b a seat same e = let share = ap (λ (v : View). v.share) e in
      (same.0 ∙ seat.0, subst (λ (s : SharePart). 0 < s.shares) (sym share) seat.1, ap (λ (s : SharePart). s.about) share ∙ seat.2)

  pub seat_tried : (t : Shared D) {answer : Bool} {b a : Cpu D} → IsSeatOf t b → MakesStepsOf (TryRunLock answer) b a → IsSeatOf t a
  seat_tried t {answer} {b} {a} seat x = let m = x.2 in seat_still t b a seat m.seat (ap still m.knows ∙ (tried x.1 (standing b) m.told).rest)

  pub seat_noted : (t : Shared D) {was : Bool} {b a : Cpu D} → IsSeatOf t b → MakesStepsOf (NoteMissed was) b a → IsSeatOf t a
  seat_noted t {was} {b} {a} seat x = let m = x.2 in seat_still t b a seat m.seat (ap still m.knows ∙ (noted x.1 (standing b) m.told).rest)
