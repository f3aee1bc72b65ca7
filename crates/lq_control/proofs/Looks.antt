-- What a look at a station's words leaves of a seat that has the table alone, and tells it.
use Rattle.std.proofs.Common.{◌≡◌, inl, inr, ℕ, ◌<◌, Bool, true, false, None, [], ◌∷◌, refl, sym, ap, ◌∙◌, subst}
use Rattle.std.specs.Prelude.{not, ◌&&◌, ◌==◌}
use Rattle.lq_model.specs.declared.machine.Position.TheVariants.{Control}
use Rattle.lq_model.specs.Control.{found_inside}
use Rattle.lq_table.specs.AtRest.{IsSoleAtRest, KnowsRest}
use Rattle.lq_table.specs.Inside.{load_inside_view}
use Rattle.lq_table.specs.States.{SeesState, load_state_view}
use Rattle.lq_table.specs.Step.{LoadLock, LoadState, MakesSteps}
use Rattle.lq_table.specs.Sees.{view, position, IsElseSame, IsSole, account_of}
use Rattle.lq_table.specs.Moves.{at_rest, is_set}
use Rattle.lq_table.specs.Views.{View, Setup}
use Rattle.lq_table.specs.declared.shared.Cpu.{Cpu}
use Rattle.lq_control.specs.Finish.{AreKept, AreStopsBelow, Hangs, IsActiveOrPurged, IsLook, IsOver}
use Rattle.lq_control.specs.EndSteps.{are_quiet}
use Rattle.lq_control.specs.Seats.{IsFirstReadyAt}
use Rattle.lq_table.proofs.StepsThen.{makes_then}
use Rattle.lq_control.proofs.FinishSteps.{control_looked, hangs, is_up, kept_of, look_none, over_down}

-- LOOKS

-- by the calls inside the phase of a station that is active, or was purged, doesn't change
found_same : (n : ℕ) (v : View) → IsActiveOrPurged v → found_inside n v.control.phase ≡ v.control.phase
found_same n v (inl active) = ap (found_inside n) active.0 ∙ sym active.0
found_same n v (inr purged) = ap (found_inside n) purged.0 ∙ sym purged.0

look_found : (n : ℕ) (v w : View) → IsActiveOrPurged v → w ≡ load_inside_view n v → IsLook v w
look_found n v w settled e = let same = found_same n v settled in
    (found_inside v.whole.qdisc.inside v.whole.qdisc.phase, e ∙ (λ j. record (load_inside_view n v) { control = record v.control { phase = same j } }))

look_then : (v w x : View) → IsLook v w → IsLook w x → IsLook v x
look_then v w x a b = (b.0, b.1 ∙ ap (λ (y : View). record y { whole = record y.whole { qdisc = record y.whole.qdisc { phase = b.0 } } }) a.1)

-- only the seat's view changes, by a look
module _ {D : Type 0} where
  abbrev pub IsLooked : Cpu D → Cpu D → Type 0
  IsLooked b a = IsElseSame b a × IsLook (view b) (view a)

  pub looked_then : (a b c : Cpu D) → IsLooked a b → IsLooked b c → IsLooked a c
  looked_then a b c x y = let d = x.0 in let e = y.0 in (((e.0.0 ∙ d.0.0, e.0.1 ∙ d.0.1), e.1 ∙ d.1, e.2 ∙ d.2, e.3 ∙ d.3), look_then (view a) (view b) (view c) x.1 y.1)

  pub looked_still : (b a : Cpu D) → IsElseSame b a × (view a ≡ view b) → IsLooked b a
  looked_still b a s = (s.0, look_none (view b) (view a) s.1)

  pub looked_state : (n : ℕ) (h : Bool) (b a : Cpu D) → position b ≡ Control h → IsElseSame b a → view a ≡ load_state_view n (view b) → IsLooked b a
  looked_state n h b a at same e = looked_still b a (same, e ∙ control_looked n h (view b) at)

  pub looked_inside : (n : ℕ) (b a : Cpu D) → IsActiveOrPurged (view b) → IsElseSame b a → view a ≡ load_inside_view n (view b) → IsLooked b a
  looked_inside n b a settled same e = (same, look_found n (view b) (view a) settled e)

-- what is told of a view stays so after a look
pub kept_looked : (k : Setup) (v w : View) → IsLook v w → AreKept k v → AreKept k w
kept_looked k v w look h = subst (AreKept k) (sym look.1) (record { hand_empty = h.hand_empty; kept = h.kept })

pub up_looked : (v w : View) → IsLook v w → (account_of v).down ≡ None → (account_of w).down ≡ None
up_looked v w look up = ap (λ (x : View). (account_of x).down) look.1 ∙ up

pub over_looked : (v w : View) → IsLook v w → IsOver v → IsOver w
over_looked v w look h = subst IsOver (sym look.1) (record { nothing_held = h.nothing_held; over = h.over })

-- THE LOCK AND THE STATE

-- what the two words tell
pub record Told (k : Setup) (state : ℕ) (v : View) : Type 0 where
  pub about : v.share.about ≡ k
  pub first : v.control.first ≡ true
  pub sole : IsSole v
  pub settled : IsActiveOrPurged v
  pub rest : KnowsRest v
  pub sees : SeesState v state

module _ {D : Type 0} where
  pub record LooksAt (k : Setup) (lock state : ℕ) (b a : Cpu D) : Type 0 where
    pub same : IsLooked b a
    pub makes : MakesSteps (LoadLock lock ∷ LoadState state ∷ []) b a
    pub told : Told k state (view a)
    pub kept : AreKept k (view a)

  pub looks_at : (k : Setup) (lock state : ℕ) (b l a : Cpu D) → (view b).share.about ≡ k → IsFirstReadyAt (Control false) b → IsSole (view b) × IsActiveOrPurged (view b)
      → IsElseSame b l → view l ≡ view b → (IsSoleAtRest (view b) → KnowsRest (view b)) → MakesSteps (LoadLock lock ∷ []) b l
      → IsElseSame l a → view a ≡ load_state_view state (view l) → (IsSole (view l) → SeesState (view l) state) → MakesSteps (LoadState state ∷ []) l a
      → LooksAt k lock state b a
  looks_at k lock state b l a about at sole same lock_view alone lock_made same2 state_view sees made =
      let still : view a ≡ view b = state_view ∙ (control_looked state false (view l) (ap (λ (x : View). x.place.position) lock_view ∙ at.0) ∙ lock_view) in
      let rest : KnowsRest (view b) = alone (sole.0, ap at_rest at.0, at.2.1, at.2.2) in record {
        same = looked_then b l a (looked_still b l (same, lock_view)) (looked_still l a (same2, still ∙ sym lock_view));
        makes = makes_then lock_made made;
        told = subst (Told k state) (sym still) (record {
          about = about;
          first = at.1;
          sole = sole.0;
          settled = sole.1;
          rest = rest;
          sees = subst (λ (x : View). SeesState x state) lock_view (sees (subst IsSole (sym lock_view) sole.0));
        });
        kept = subst (AreKept k) (sym still) (kept_of k (view b) about rest);
      }

last_clear : (a b s : Bool) → (a && (b && not s)) ≡ true → s ≡ false
last_clear true true true e = sym e
last_clear a b false e = refl
last_clear true false true e = sym e
last_clear false b true e = sym e

-- and the stop words after them
module _ (k : Setup) (state : ℕ) (v : View) (t : Told k state v) where
  pub told_over : is_set 2 state ≡ true → IsOver v
  told_over down = over_down v state t.first t.settled t.rest t.sees down

  pub told_hangs : is_set 2 state ≡ false → 0 < k.queues → AreStopsBelow k.queues 2 v → Hangs v
  told_hangs up some stops =
      hangs v state t.first t.settled t.rest t.sees up (subst (λ (s : Setup). 0 < s.queues) (sym t.about) some) (subst (λ (s : Setup). AreStopsBelow s.queues 2 v) (sym t.about) stops)

  pub told_up : is_set 2 state ≡ false → (account_of v).down ≡ None
  told_up up = is_up v state t.sees up

  pub told_quiet : (are_open : Bool) (lock : ℕ) → is_set 2 state ≡ false → are_quiet are_open lock state ≡ true → AreStopsBelow k.queues 0 v → IsOver v
  told_quiet are_open lock up quiet stops = let all = subst (λ (s : Setup). AreStopsBelow s.queues 0 v) (sym t.about) stops in
      record { nothing_held = t.rest.quiet (sym t.sees.scheduled ∙ last_clear are_open (lock == 0) (is_set 1 state) quiet) (told_up up) all; over = inr all }
