-- A list of events and its trail.
use Rattle.std.proofs.Common.{◌≡◌, ℕ, ◌==◌, true, false, List, [], ◌∷◌, ◌++◌, inl, inr, length, Contains, Some, None, refl, sym, ap, ◌∙◌, subst, cond, eq-eqb}
use Rattle.std.proofs.lemmas.Option.{same_Some}
use Rattle.lq_model.specs.Account.{Account, Event, Join, Full, Refuse, Direct, Resize, Down, Purge, Swap, Up, after_all}
use Rattle.lq_model.specs.Legal.{brought, brought_by}
use Rattle.lq_model.specs.Plan.{Plan, owner_in}
use Rattle.lq_model.specs.declared.fate.Cause.TheVariants as cause
use Rattle.lq_model.specs.declared.fate.Info.{Info}
use Rattle.lq_account_laws.specs.Accounts.{NoSwapAfterHang}
use Rattle.lq_account_laws.specs.Controls.{controls_in, is_by_plan, planned_controls}
use Rattle.lq_account_laws.proofs.Chosen.{HasControls, down-among, one-other, one-own, own-in, own-or-not}
use Rattle.lq_account_laws.proofs.Brought.{brought-cases, brought-now, brought-before}
use Rattle.lq_account_laws.specs.Trail.{is_own, trail_of, down_of, IsTrail, IsTrailNext, HaveCome}

-- WHAT THE TRAIL HAS

own-has : (infos : List Info) → HasControls (is_own infos)
own-has infos = record { resizes = λ len event. refl; downs = λ event. refl; swaps = λ unit. refl; ups = refl }

-- control's events by the plan are the trail's
by-plan-own : (infos : List Info) (e : Event) → is_own infos e ≡ false → is_by_plan e ≡ false
by-plan-own infos (Resize len event) other = absurd cc
by-plan-own infos (Down event) other = absurd cc
by-plan-own infos (Purge cause) other = absurd cc
by-plan-own infos (Swap unit) other = absurd cc
by-plan-own infos Up other = absurd cc
by-plan-own infos e other = refl

pub same-controls : (infos : List Info) (past : List Event) → controls_in (trail_of infos past) ≡ controls_in past
same-controls infos [] = refl
same-controls infos (e ∷ past) = elim (own-or-not (is_own infos) e) [
  | inl own ↦ ap controls_in (one-own (is_own infos) e past own) ∙ ap (λ l. cond (is_by_plan e) (e ∷ l) l) (same-controls infos past)
  | inr other ↦ ap controls_in (one-other (is_own infos) e past other) ∙ (same-controls infos past ∙ ap (λ b. cond b (e ∷ controls_in past) (controls_in past)) (sym (by-plan-own infos e other)))
]

-- what brings a packet of the first sender is the trail's
owner-is : (infos : List Info) (m n : ℕ) → m ≡ n → owner_in infos n ≡ 0 → (owner_in infos m == 0) ≡ true
owner-is infos m n same owner = eq-eqb (owner_in infos m) 0 (ap (owner_in infos) same ∙ owner)

pub brings-own : (infos : List Info) (e : Event) (n : ℕ) → brought e ≡ Some n → owner_in infos n ≡ 0 → is_own infos e ≡ true
brings-own infos (Join m band) n is owner = owner-is infos m n (same_Some m n is) owner
brings-own infos (Full m seen) n is owner = owner-is infos m n (same_Some m n is) owner
brings-own infos (Refuse m event) n is owner = owner-is infos m n (same_Some m n is) owner
brings-own infos (Direct m) n is owner = owner-is infos m n (same_Some m n is) owner
brings-own infos e n is owner = absurd cc

pub brought-in-trail : (infos : List Info) (n : ℕ) → owner_in infos n ≡ 0 → (past : List Event) → Contains (brought_by past) n → Contains (brought_by (trail_of infos past)) n
brought-in-trail infos n owner [] h = h
brought-in-trail infos n owner (e ∷ past) h = elim (brought-cases e past n h) [
  | inl old ↦ elim (own-or-not (is_own infos) e) [
    | inl own ↦ subst (λ l. Contains (brought_by l) n) (sym (one-own (is_own infos) e past own)) (brought-before e (trail_of infos past) n (brought-in-trail infos n owner past old))
    | inr other ↦ subst (λ l. Contains (brought_by l) n) (sym (one-other (is_own infos) e past other)) (brought-in-trail infos n owner past old)
  ]
  | inr now ↦ subst (λ l. Contains (brought_by l) n) (sym (one-own (is_own infos) e past (brings-own infos e n now owner))) (brought-now e (trail_of infos past) n now)
]

pub down-is : (infos : List Info) (start : Account) → start.down ≡ None → (past : List Event) → down_of (trail_of infos past) ≡ (after_all start past).down
down-is infos start active past = down-among (is_own infos) (own-has infos) start active past

-- ONE EVENT MORE

pub trail-tail : (plan : Plan) (infos : List Info) (station : ℕ) (e : Event) (past : List Event) → IsTrail plan station (trail_of infos (e ∷ past)) → IsTrail plan station (trail_of infos past)
trail-tail plan infos station e past h = elim (own-or-not (is_own infos) e) [
  | inl own ↦ (subst (IsTrail plan station) (one-own (is_own infos) e past own) h).0
  | inr other ↦ subst (IsTrail plan station) (one-other (is_own infos) e past other) h
]

pub trail-head : (plan : Plan) (infos : List Info) (station : ℕ) (e : Event) (past : List Event) → is_own infos e ≡ true → IsTrail plan station (trail_of infos (e ∷ past))
    → IsTrailNext plan station (trail_of infos past) e
trail-head plan infos station e past own h = (subst (IsTrail plan station) (one-own (is_own infos) e past own) h).1

-- ALL HAS COME

no-swap : (plan : Plan) (infos : List Info) (station : ℕ) (before : List Event) (old new : ℕ) → Contains before (Purge (cause.Hung old)) → (later : List Event)
    → IsTrail plan station (trail_of infos (later ++ Swap new ∷ before)) → ⊥
no-swap plan infos station before old new hung [] trail = (trail-head plan infos station (Swap new) before refl trail).no_hang old (own-in (is_own infos) (Purge (cause.Hung old)) refl before hung)
no-swap plan infos station before old new hung (e ∷ later) trail = no-swap plan infos station before old new hung later (trail-tail plan infos station e (later ++ Swap new ∷ before) trail)

pub no-swap-after-hang : (plan : Plan) (infos : List Info) (station : ℕ) (past : List Event) → IsTrail plan station (trail_of infos past) → NoSwapAfterHang past
no-swap-after-hang plan infos station past trail later before old new is hung =
    no-swap plan infos station before old new hung later (subst (λ l. IsTrail plan station (trail_of infos l)) is trail)

pub have-all-come : (plan : Plan) (infos : List Info) (station : ℕ) (past : List Event) → HaveCome plan station (length plan.events) (trail_of infos past)
    → controls_in past ≡ planned_controls plan station (length plan.events)
have-all-come plan infos station past come = sym (same-controls infos past) ∙ come
