-- What control does by the plan, wherever it stands, is as the plan asks.
use Rattle.std.proofs.Common.{◌≡◌, ℕ, suc, ◌+◌, ◌<◌, Bool, true, false, cond, List, [], ◌∷◌, inl, inr, length, filter_map, slice_get, Contains, Some, refl, sym, ap, subst, arith, le_refl, take_all}
use Rattle.lq_model.specs.Account.{Account, Event, Resize, Swap, Up}
use Rattle.lq_model.specs.Legal.{IsEventAt, IsLegal, IsNext, resize_event, down_event}
use Rattle.lq_model.specs.Plan.{Plan, is_at, is_swap, is_swap_kind, unit_of_swap}
use Rattle.lq_model.specs.declared.fate.Fate.{Fate}
use Rattle.lq_model.specs.declared.fate.Info.{Info}
use Rattle.lq_model.specs.declared.plan.EventKind.{EventKind}
use Rattle.lq_model.specs.declared.plan.EventKind.TheVariants as kind
use Rattle.lq_model.specs.declared.plan.EventPlan.{EventPlan}
use Rattle.lq_account_laws.specs.Accounts.{IsClosed}
use Rattle.lq_account_laws.specs.Controls.{controls_in, is_by_plan, planned_controls, with_control, with_down}
use Rattle.lq_account_laws.specs.Progress.{start_of}
use Rattle.lq_account_laws.specs.Trail.{IsOrderly}
use Rattle.lq_account_laws.proofs.Chosen.{ArePlannedAmong, HasControls, are-planned}
use Rattle.lq_account_laws.proofs.Controlled.{after_controls, no-swap-in-downs, not-first}
use Rattle.lq_account_laws.proofs.Lists.{cons-in, none-in}
use Rattle.lq_account_laws.proofs.Units.{unit-more, unit-rises}

-- what control did for the first so many events of the plan: each is as the plan asks, and all are of events below
record IsAsked (plan : Plan) (station count : ℕ) (trail : List Event) : Type 0 where
  planned : ArePlannedAmong plan station trail
  resizes : (e : ℕ) → Contains (filter_map resize_event trail) e → e < count
  downs : (e : ℕ) → Contains (filter_map down_event trail) e → e < count
  swaps : (unit : ℕ) → Contains trail (Swap unit) → unit < unit_of_swap plan count

module _ (plan : Plan) (station count : ℕ) (event : EventPlan) (there : slice_get plan.events count ≡ Some event) (old : List Event) (h : IsAsked plan station count old) where
  asked-next : IsNext old count
  asked-next = record { after_resizes = h.resizes; after_downs = h.downs }

  old-swap : (unit : ℕ) → Contains old (Swap unit) → unit < unit_of_swap plan (suc count)
  old-swap unit was = unit-rises plan count unit event there (h.swaps unit was)

  down-swap : (unit : ℕ) → Contains (with_down count old) (Swap unit) → unit < unit_of_swap plan (suc count)
  down-swap unit at = old-swap unit (no-swap-in-downs count unit old at)

  old-resize : (e : ℕ) → Contains (filter_map resize_event old) e → e < suc count
  old-resize e at = let below = h.resizes e at in omega arith

  old-down : (e : ℕ) → Contains (filter_map down_event old) e → e < suc count
  old-down e at = let below = h.downs e at in omega arith

  one-more-resize : (e : ℕ) → Contains (count ∷ filter_map resize_event old) e → e < suc count
  one-more-resize e at = elim (cons-in count (filter_map resize_event old) e at) [ inl same ↦ omega arith | inr was ↦ old-resize e was ]

  one-more-down : (e : ℕ) → Contains (count ∷ filter_map down_event old) e → e < suc count
  one-more-down e at = elim (cons-in count (filter_map down_event old) e at) [ inl same ↦ omega arith | inr was ↦ old-down e was ]

  -- an event of another station
  asked-elsewhere : IsAsked plan station (suc count) old
  asked-elsewhere = record { planned = h.planned; resizes = old-resize; downs = old-down; swaps = old-swap }

  -- the unit of this event
  new-unit : is_swap event ≡ true → unit_of_swap plan count < unit_of_swap plan (suc count)
  new-unit swap = let more : unit_of_swap plan (suc count) ≡ unit_of_swap plan count + 1 = unit-more plan count event there true swap in omega arith

  no-own-unit : Contains (with_down count old) (Swap (unit_of_swap plan count)) → ⊥
  no-own-unit at = let below = h.swaps (unit_of_swap plan count) (no-swap-in-downs count (unit_of_swap plan count) old at) in omega arith

  asked-here : (k : EventKind) → event.kind ≡ k → IsEventAt plan station count k → IsAsked plan station (suc count) (with_control plan count k old)
  asked-here kind.Down is at = record {
    planned = ((h.planned, (asked-next, inl at)), _);
    resizes = old-resize;
    downs = one-more-down;
    swaps = down-swap;
  }
  asked-here kind.Up is at = record {
    planned = (h.planned, _);
    resizes = old-resize;
    downs = old-down;
    swaps = λ unit now. old-swap unit (not-first Up old (Swap unit) (λ same. cc) now);
  }
  asked-here (kind.Resize len) is at = record {
    planned = (h.planned, inl (at, asked-next));
    resizes = one-more-resize;
    downs = old-down;
    swaps = λ unit now. old-swap unit (not-first (Resize len count) old (Swap unit) (λ same. cc) now);
  }
  asked-here (kind.TxQueueLen len) is at = record {
    planned = (
      (((h.planned, (asked-next, inr (inl (len, at)))), _), inr (record { planned = at; once = h.resizes; deactivated = refl; nothing_held = refl })),
      _,
    );
    resizes = one-more-resize;
    downs = one-more-down;
    swaps = λ unit now. down-swap unit (not-first (Resize len count) (with_down count old) (Swap unit) (λ same. cc)
        (not-first Up (Resize len count ∷ with_down count old) (Swap unit) (λ same. cc) now));
  }
  asked-here (kind.Swap params) is at = record {
    planned = ((((h.planned, (asked-next, inr (inr (params, at)))), _), (count, refl, (params, at), refl, no-own-unit)), _);
    resizes = old-resize;
    downs = one-more-down;
    swaps = λ unit now. elim (cons-in (Swap (unit_of_swap plan count)) (with_down count old) (Swap unit)
        (not-first Up (Swap (unit_of_swap plan count) ∷ with_down count old) (Swap unit) (λ same. cc) now)) [
          | inl same ↦ subst (λ u. u < unit_of_swap plan (suc count)) (swap-is _ _ same) (new-unit (ap is_swap_kind is))
          | inr was ↦ down-swap unit was
        ];
  }
    where
      swap-is : (u v : ℕ) → Swap u ≡ Swap v → u ≡ v
      swap-is u v same = cc

-- the same after the events from this one on
asked-after : (plan : Plan) (station : ℕ) (events : List EventPlan) (e : ℕ) (past : List Event)
    → ((k : ℕ) (x : EventPlan) → slice_get events k ≡ Some x → slice_get plan.events (e + k) ≡ Some x) → IsAsked plan station e past
    → IsAsked plan station (e + length events) (after_controls plan station events e past)
asked-after plan station [] e past there h = subst (λ i. IsAsked plan station i past) (let none : e ≡ e + 0 = omega arith in none) h
asked-after plan station (x ∷ xs) e past there h =
    subst (λ i. IsAsked plan station i (after_controls plan station xs (e + 1) (cond (is_at station x) (with_control plan e x.kind past) past))) (let more : (e + 1) + length xs ≡ e + suc (length xs) = omega arith in more)
    (asked-after plan station xs (e + 1) (cond (is_at station x) (with_control plan e x.kind past) past)
    (λ k y at. subst (λ i. slice_get plan.events i ≡ Some y) (let more : e + suc k ≡ (e + 1) + k = omega arith in more) (there (suc k) y at))
    (subst (λ i. IsAsked plan station i (cond (is_at station x) (with_control plan e x.kind past) past)) (let more : suc e ≡ e + 1 = omega arith in more) (go (is_at station x) refl)))
  where
    first : slice_get plan.events e ≡ Some x
    first = subst (λ i. slice_get plan.events i ≡ Some x) (let none : e + 0 ≡ e = omega arith in none) (there 0 x refl)

    go : (b : Bool) → is_at station x ≡ b → IsAsked plan station (suc e) (cond b (with_control plan e x.kind past) past)
    go true here = asked-here plan station e x first past h x.kind refl (x, first, here, refl)
    go false other = asked-elsewhere plan station e x first past h

nothing-asked : (plan : Plan) (station : ℕ) → IsAsked plan station 0 []
nothing-asked plan station = record {
  planned = _;
  resizes = λ e at. absurd (none-in [] e refl at);
  downs = λ e at. absurd (none-in [] e refl at);
  swaps = λ unit at. absurd (none-in [] (Swap unit) refl at);
}

planned-among : (plan : Plan) (station : ℕ) → ArePlannedAmong plan station (planned_controls plan station (length plan.events))
planned-among plan station = subst (λ events. ArePlannedAmong plan station (after_controls plan station events 0 [])) (sym (take_all (length plan.events) plan.events (le_refl (length plan.events))))
    (asked-after plan station plan.events 0 [] (λ k x at. subst (λ i. slice_get plan.events i ≡ Some x) (let same : k ≡ 0 + k = omega arith in same) at) (nothing-asked plan station)).planned

by-plan-has : HasControls is_by_plan
by-plan-has = record { resizes = λ len event. refl; downs = λ event. refl; swaps = λ unit. refl; ups = refl }

-- a list whose events may come, and in which control did just what the plan's events ask, is legal
pub legal-by-controls : (plan : Plan) (infos : List Info) (station : ℕ) (past : List Event) → IsOrderly infos station (start_of plan station) past
    → controls_in past ≡ planned_controls plan station (length plan.events) → IsLegal plan infos station (start_of plan station) past
legal-by-controls plan infos station past orderly controls = record {
  comes = orderly.comes;
  planned = are-planned is_by_plan by-plan-has plan station (start_of plan station) refl past orderly.find_nothing
      (subst (ArePlannedAmong plan station) (sym controls) (planned-among plan station));
}

pub legal-of : (plan : Plan) (infos : List Info) (fates : List Fate) (station : ℕ) (past : List Event) (a : Account) → IsClosed plan infos fates station past a
    → IsLegal plan infos station (start_of plan station) past
legal-of plan infos fates station past a closed = legal-by-controls plan infos station past closed.orderly closed.events
