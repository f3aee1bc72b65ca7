-- Which units a station used, and what keeps it deactivated.
use Rattle.std.proofs.Common.{◌≡◌, ℕ, ◌<◌, ◌≤◌, zero, suc, Bool, List, [], ◌∷◌, ◌⊎◌, inl, inr, take, length, count_by, filter_map, Contains, Some, None, refl, sym, ap, ◌∙◌, subst, slice_get, arith, cond}
use Rattle.std.proofs.lemmas.Option.{same_Some}
use Rattle.std.proofs.lemmas.List.Sums.{sum_by-cons}
use Rattle.lq_model.specs.Account.{Account, Event, Down, Swap, new_account, after}
use Rattle.lq_model.specs.Legal.{down_event, MayCome, IsPlanned, IsPlannedDown}
use Rattle.lq_model.specs.Plan.{Plan, is_swap, unit_of_swap}
use Rattle.lq_model.specs.Settled.{IsUnitOf}
use Rattle.lq_model.specs.declared.fate.Info.{Info}
use Rattle.lq_account_laws.proofs.Lists.{none-in, cons-in, mapped-before, mapped-now, mapped-cases}
use Rattle.lq_account_laws.proofs.Changes.{Sends, unit-cases, down-cases, sent-cases}
use Rattle.lq_account_laws.proofs.Changes.Sends.{sends}

-- the events that deactivated the station
abbrev pub downs : List Event → List ℕ
downs past = filter_map down_event past

is-down : (e : Event) (event : ℕ) → down_event e ≡ Some event → e ≡ Down event
is-down (Down k) event h = ap Down (same_Some k event h)
is-down e event h = absurd cc

-- a count over a longer prefix is no lower
counts-rise : {X : Type 0} (test : X → Bool) (xs : List X) (i j : ℕ) → i ≤ j → count_by test (take i xs) ≤ count_by test (take j xs)
counts-rise test xs zero j below = omega arith
counts-rise test [] (suc i) j below = omega arith
counts-rise test (x ∷ xs) (suc i) zero below = absurd (omega arith)
counts-rise test (x ∷ xs) (suc i) (suc j) below =
    let left = sum_by-cons (λ z. cond (test z) 1 0) x (take i xs) in let right = sum_by-cons (λ z. cond (test z) 1 0) x (take j xs) in
    let rest = counts-rise test xs i j (omega arith) in omega arith

-- an event keeps the station deactivated: it is planned, it came, and none came after it
pub record IsLastDown (plan : Plan) (station : ℕ) (past : List Event) (event : ℕ) : Type 0 where
  pub planned : IsPlannedDown plan station event
  pub came : Contains (downs past) event
  pub last : (e : ℕ) → Contains (downs past) e → e ≤ event

pub record AreUsed (plan : Plan) (station : ℕ) (past : List Event) (a : Account) : Type 0 where
  pub down : (event : ℕ) → a.down ≡ Some event → IsLastDown plan station past event
  -- the present unit is the first, or one that a swap brought
  pub unit : IsUnitOf plan station a.unit
  pub present : (a.unit ≡ station) ⊎ ((event : ℕ) × (a.unit ≡ unit_of_swap plan event) × Contains (downs past) event)
  -- it is the latest
  pub least : station ≤ a.unit
  pub swaps : (u : ℕ) → Contains past (Swap u) → u ≤ a.unit
  pub sent : (u s n : ℕ) → slice_get (a.sent u) s ≡ Some n → (u ≤ a.unit) × IsUnitOf plan station u

pub used-start : (plan : Plan) (station len queues : ℕ) → AreUsed plan station [] (new_account len station queues)
used-start plan station len queues = record {
  down = λ event h. absurd cc;
  unit = inl refl;
  present = inl refl;
  least = omega arith;
  swaps = λ u h. absurd (none-in [] (Swap u) refl h);
  sent = λ u s n h. absurd cc;
}

module _ (plan : Plan) (infos : List Info) (station : ℕ) (past : List Event) (a : Account) (inside : station < length plan.stations) (h : AreUsed plan station past a) where
  no-other-down : (e : Event) → MayCome infos station past a e → (event k : ℕ) → a.down ≡ Some event → down_event e ≡ Some k → k ≤ event
  no-other-down e may event k down is = let none : a.down ≡ None = subst (λ e. MayCome infos station past a e) (is-down e k is) may in absurd cc

  old-down : (e : Event) → MayCome infos station past a e → (event : ℕ) → a.down ≡ Some event → IsLastDown plan station (e ∷ past) event
  old-down e may event down =
      let was = h.down event down in
      record {
        planned = was.planned;
        came = mapped-before down_event e past event was.came;
        last = λ k here. elim (mapped-cases down_event e past k here) [ inl old ↦ was.last k old | inr new ↦ no-other-down e may event k down new ];
      }

  new-down : (event : ℕ) → IsPlanned plan station past a (Down event) → IsLastDown plan station (Down event ∷ past) event
  new-down event plans = record {
    planned = plans.1;
    came = mapped-now down_event (Down event) past event refl;
    last = λ k here. elim (mapped-cases down_event (Down event) past k here) [
      | inl old ↦ let below = plans.0.after_downs k old in omega arith
      | inr new ↦ let same : event ≡ k = same_Some event k new in omega arith
    ];
  }

  -- the unit that a swap brings is a later one
  later : (u : ℕ) → IsPlanned plan station past a (Swap u) → a.unit ≤ u
  later u plans = go h.present
    where
      go : (a.unit ≡ station) ⊎ ((event : ℕ) × (a.unit ≡ unit_of_swap plan event) × Contains (downs past) event) → a.unit ≤ u
      go (inl first) = let is = plans.3 in omega arith
      go (inr (event, is, came)) =
          let below : event ≤ plans.0 = (h.down plans.0 plans.1).last event came in
          let rise = counts-rise is_swap plan.events event plans.0 below in let now = plans.3 in omega arith

  pub unit-grows : (e : Event) → IsPlanned plan station past a e → a.unit ≤ (after e a).unit
  unit-grows e plans = elim (unit-cases e a) [
    | inl same ↦ omega arith
    | inr swap ↦ subst (λ e. a.unit ≤ (after e a).unit) (sym swap.1) (later swap.0 (subst (λ e. IsPlanned plan station past a e) swap.1 plans))
  ]

  unit-step : (e : Event) → IsPlanned plan station past a e → IsUnitOf plan station (after e a).unit
  unit-step e plans = elim (unit-cases e a) [
    | inl same ↦ subst (IsUnitOf plan station) (sym same) h.unit
    | inr swap ↦ subst (λ e. IsUnitOf plan station (after e a).unit) (sym swap.1) (brings swap.0 (subst (λ e. IsPlanned plan station past a e) swap.1 plans))
  ]
    where
      brings : (u : ℕ) → IsPlanned plan station past a (Swap u) → IsUnitOf plan station u
      brings u plans = inr (plans.0, plans.2.0, plans.2.1, plans.3)

  present-step : (e : Event) → IsPlanned plan station past a e → ((after e a).unit ≡ station) ⊎ ((event : ℕ) × ((after e a).unit ≡ unit_of_swap plan event) × Contains (downs (e ∷ past)) event)
  present-step e plans = elim (unit-cases e a) [
    | inl same ↦ elim h.present [
      | inl first ↦ inl (same ∙ first)
      | inr swap ↦ inr (swap.0, same ∙ swap.1, mapped-before down_event e past swap.0 swap.2)
    ]
    | inr swap ↦ subst (λ e. ((after e a).unit ≡ station) ⊎ ((event : ℕ) × ((after e a).unit ≡ unit_of_swap plan event) × Contains (downs (e ∷ past)) event)) (sym swap.1) (brings swap.0 (subst (λ e. IsPlanned plan station past a e) swap.1 plans))
  ]
    where
      brings : (u : ℕ) → IsPlanned plan station past a (Swap u) → (u ≡ station) ⊎ ((event : ℕ) × (u ≡ unit_of_swap plan event) × Contains (downs past) event)
      brings u plans = inr (plans.0, plans.3, (h.down plans.0 plans.1).came)

  sent-step : (e : Event) (u s n : ℕ) → Sends a e u s n → (u ≤ a.unit) × IsUnitOf plan station u
  sent-step e u s n (sends m v t hand unit serial) = (omega arith, subst (IsUnitOf plan station) (sym unit) h.unit)

  pub used-step : (e : Event) → MayCome infos station past a e → IsPlanned plan station past a e → AreUsed plan station (e ∷ past) (after e a)
  used-step e may plans = record {
    down = λ event down. elim (down-cases e a event down) [
      | inl old ↦ old-down e may event old
      | inr new ↦ subst (λ e. IsLastDown plan station (e ∷ past) event) (sym new) (new-down event (subst (λ e. IsPlanned plan station past a e) new plans))
    ];
    unit = unit-step e plans;
    present = present-step e plans;
    least = let old = h.least in let grows = unit-grows e plans in omega arith;
    swaps = λ u here. elim (cons-in e past (Swap u) here) [
      | inl now ↦ subst (λ e. u ≤ (after e a).unit) (sym now) (omega arith)
      | inr old ↦ let was = h.swaps u old in let grows = unit-grows e plans in omega arith
    ];
    sent = λ u s n here. let was : (u ≤ a.unit) × IsUnitOf plan station u = elim (sent-cases e a u s n here) [ inl old ↦ h.sent u s n old | inr new ↦ sent-step e u s n new ] in
        let grows = unit-grows e plans in (omega arith, was.1);
  }
