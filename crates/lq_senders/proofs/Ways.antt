-- How far the first sender is with the plan's events.
use Rattle.std.proofs.Common.{◌≡◌, ℕ, suc, ◌+◌, ◌<◌, true, false, cond, List, [], ◌∷◌, ◌⊎◌, inl, inr, Contains, Some, None, refl, sym, ap, ◌∙◌, subst, slice_get, arith}
use Rattle.std.proofs.lemmas.Bool.{cases_order}
use Rattle.std.proofs.lemmas.Option.{same_Some}
use Rattle.lq_model.specs.Account.{Event, Join, Full, Refuse, Direct, Resize, Down, Purge, Swap, Up}
use Rattle.lq_model.specs.Legal.{brought, brought_by}
use Rattle.lq_model.specs.Plan.{Plan, is_at, is_swap, is_swap_kind, unit_of_swap}
use Rattle.lq_model.specs.Settled.{IsBehind, down_after, down_at}
use Rattle.lq_model.specs.declared.fate.Cause.TheVariants as cause
use Rattle.lq_model.specs.declared.plan.EventKind.{EventKind}
use Rattle.lq_model.specs.declared.plan.EventKind.TheVariants as kind
use Rattle.lq_model.specs.declared.plan.EventPlan.{EventPlan}
use Rattle.lq_account_laws.proofs.Controlled.{no-swap-in-downs, not-first}
use Rattle.lq_account_laws.proofs.Lists.{none-in, cons-in}
use Rattle.lq_account_laws.proofs.Brought.{brought-cases}
use Rattle.lq_account_laws.specs.Trail.{IsTrail, IsTrailNext, MeetsDown, down_of}
use Rattle.lq_account_laws.specs.Controls.{controls_in, is_by_plan, with_control, with_down}
use Rattle.lq_seat.specs.Calls.{refused_by, Came, MayDoEvent}
use Rattle.lq_seat.specs.State.{latest_unit, units_of}
use Rattle.lq_senders.specs.Way.{IsOnWay, IsSplitAt}
use Rattle.lq_account_laws.proofs.Units.{unit-more, unit-rises}
use Rattle.lq_senders.proofs.Units.{unit-elsewhere, unit-here}
use Rattle.lq_senders.proofs.Orders.{controls-elsewhere, controls-here, down-split, down-here, down-elsewhere}

pub way-start : (plan : Plan) (station : ℕ) → IsOnWay plan station 0 []
way-start plan station = record {
  planned = _;
  come = refl;
  down = refl;
  ahead = λ m h. absurd (none-in [] m refl h);
  unit = refl;
  swaps_below = λ u h. absurd (none-in [] (Swap u) refl h);
  no_hang = λ u h. absurd (none-in [] (Purge (cause.Hung u)) refl h);
}

pub below-or-at : (e count : ℕ) → e < suc count → (e < count) ⊎ (e ≡ count)
below-or-at e count h = elim (cases_order e count) [ inl same ↦ inr same | inr (inl below) ↦ inl below | inr (inr above) ↦ absurd (omega arith) ]

purge-apart : (event unit : ℕ) → Purge (cause.Event event) ≡ Purge (cause.Hung unit) → ⊥
purge-apart event unit same = cc

not-downs : (event unit : ℕ) (past : List Event) → Contains (with_down event past) (Purge (cause.Hung unit)) → Contains past (Purge (cause.Hung unit))
not-downs event unit past h = not-first (Down event) past (Purge (cause.Hung unit)) (λ same. cc) (not-first (Purge (cause.Event event)) (Down event ∷ past) (Purge (cause.Hung unit)) (purge-apart event unit) h)

swap-is : (u v : ℕ) → Swap u ≡ Swap v → u ≡ v
swap-is u v same = cc

module _ (plan : Plan) (station count : ℕ) (event : EventPlan) (there : slice_get plan.events count ≡ Some event) where
  -- an event of another station
  pub way-elsewhere : (trail : List Event) → is_at station event ≡ false → IsOnWay plan station count trail → IsOnWay plan station (suc count) trail
  way-elsewhere trail other way = record {
    planned = way.planned;
    come = way.come ∙ sym (controls-elsewhere plan station count event there other);
    down = way.down ∙ sym (down-elsewhere plan station count event there other);
    ahead = λ m h k late above at. way.ahead m h k late (omega arith) at;
    unit = way.unit ∙ sym (unit-elsewhere plan station count event there other);
    swaps_below = λ unit h. unit-rises plan count unit event there (way.swaps_below unit h);
    no_hang = way.no_hang;
  }

  module _ (here : is_at station event ≡ true) (old : List Event) (way : IsOnWay plan station count old) where
    behind : (m : ℕ) → Contains (brought_by old) m → IsBehind plan m count
    behind m h = (event, there, way.ahead m h count event (omega arith) there)

    -- what all kinds share
    way-makes : (new : List Event) → IsTrail plan station new
        → brought_by new ≡ brought_by old
        → ((unit : ℕ) → Contains new (Purge (cause.Hung unit)) → Contains old (Purge (cause.Hung unit)))
        → ((unit : ℕ) → Contains new (Swap unit) → Contains old (Swap unit) ⊎ ((unit ≡ unit_of_swap plan count) × (is_swap event ≡ true)))
        → latest_unit station (units_of new) ≡ cond (is_swap event) (unit_of_swap plan count) (latest_unit station (units_of old))
        → down_of new ≡ down_after event.kind count (down_of old)
        → controls_in new ≡ with_control plan count event.kind (controls_in old)
        → IsOnWay plan station (suc count) new
    way-makes new planned same_brought hangs swaps_are unit_is down controls = record {
      planned = planned;
      come = controls ∙ (ap (with_control plan count event.kind) way.come ∙ sym (controls-here plan station count event there here));
      down = down ∙ (ap (down_after event.kind count) way.down ∙ sym (down-here plan station count event there here));
      ahead = λ m h k late above at. way.ahead m (subst (λ l. Contains l m) same_brought h) k late (omega arith) at;
      unit = unit_is ∙ (ap (λ u. cond (is_swap event) (unit_of_swap plan count) u) way.unit ∙ sym (unit-here plan station count event there here));
      swaps_below = λ unit h. elim (swaps_are unit h) [
        | inl was ↦ unit-rises plan count unit event there (way.swaps_below unit was)
        | inr now ↦ (let more : unit_of_swap plan (suc count) ≡ unit_of_swap plan count + 1 = unit-more plan count event there true now.1 in let same = now.0 in omega arith)
      ];
      no_hang = λ unit h. way.no_hang unit (hangs unit h);
    }

    trail-down : IsTrail plan station (with_down count old)
    trail-down = ((way.planned, record { ahead = _; meets_down = _; no_hang = _ }), record { ahead = λ m h. behind m h; meets_down = _; no_hang = _ })

    -- an event of this station
    pub way-event : (k : EventKind) → event.kind ≡ k → MayDoEvent k old → IsOnWay plan station (suc count) (with_control plan count k old)
    way-event kind.Down is may = way-makes (with_control plan count kind.Down old)
        trail-down refl
        (λ unit h. not-downs count unit old h) (λ unit h. inl (no-swap-in-downs count unit old h)) (ap (λ z. cond (is_swap_kind z) (unit_of_swap plan count) (latest_unit station (units_of old))) (sym is)) (ap (λ z. down_after z count (down_of old)) (sym is)) (ap (λ z. with_control plan count z (controls_in old)) (sym is))
    way-event kind.Up is may = way-makes (with_control plan count kind.Up old)
        (way.planned, record { ahead = _; meets_down = _; no_hang = _ }) refl
        (λ unit h. not-first Up old (Purge (cause.Hung unit)) (λ same. cc) h) (λ unit h. inl (not-first Up old (Swap unit) (λ same. cc) h)) (ap (λ z. cond (is_swap_kind z) (unit_of_swap plan count) (latest_unit station (units_of old))) (sym is)) (ap (λ z. down_after z count (down_of old)) (sym is)) (ap (λ z. with_control plan count z (controls_in old)) (sym is))
    way-event (kind.Resize len) is may = way-makes (with_control plan count (kind.Resize len) old)
        (way.planned, record { ahead = λ m h. behind m h; meets_down = _; no_hang = _ }) refl
        (λ unit h. not-first (Resize len count) old (Purge (cause.Hung unit)) (λ same. cc) h) (λ unit h. inl (not-first (Resize len count) old (Swap unit) (λ same. cc) h)) (ap (λ z. cond (is_swap_kind z) (unit_of_swap plan count) (latest_unit station (units_of old))) (sym is)) (ap (λ z. down_after z count (down_of old)) (sym is)) (ap (λ z. with_control plan count z (controls_in old)) (sym is))
    way-event (kind.TxQueueLen len) is may = way-makes (with_control plan count (kind.TxQueueLen len) old)
        ((trail-down, record { ahead = λ m h. behind m h; meets_down = _; no_hang = _ }), record { ahead = _; meets_down = _; no_hang = _ }) refl
        (λ unit h. not-downs count unit old (not-first (Resize len count) (with_down count old) (Purge (cause.Hung unit)) (λ same. cc) (not-first Up (Resize len count ∷ with_down count old) (Purge (cause.Hung unit)) (λ same. cc) h))) (λ unit h. inl (no-swap-in-downs count unit old (not-first (Resize len count) (with_down count old) (Swap unit) (λ same. cc) (not-first Up (Resize len count ∷ with_down count old) (Swap unit) (λ same. cc) h)))) (ap (λ z. cond (is_swap_kind z) (unit_of_swap plan count) (latest_unit station (units_of old))) (sym is)) trans-down (ap (λ z. with_control plan count z (controls_in old)) (sym is))
      where
        trans-down : None ≡ down_after event.kind count (down_of old)
        trans-down = sym may ∙ ap (λ z. down_after z count (down_of old)) (sym is)
    way-event (kind.Swap params) is may = way-makes (with_control plan count (kind.Swap params) old)
        ((trail-down, record { ahead = _; meets_down = _; no_hang = λ unit h. way.no_hang unit (not-downs count unit old h) }), record { ahead = _; meets_down = _; no_hang = _ }) refl
        (λ unit h. not-downs count unit old (not-first (Swap u) (with_down count old) (Purge (cause.Hung unit)) (λ same. cc) (not-first Up (Swap u ∷ with_down count old) (Purge (cause.Hung unit)) (λ same. cc) h)))
        (λ unit h. elim (cons-in (Swap u) (with_down count old) (Swap unit) (not-first Up (Swap u ∷ with_down count old) (Swap unit) (λ same. cc) h)) [
          | inl same ↦ inr (sym (swap-is u unit same), ap is_swap_kind is)
          | inr was ↦ inl (no-swap-in-downs count unit old was)
        ])
        (ap (λ z. cond (is_swap_kind z) (unit_of_swap plan count) (latest_unit station (units_of old))) (sym is))
        (sym may ∙ ap (λ z. down_after z count (down_of old)) (sym is)) (ap (λ z. with_control plan count z (controls_in old)) (sym is))
      where
        u : ℕ
        u = unit_of_swap plan count

-- A PACKET

meets : (plan : Plan) (station n : ℕ) (e : Event) → brought e ≡ Some n → down_at plan station n ≡ refused_by e → MeetsDown plan station e
meets plan station n (Join m band) is down = subst (λ i. down_at plan station i ≡ None) (sym (same_Some m n is)) down
meets plan station n (Full m seen) is down = subst (λ i. down_at plan station i ≡ None) (sym (same_Some m n is)) down
meets plan station n (Direct m) is down = subst (λ i. down_at plan station i ≡ None) (sym (same_Some m n is)) down
meets plan station n (Refuse m event) is down = subst (λ i. down_at plan station i ≡ Some event) (sym (same_Some m n is)) down
meets plan station n e is down = absurd cc

-- what brings a packet is none of control's
data IsNoControl (e : Event) : Type 0 where
  no_control : ((trail : List Event) → down_of (e ∷ trail) ≡ down_of trail) → ((unit : ℕ) → e ≡ Purge (cause.Hung unit) → ⊥) → ((unit : ℕ) → e ≡ Swap unit → ⊥) → ((trail : List Event) → units_of (e ∷ trail) ≡ units_of trail) → is_by_plan e ≡ false → IsNoControl e

brings-no-control : (e : Event) (n : ℕ) → brought e ≡ Some n → IsNoControl e
brings-no-control (Join m band) n is = no_control (λ t. refl) (λ unit same. cc) (λ unit same. cc) (λ t. refl) refl
brings-no-control (Full m seen) n is = no_control (λ t. refl) (λ unit same. cc) (λ unit same. cc) (λ t. refl) refl
brings-no-control (Refuse m event) n is = no_control (λ t. refl) (λ unit same. cc) (λ unit same. cc) (λ t. refl) refl
brings-no-control (Direct m) n is = no_control (λ t. refl) (λ unit same. cc) (λ unit same. cc) (λ t. refl) refl
brings-no-control e n is = absurd cc

pub way-packet : (plan : Plan) (station count n : ℕ) (old new : List Event) → IsOnWay plan station count old → IsSplitAt plan count n → Came n old new → IsOnWay plan station count new
way-packet plan station count n old new way split came = subst (IsOnWay plan station count) (sym came.trail) (go (brings-no-control e n came.brings))
  where
    e : Event
    e = came.event

    meets-down : MeetsDown plan station e
    meets-down = meets plan station n e came.brings (down-split plan station count n split ∙ (sym way.down ∙ came.refused))

    next : (e : Event) → brought e ≡ Some n → MeetsDown plan station e → IsTrailNext plan station old e
    next (Join m band) is down = record { ahead = _; meets_down = down; no_hang = _ }
    next (Full m seen) is down = record { ahead = _; meets_down = down; no_hang = _ }
    next (Refuse m event) is down = record { ahead = _; meets_down = down; no_hang = _ }
    next (Direct m) is down = record { ahead = _; meets_down = down; no_hang = _ }
    next e is down = absurd cc

    go : IsNoControl e → IsOnWay plan station count (e ∷ old)
    go (no_control same-down no-purge no-swap same-units no-plan) = record {
      planned = (way.planned, next e came.brings meets-down);
      come = ap (λ b. cond b (e ∷ controls_in old) (controls_in old)) no-plan ∙ way.come;
      down = same-down old ∙ way.down;
      ahead = λ m h k late above at. elim (brought-cases e old m h) [
        | inl was ↦ way.ahead m was k late above at
        | inr now ↦ subst (λ i. i < late.before) (same_Some n m (sym came.brings ∙ now)) (split.1 k late above at)
      ];
      unit = ap (latest_unit station) (same-units old) ∙ way.unit;
      swaps_below = λ unit h. elim (cons-in e old (Swap unit) h) [ inl same ↦ absurd (no-swap unit same) | inr was ↦ way.swaps_below unit was ];
      no_hang = λ unit h. elim (cons-in e old (Purge (cause.Hung unit)) h) [ inl same ↦ absurd (no-purge unit same) | inr was ↦ way.no_hang unit was ];
    }
