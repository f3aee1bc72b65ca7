-- A station at its end: its events are legal, and it has its latest unit.
use Rattle.std.proofs.Common.{◌≡◌, inl, inr, ℕ, zero, suc, ◌<◌, true, Bool, cond, List, [], ◌∷◌, length, take, filter, Some, refl, ap, arith, sym, ◌∙◌, subst}
use Rattle.std.specs.Prelude.{slice_get, count_by}
use Rattle.std.proofs.lemmas.List.Sums.{sum_by-cons}
use Rattle.std.proofs.lemmas.Option.{same_Some, slice_get_within}
use Rattle.lq_account_laws.proofs.Controlled.{len-after-controls, len-by-controls}
use Rattle.lq_account_laws.proofs.Trails.{down-is}
use Rattle.lq_account_laws.specs.Controls.{controls_in, planned_controls}
use Rattle.lq_account_laws.specs.Progress.{len_of, start_of}
use Rattle.lq_account_laws.specs.Trail.{trail_of, down_of, IsTrail}
use Rattle.lq_model.specs.Account.{Account, Event, after_all}
use Rattle.lq_model.specs.Plan.{Plan, is_at, is_swap, is_swap_kind, unit_count}
use Rattle.lq_model.specs.Settled.{IsConfiguredWith, IsUnitOf, length_after}
use Rattle.lq_model.specs.declared.device.Params.{Params}
use Rattle.lq_model.specs.declared.fate.Info.{Info}
use Rattle.lq_model.specs.declared.plan.EventPlan.{EventPlan}
use Rattle.lq_table.proofs.UnitsKept.{unit_is_latest, units_trail}
use Rattle.lq_seat.specs.State.{SeatState, setup_of, seat_account, Setup, first_account, latest_unit, units_of}
use Rattle.lq_senders.specs.Ends.{EndsAt}
use Rattle.lq_senders.specs.Units.{unit_at}
use Rattle.lq_senders.specs.Way.{EndsAsPlanned}
use Rattle.lq_senders.proofs.Lists.{take-all}
use Rattle.lq_senders.proofs.Turns.{event-there}

-- A STATION AT ITS END

module _ (plan : Plan) (infos : List Info) (station : ℕ) (v : SeatState) (ends : EndsAt plan infos station v) where
  pub account-at : seat_account v ≡ after_all (start_of plan station) v.whole.past
  account-at = ap (λ (k : Setup). after_all (first_account k) v.whole.past) ends.about

  pub trail-at : IsTrail plan station (trail_of infos v.whole.past)
  trail-at = subst (IsTrail plan station) (sym ends.sound.trail) ends.trail

  -- the station has its latest unit
  pub unit-at-end : (seat_account v).unit ≡ unit_at plan station (length plan.events)
  unit-at-end =
      ap (λ (k : Setup). (after_all (first_account k) v.whole.past).unit) ends.about
      ∙ (unit_is_latest (setup_of plan infos station) v.whole.past
      ∙ (ap (latest_unit station) (sym (units_trail infos v.whole.past) ∙ ap units_of ends.sound.trail) ∙ ends.unit))

  -- and all of its settings are as the plan's events leave them
  pub as-planned : controls_in v.whole.past ≡ planned_controls plan station (length plan.events) → EndsAsPlanned plan station (after_all (start_of plan station) v.whole.past)
  as-planned controls = record {
    down = sym (down-is infos (start_of plan station) refl v.whole.past) ∙ (ap down_of ends.sound.trail ∙ ends.down);
    unit = ap (λ (a : Account). a.unit) (sym account-at) ∙ unit-at-end;
    len =
        len-by-controls (start_of plan station) v.whole.past
        ∙ (ap (λ (l : List Event). (after_all (start_of plan station) l).len) controls
        ∙ (len-after-controls plan station (start_of plan station) (take (length plan.events) plan.events) 0 []
        ∙ ap (λ (events : List EventPlan). length_after (filter (is_at station) events) (len_of plan station)) (take-all plan.events)));
  }

-- COUNTS

abbrev one_where : Bool → ℕ
one_where b = cond b 1 0

-- a place of a list that passes the test is one more than those before it
passes-before : {X : Type 0} (test : X → Bool) (xs : List X) (i : ℕ) (x : X) → slice_get xs i ≡ Some x → test x ≡ true → count_by test (take i xs) < count_by test xs
passes-before test [] i x there is = absurd cc
passes-before test (y ∷ ys) zero x there is =
    let first : one_where (test y) ≡ 1 = ap (λ z. one_where (test z)) (same_Some y x there) ∙ ap one_where is in let sum = sum_by-cons (λ z. cond (test z) 1 0) y ys in omega arith
passes-before test (y ∷ ys) (suc i) x there is =
    let rest = passes-before test ys i x there is in let sum = sum_by-cons (λ z. cond (test z) 1 0) y ys in let sum' = sum_by-cons (λ z. cond (test z) 1 0) y (take i ys) in omega arith

-- UNITS

-- a unit that is configured is one of the plan
pub configured-below : (plan : Plan) (unit : ℕ) (params : Params) → IsConfiguredWith plan unit params → unit < unit_count plan
configured-below plan unit params (inl (s, there, is)) = let below = slice_get_within plan.stations unit s there in omega arith
configured-below plan unit params (inr (station, event, at, brings)) = let passes = passes-before is_swap plan.events event at.0 at.1 (ap is_swap_kind at.3) in omega arith

-- a unit of a station is configured
pub unit-configured : (plan : Plan) (station unit : ℕ) → station < length plan.stations → IsUnitOf plan station unit → (params : Params) × IsConfiguredWith plan unit params
unit-configured plan station unit below (inl first) = let s = event-there plan.stations station below in (s.0.params, inl (s.0, ap (slice_get plan.stations) first ∙ s.1, refl))
unit-configured plan station unit below (inr (event, params, at, is)) = (params, inr (station, event, at, is))
