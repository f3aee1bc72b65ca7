-- How far the first sender is with the plan's events at a station.
use Rattle.std.specs.Prelude.{◌≡◌, ◌<◌, ◌≤◌, ℕ, zero, suc, ◌+◌, List, [], ◌∷◌, take, length, filter, slice_get, Option, Some, None, Contains}
use Rattle.lq_account_laws.specs.Progress.{len_of}
use Rattle.lq_account_laws.specs.Trail.{down_of, IsTrail, HaveCome}
use Rattle.lq_model.specs.Account.{Account, Event, Purge, Swap}
use Rattle.lq_model.specs.Legal.{brought_by}
use Rattle.lq_model.specs.Plan.{Plan, after_events, is_at, unit_of_swap}
use Rattle.lq_model.specs.Settled.{down_after, length_after}
use Rattle.lq_model.specs.declared.fate.Cause.TheVariants as cause
use Rattle.lq_model.specs.declared.plan.EventPlan.{EventPlan}
use Rattle.lq_seat.specs.State.{latest_unit, units_of}
use Rattle.lq_senders.specs.Units.{unit_at}

-- the event that leaves the station deactivated after the first so many events of the plan
abbrev pub down_after_events : Plan → ℕ → ℕ → Option ℕ
down_after_events plan station count = after_events (λ e event down. down_after event.kind e down) station (take count plan.events) 0 None

-- the account is as the plan's events leave the station: deactivated by the one that they leave, with its unit and the length of its
-- rings
pub record EndsAsPlanned (plan : Plan) (station : ℕ) (a : Account) : Type 0 where
  pub down : a.down ≡ down_after_events plan station (length plan.events)
  pub unit : a.unit ≡ unit_at plan station (length plan.events)
  pub len : a.len ≡ length_after (filter (is_at station) plan.events) (len_of plan station)

-- the first so many events stand before packet n
abbrev pub StandBefore : Plan → ℕ → ℕ → Type 0
StandBefore plan count n = (k : ℕ) (event : EventPlan) → k < count → slice_get plan.events k ≡ Some event → event.before ≤ n

-- or already before a lower one
abbrev pub StandEarlier : Plan → ℕ → ℕ → Type 0
StandEarlier plan count n = (k : ℕ) (event : EventPlan) → k < count → slice_get plan.events k ≡ Some event → event.before < n

-- the others stand after it
abbrev pub StandAfter : Plan → ℕ → ℕ → Type 0
StandAfter plan count n = (k : ℕ) (event : EventPlan) → count ≤ k → slice_get plan.events k ≡ Some event → n < event.before

-- both
abbrev pub IsSplitAt : Plan → ℕ → ℕ → Type 0
IsSplitAt plan count n = StandBefore plan count n × StandAfter plan count n

-- the first so many events of the plan were done, each where the plan has it among the first sender's packets
pub record IsOnWay (plan : Plan) (station count : ℕ) (trail : List Event) : Type 0 where
  pub planned : IsTrail plan station trail
  pub come : HaveCome plan station count trail
  pub down : down_of trail ≡ down_after_events plan station count
  pub ahead : (m : ℕ) → Contains (brought_by trail) m → (k : ℕ) (event : EventPlan) → count ≤ k → slice_get plan.events k ≡ Some event → m < event.before
  pub unit : latest_unit station (units_of trail) ≡ unit_at plan station count
  pub swaps_below : (unit : ℕ) → Contains trail (Swap unit) → unit < unit_of_swap plan count
  pub no_hang : (unit : ℕ) → Contains trail (Purge (cause.Hung unit)) → ⊥

-- so many numbers from this one on
abbrev pub numbers_from : ℕ → ℕ → List ℕ
numbers_from first zero = []
numbers_from first (suc count) = first ∷ numbers_from (first + 1) count
