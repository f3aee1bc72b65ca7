-- What control does at a station by the plan.
use Rattle.std.specs.Prelude.{ℕ, Bool, true, false, List, [], ◌∷◌, take, filter}
use Rattle.lq_model.specs.Account.{Event, Resize, Down, Purge, Swap, Up}
use Rattle.lq_model.specs.Plan.{Plan, after_events, unit_of_swap}
use Rattle.lq_model.specs.declared.fate.Cause.TheVariants as cause
use Rattle.lq_model.specs.declared.plan.EventKind.{EventKind}
use Rattle.lq_model.specs.declared.plan.EventKind.TheVariants as kind

-- what control does by the plan: all of its events but the purge of what a hung device left
abbrev pub is_by_plan : Event → Bool
is_by_plan (Resize len event) = true
is_by_plan (Down event) = true
is_by_plan (Purge (cause.Event event)) = true
is_by_plan (Swap unit) = true
is_by_plan Up = true
is_by_plan event = false

abbrev pub controls_in : List Event → List Event
controls_in past = filter is_by_plan past

-- ONE EVENT OF THE PLAN
--
-- After a list of events, the latest first, control does what an event of the plan asks.

-- it deactivates the station and purges what is held
abbrev pub with_down : ℕ → List Event → List Event
with_down event past = Purge (cause.Event event) ∷ Down event ∷ past

abbrev pub with_control : Plan → ℕ → EventKind → List Event → List Event
with_control plan event kind.Down past = with_down event past
with_control plan event kind.Up past = Up ∷ past
with_control plan event (kind.Resize len) past = Resize len event ∷ past
with_control plan event (kind.TxQueueLen len) past = Up ∷ Resize len event ∷ with_down event past
with_control plan event (kind.Swap params) past = Up ∷ Swap (unit_of_swap plan event) ∷ with_down event past

-- ALL OF THEM

-- what the first so many events of the plan ask at the station, the latest first
abbrev pub planned_controls : Plan → ℕ → ℕ → List Event
planned_controls plan station count = after_events (λ e event past. with_control plan e event.kind past) station (take count plan.events) 0 []
