-- How often a sender opens the stopped queues, and its calls for the plan's events.
use Rattle.std.specs.Prelude.{◌≡◌, ◌<◌, ℕ, ◌==◌, List, length, filter, take, count_by}
use Rattle.std.specs.Coded.{Π_prop, le_prop}
use Rattle.std.specs.List.{sum_by}
use Rattle.lq_device.specs.Multiples.{left_to_multiple}
use Rattle.lq_model.specs.Device.{DeviceState}
use Rattle.lq_model.specs.Numbers.{first_numbers}
use Rattle.lq_model.specs.Plan.{Plan, owner_in}
use Rattle.lq_model.specs.declared.device.Params.{Params}
use Rattle.lq_model.specs.declared.fate.Info.{Info}
use Rattle.lq_model.specs.declared.plan.EventKind.{EventKind}
use Rattle.lq_plan.specs.Openings.{opens_after, opens_within}
use Rattle.lq_plan.specs.declared.openings.Openings.{Openings}
use Rattle.lq_plan.specs.declared.openings.Openings.TheVariants.{Every, Listed, Wired}
use Rattle.lq_seat.specs.Calls.{DoesEvent, DoesSwap}
use Rattle.lq_seat.specs.State.{SeatState}

-- how many of the first n packets are a sender's
abbrev pub count_sent : List Info → ℕ → ℕ → ℕ
count_sent infos sender n = count_by (λ info. info.owner == sender) (take n infos)

-- OPENINGS

-- how often the stopped queues are opened after packet n of these
abbrev pub opens_by : Openings → List Info → ℕ → ℕ
opens_by openings infos n = opens_after openings n (count_sent infos (owner_in infos n) n)

-- this is how often after each of them
abbrev pub OpensAre : Openings → List Info → (ℕ → ℕ) → Type 0
OpensAre openings infos opens = (n : ℕ) → n < length infos → opens_by openings infos n ≡ opens n

-- of each of them that can be looked up
abbrev pub KnowOpenings : Openings → List Info → Type 0
KnowOpenings openings infos = (n : ℕ) → n < length infos → opens_within openings n

within-prop : (openings : Openings) (n : ℕ) → IsProp (opens_within openings n)
within-prop (Every packets) n = le_prop
within-prop (Listed times) n = le_prop
within-prop (Wired times) n = le_prop

-- there is one proof of it at most
pub known-prop : (openings : Openings) (infos : List Info) → IsProp (KnowOpenings openings infos)
known-prop openings infos = Π_prop λ n. Π_prop λ within. within-prop openings n

-- how often they are opened altogether after the packets of a sender among the first n, where it is `opens m` after packet m
abbrev pub openings_of : List Info → (ℕ → ℕ) → ℕ → ℕ → ℕ
openings_of infos opens sender n = sum_by opens (filter (λ m. owner_in infos m == sender) (first_numbers n))

-- where they are opened by the number of a sender's packets, after each so many
abbrev pub packets_each : Openings → ℕ
packets_each (Every packets) = packets
packets_each (Listed times) = 0
packets_each (Wired times) = 0

-- so many packets are left to the next opening by their number, where the sender sent so many
abbrev pub CountsDown : Openings → ℕ → ℕ → Type 0
CountsDown openings sent left = left ≡ left_to_multiple sent (packets_each openings)

-- CALLS FOR THE PLAN'S EVENTS

-- A sender's call at a seat for an event of the plan, which may swap the device.
pub data PlanCall (old new : SeatState) : Type 0 where
  event_done : (plan : Plan) (e : ℕ) (kind : EventKind) → DoesEvent plan e kind old new → PlanCall old new
  swapped : (plan : Plan) (e : ℕ) (params : Params) (came went : DeviceState) → DoesSwap plan e params came went old new → PlanCall old new

-- such calls, one after the other
pub data PlanCalls (old : SeatState) : SeatState → Type 0 where
  not_called : PlanCalls old old
  one_more : (now new : SeatState) → PlanCalls old now → PlanCall now new → PlanCalls old new
