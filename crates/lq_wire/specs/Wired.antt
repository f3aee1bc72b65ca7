-- A station with its card, as code has them.
use Rattle.std.specs.Prelude.{◌≡◌, ◌<◌, ℕ, ◌+◌, Bool, true, false, if◌then◌else◌, List, [], ◌++◌, Some, slice_get}
use Rattle.lq_model.specs.Alone.{RunningStation}
use Rattle.lq_model.specs.Capture.{Packets}
use Rattle.lq_model.specs.Plan.{Plan, is_at, is_swap_kind}
use Rattle.lq_model.specs.Wire.{OpenedSoFar, Wired, after_wired, first_wired, interrupted_while, opened_while, openings_of_card, sent_now, made_at, turned}
use Rattle.lq_model.specs.declared.fate.Info.{Info}
use Rattle.lq_model.specs.declared.plan.Card.{Card}
use Rattle.lq_model.specs.declared.plan.EventPlan.{EventPlan}
use Rattle.lq_model.specs.declared.plan.StationPlan.{StationPlan}
use Rattle.lq_lone.specs.Lone.{IsLone, lone_state, waiting}
use Rattle.lq_wire.specs.declared.wire.Wire.{Wire}
use Rattle.lq_wire.specs.declared.wired.Wired.{Wired as Linked}

-- it is the ring and the wire of this one
pub record IsWire (m : Wire) (w : Wired) : Type 0 where
  pub ring : m.ring.items ≡ w.ring
  pub free : m.free ≡ w.free
  pub flights : m.untold.items ≡ w.flights

-- it is this station with its card
pub record IsWired (m : Linked) (w : Wired) : Type 0 where
  pub station : IsLone (lone_state m.station) w.station
  pub wire : IsWire m.wire w

-- how many packets wait or were accepted
abbrev pub load : Linked → ℕ
load m = waiting (lone_state m.station) + m.wire.accepted

-- 1 of a queue that is stopped
abbrev pub stop_count : Linked → ℕ
stop_count m = if m.station.stopped then 1 else 0

-- a step of the station at a moment leads to it; the step sent these packets
pub record StepsTo (card : Card) (packets : Packets) (now : ℕ) (step : RunningStation → RunningStation) (w : Wired) (m : Linked) : Type 0 where
  pub wired : IsWired m (made_at card packets now step w)
  pub more : List ℕ
  pub sent : sent_now (step w.station) ≡ sent_now w.station ++ more

-- what was opened so often is it
pub record HasOpened (last first : OpenedSoFar) (count : ℕ) (m : Linked) : Type 0 where
  pub wired : IsWired m last.wired
  pub times : last.times ≡ first.times + count

-- so many openings, or interrupts, are left at most, and lead from here to the end
pub record OpensOn (card : Card) (packets : Packets) (infos : List Info) (now : ℕ) (last first : OpenedSoFar) (left count : ℕ) (m : Linked) : Type 0 where
  pub here : OpenedSoFar
  pub same : last ≡ opened_while card packets infos now left here
  pub opened : HasOpened here first count m

pub record InterruptsOn (card : Card) (packets : Packets) (infos : List Info) (due : ℕ → Bool) (last first : OpenedSoFar) (left count : ℕ) (m : Linked) : Type 0 where
  pub here : OpenedSoFar
  pub same : last ≡ interrupted_while card packets infos due left here
  pub opened : HasOpened here first count m

-- THE STATION OF A PLAN

-- one queue, and a device that stops it at each packet
pub record HasOneStop (s : StationPlan) : Type 0 where
  pub queues : s.queues ≡ 1
  pub burst : s.params.burst ≡ 1
  pub never_busy : s.params.busy_every ≡ 0
  pub never_hangs : s.params.hang_after ≡ 0

-- all events are done to the station, and none swaps its device
pub record AreForCard (plan : Plan) : Type 0 where
  pub at : (e : ℕ) (event : EventPlan) → slice_get plan.events e ≡ Some event → is_at 0 event ≡ true
  pub no_swap : (e : ℕ) (event : EventPlan) → slice_get plan.events e ≡ Some event → is_swap_kind event.kind ≡ false

-- the station with its card, of which no packet was told
abbrev pub none_told : Wired → Wired
none_told w = record w { flights = [] }

-- behind packet n the queue is opened so often, and it is what packet n and the openings made of the station, if there is a next packet
pub record HasTurned (card : Card) (plan : Plan) (packets : Packets) (infos : List Info) (station : StationPlan) (n times : ℕ) (m : Linked) : Type 0 where
  pub opens : times ≡ openings_of_card card plan packets infos n
  pub next : n + 1 < packets.count → IsWired m (turned card plan packets infos n (none_told (after_wired card plan packets infos (first_wired station) n))).wired
