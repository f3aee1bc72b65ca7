-- What a card on a wire does to its station.
use Rattle.std.specs.Prelude.{◌≡◌, ◌<◌, ◌+◌, max, ℕ, zero, suc, Bool, true, false, List, [], ◌∷◌, length, None, Some, slice_get}
use Rattle.lq_model.specs.Account.{held}
use Rattle.lq_model.specs.Alone.{RunningStation, after_packets, new_stations, opened, served}
use Rattle.lq_model.specs.Capture.{Packets}
use Rattle.lq_model.specs.Plan.{Plan, band_in, is_at, is_swap_kind, queue_in, station_in}
use Rattle.lq_model.specs.Wire.{Wired, after_wired, come, first_wired, flights_of_card, interrupted_while, openings_of_card, ring_has_room, turned, wire_time, wired_with}
use Rattle.lq_model.specs.declared.fate.Info.{Info}
use Rattle.lq_model.specs.declared.flight.Flight.{Flight}
use Rattle.lq_model.specs.declared.plan.Card.{Card}
use Rattle.lq_model.specs.declared.plan.EventPlan.{EventPlan}
use Rattle.lq_model.specs.declared.plan.StationPlan.{StationPlan}

-- opened and served so many times
abbrev pub reopened : List Info → ℕ → RunningStation → RunningStation
reopened infos zero s = s
reopened infos (suc times) s = served infos (opened (reopened infos times s))

-- behind a packet a card opens its station just as often as is counted, and does nothing else to it
abbrev pub OpensSoOften : Type 0
OpensSoOften = (card : Card) (plan : Plan) (packets : Packets) (infos : List Info) (n : ℕ) (w : Wired)
    → (turned card plan packets infos n w).wired.station ≡ reopened infos (turned card plan packets infos n w).times (wired_with card plan packets infos n w).station

-- a plan of one station, to which all events are done and all packets go
pub record HasOneStation (plan : Plan) (infos : List Info) (station : StationPlan) : Type 0 where
  pub stations : plan.stations ≡ station ∷ []
  pub events : (e : ℕ) (event : EventPlan) → slice_get plan.events e ≡ Some event → is_at 0 event ≡ true
  pub packets : (n : ℕ) → station_in infos n ≡ 0

-- whose device stops its queue at each packet, and isn't swapped; and each packet has a band
pub record FitsCard (plan : Plan) (infos : List Info) (station : StationPlan) : Type 0 where
  pub one : HasOneStation plan infos station
  pub some : 0 < station.len
  pub queues : station.queues ≡ 1
  pub burst : station.params.burst ≡ 1
  pub never_busy : station.params.busy_every ≡ 0
  pub never_hangs : station.params.hang_after ≡ 0
  pub no_swap : (e : ℕ) (event : EventPlan) → slice_get plan.events e ≡ Some event → is_swap_kind event.kind ≡ false
  pub bands : (n : ℕ) → band_in infos n < 3
  pub first_queue : (n : ℕ) → queue_in infos n ≡ 0

-- the station of the card is that of the run of one sender whose queues are opened as the card opens them
abbrev pub RunsBeside : Type 0
RunsBeside = (card : Card) (plan : Plan) (packets : Packets) (infos : List Info) (station : StationPlan) → FitsCard plan infos station
    → (n : ℕ) → n < packets.count
    → after_packets plan infos (openings_of_card card plan packets infos) (λ m. true) (new_stations 0 plan.stations) n ≡ (after_wired card plan packets infos (first_wired station) n).station ∷ []

-- each frame begins when it is accepted, or when the frame before it ends, whichever is later, and takes the time of its bytes; before the first one the wire is free
-- from a moment on
abbrev pub AreInTurn : Card → ℕ → List Flight → Type 0
AreInTurn card free [] = Unit {0}
AreInTurn card free (flight ∷ flights) =
    (flight.begins ≡ max flight.accepted free) × (flight.ends ≡ flight.begins + wire_time card flight.length) × AreInTurn card flight.ends flights

-- so the wire has never two frames at once, and doesn't wait while an accepted one is there
abbrev pub NeverTwoAtOnce : Type 0
NeverTwoAtOnce = (card : Card) (plan : Plan) (packets : Packets) (infos : List Info) → AreInTurn card 0 (flights_of_card card plan packets infos)

-- a packet waits in an active station only while the driver has no room for one
abbrev pub WaitsForRoom : Card → Wired → Type 0
WaitsForRoom card w = w.station.account.down ≡ None → 0 < length (held w.station.account) → ring_has_room card w.ring ≡ false

-- So it is at each packet, once its queue was opened while there was room, and behind each interrupt that follows, whichever are due and however many.
abbrev pub WaitsOnlyForRoom : Type 0
WaitsOnlyForRoom = (card : Card) (plan : Plan) (packets : Packets) (infos : List Info) (station : StationPlan) → FitsCard plan infos station → (n : ℕ) (due : ℕ → Bool) (more : ℕ)
    → WaitsForRoom card (interrupted_while card packets infos due more (come card plan packets infos n (after_wired card plan packets infos (first_wired station) n))).wired
