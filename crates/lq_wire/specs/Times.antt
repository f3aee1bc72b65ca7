-- The packets that a card accepted, told turn by turn.
use Rattle.std.specs.Prelude.{◌≡◌, ◌<◌, ◌≤◌, ℕ, ◌+◌, nat_lt, if◌then◌else◌, List, drop, length}
use Rattle.lq_model.specs.Alone.{bypass_of}
use Rattle.lq_model.specs.Capture.{Packets}
use Rattle.lq_model.specs.Plan.{Plan}
use Rattle.lq_model.specs.Texts.{times_text}
use Rattle.lq_model.specs.Wire.{after_wired, finished_wired, first_wired, flights_of_card, turned}
use Rattle.lq_model.specs.declared.fate.Info.{Info}
use Rattle.lq_model.specs.declared.flight.Flight.{Flight}
use Rattle.lq_model.specs.declared.plan.Card.{Card}
use Rattle.lq_model.specs.declared.plan.StationPlan.{StationPlan}
use Rattle.lq_wire.specs.Wired.{IsWired, load, none_told}
use Rattle.lq_wire.specs.declared.times.Times.{Times}

-- the packets that were accepted before packet n came; behind the last packet all of them
abbrev pub flights_before : Card → Plan → Packets → List Info → StationPlan → ℕ → List Flight
flights_before card plan packets infos station n =
    if nat_lt n packets.count then (after_wired card plan packets infos (first_wired station) n).flights else flights_of_card card plan packets infos

-- the lines of those that are left: of packet n and what follows it
abbrev pub lines_left : Card → Plan → Packets → List Info → StationPlan → ℕ → List ℕ
lines_left card plan packets infos station n = times_text card (drop (length (flights_before card plan packets infos station n)) (flights_of_card card plan packets infos))

-- the pass stands before packet n
pub record IsBeforePacket (m : Times) (card : Card) (plan : Plan) (packets : Packets) (infos : List Info) (station : StationPlan) (n : ℕ) : Type 0 where
  pub wired : n < packets.count → IsWired m.wired (none_told (after_wired card plan packets infos (first_wired station) n))
  pub time : n < packets.count → m.time ≡ packets.time n
  pub load : n < packets.count → load m.wired ≤ n
  pub bypass : n < packets.count → m.wired.station.bypass ≡ bypass_of plan 0
  pub of_card : m.wired.wire.card ≡ card

-- packet n and what follows it were gone over, up to the next one or to the end; the packets that were accepted aren't told yet
pub record HasGone (m : Times) (card : Card) (plan : Plan) (packets : Packets) (infos : List Info) (station : StationPlan) (n : ℕ) : Type 0 where
  pub next : n + 1 < packets.count → IsWired m.wired (turned card plan packets infos n (none_told (after_wired card plan packets infos (first_wired station) n))).wired
  pub time : n + 1 < packets.count → m.time ≡ packets.time (n + 1)
  pub load : n + 1 < packets.count → load m.wired ≤ n + 1
  pub bypass : n + 1 < packets.count → m.wired.station.bypass ≡ bypass_of plan 0
  pub last : n + 1 ≡ packets.count → IsWired m.wired (finished_wired card plan packets infos n (none_told (after_wired card plan packets infos (first_wired station) n)))
  pub of_card : m.wired.wire.card ≡ card
