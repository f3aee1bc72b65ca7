-- How often the stopped queues are opened after a packet: by the number of packets that its sender has sent, by the capture's time, or as a card
-- on a wire has room.
use Rattle.std.specs.Prelude.{ℕ, ◌+◌, ◌-◌, ◌*◌, ◌/◌, ◌%◌, min, nat_lt, ◌==◌, if◌then◌else◌, count_by}
use Rattle.lq_model.specs.Capture.{Packets}
use Rattle.lq_model.specs.Numbers.{first_numbers}
use Rattle.std.specs.Option.{option_map_or}
use Rattle.lq_model.specs.Plan.{Plan, card_of, infos_of, owner_of}
use Rattle.lq_model.specs.Wire.{openings_of_card}
use Rattle.lq_model.specs.declared.plan.Irq.{Irq}
use Rattle.lq_model.specs.declared.plan.Irq.TheVariants.{Every, Period}

-- packet n's number among those of its owner, from 1 on
abbrev pub number_among_own : Plan → Packets → ℕ → ℕ
number_among_own plan packets n = count_by (λ m. owner_of plan packets m == owner_of plan packets n) (first_numbers (n + 1))

-- how many multiples of a period lie after one time and not after another; none where that stands still or goes back
abbrev pub multiples_between : ℕ → ℕ → ℕ → ℕ
multiples_between period earlier later = later / period - earlier / period

-- how often after packet n: after each so many packets of a sender once; or once for each multiple of so many microseconds between
-- the packet's time and that of the next one in the capture, at most 65,535 times
abbrev pub openings_by : Irq → Plan → Packets → ℕ → ℕ
openings_by (Every count) plan packets n = if number_among_own plan packets n % count == 0 then 1 else 0
openings_by (Period microseconds) plan packets n =
    if nat_lt (n + 1) packets.count then min 65535 (multiples_between (microseconds * 1000) (packets.time n) (packets.time (n + 1))) else 0

-- of a plan with a card, as often as the card opens its station's queue; of every other plan as it says
abbrev pub openings : Plan → Packets → ℕ → ℕ
openings plan packets n =
    option_map_or (λ card. openings_of_card card plan packets (infos_of plan packets) n) (card_of plan) (openings_by plan.irq plan packets n)
