-- What every step is made of: what the seat sees, the step of the machine that it does, and what that makes of its view.
use Rattle.std.specs.Option.{option_map}
use Rattle.std.specs.Prelude.{Option, Bool, not, ℕ, ◌==◌, bit_and, false, ◌-◌, ◌∷◌, replicate, List, cond, Some, None, ◌≡◌, true, ◌<◌, length}
use Rattle.lq_account_laws.specs.Trail.{is_own}
use Rattle.lq_device.specs.Station.{StationState}
use Rattle.lq_model.specs.Account.{Event}
use Rattle.lq_model.specs.Machine.{Qdisc, first_qdisc}
use Rattle.lq_model.specs.Plan.{queue_in}
use Rattle.lq_model.specs.Steps.{step_at}
use Rattle.lq_model.specs.declared.fate.Fate.{Fate}
use Rattle.lq_model.specs.declared.machine.Answer.TheVariants.{Plain}
use Rattle.lq_model.specs.declared.machine.Answer.{Answer}
use Rattle.lq_model.specs.declared.machine.Packet.{Packet}
use Rattle.lq_model.specs.declared.machine.Position.TheVariants.{Idle, Control}
use Rattle.lq_model.specs.declared.machine.Position.{Position}
use Rattle.atomic_table.specs.Table.{Me, Step}
use Rattle.lq_table.specs.Views.{View, machine_packet, HolderPart, State, Setup}

-- a seat's view, with what it has of the table's slots
abbrev pub Sat : Type 0
Sat = Me (Option StationState) View

-- WHAT A STEP SEES

-- a bit of a state word
abbrev pub is_set : ℕ → ℕ → Bool
is_set b n = not (bit_and n b == 0)

-- a machine of so many queues with this value in each stop word, and this requeue slot
abbrev pub seen_xoff : ℕ → ℕ → Option Packet → Qdisc
seen_xoff queues x slot = record (first_qdisc 0 false 1) { xoff = x ∷ replicate (queues - 1) x; slot = slot }

-- the machine as a seat knows it that did not look at it: how many queues there are and, as the holder, the requeue slot
abbrev pub seen_by : View → Qdisc
seen_by v = seen_xoff v.share.about.queues 0 (option_map (machine_packet v.share.about.infos) v.holder.slot)

-- A STEP OF THE MACHINE

-- The seat does its step, with this answer, where it saw this; what it has as holder, and the state beside the machine, go on.
abbrev pub moved : Answer → Qdisc → (HolderPart → HolderPart) → (State → State) → View → View
moved answer seen h f v = record v {
  place = (step_at v.place.position answer seen v.place).seat;
  holder = h v.holder;
  whole = record v.whole { qdisc = (step_at v.place.position answer v.whole.qdisc v.place).qdisc; state = f v.whole.state };
}

abbrev pub stepped : Answer → Qdisc → View → View
stepped answer seen v = moved answer seen (λ h. h) (λ g. g) v

abbrev pub past_with : Event → State → State
past_with e g = record g { past = e ∷ g.past }

-- the trail with this event, where it is one of control or of the first sender
abbrev pub on_trail : Event → View → List Event
on_trail e v = cond (is_own v.share.about.infos e) (e ∷ v.trail) v.trail

-- with this fate, where there is one
abbrev pub and_settled : Option (ℕ × Fate) → List (ℕ × Fate) → List (ℕ × Fate)
and_settled None fates = fates
and_settled (Some fate) fates = fate ∷ fates

-- pass: a step that looks at nothing.

abbrev pub pass_view : View → View
pass_view v = stepped Plain (seen_by v) v

-- a load that tells the seat nothing
abbrev pub unchanged : Step (Option StationState) → Sat → ℕ → Sat → Type 0
unchanged _ m found m' = m' ≡ m

-- WHERE A SEAT STANDS

-- in no call, or in one of control that has nothing in hand
abbrev pub at_rest : Position → Bool
at_rest Idle = true
at_rest (Control holds) = not holds
at_rest _ = false

-- the seat is so, and between two packets: it brings none, and has no packet's turn
abbrev pub IsBetweenPackets : View → Type 0
IsBetweenPackets v = (at_rest v.place.position ≡ true) × (v.packets.fresh ≡ None) × (v.packets.busy ≡ None)

-- PACKETS

-- a packet of the capture, on one of the station's queues
abbrev pub IsPacketOf : Setup → ℕ → Type 0
IsPacketOf k n = (n < length k.infos) × (queue_in k.infos n < k.queues)

abbrev pub IsKnownSlot : Setup → Option ℕ → Type 0
IsKnownSlot k None = Unit {0}
IsKnownSlot k (Some n) = IsPacketOf k n
