-- The steps on the word of the calls inside.
use Rattle.std.specs.Option.{option_map}
use Rattle.std.specs.Prelude.{Option, Some, None, true, ◌≡◌, ◌⊎◌, is_some, false, Bool, if◌then◌else◌, ℕ}
use Rattle.lq_log.specs.Made.{Made, rise, fall, load}
use Rattle.lq_model.specs.Control.{found_inside}
use Rattle.lq_model.specs.Steps.{begun}
use Rattle.lq_model.specs.declared.machine.Answer.TheVariants.{Plain}
use Rattle.lq_model.specs.declared.machine.Beginning.TheVariants.{Transmits, Interrupts}
use Rattle.lq_model.specs.declared.machine.Beginning.{Beginning}
use Rattle.lq_model.specs.declared.machine.Packet.{Packet}
use Rattle.lq_table.specs.Moves.{seen_by, stepped}
use Rattle.lq_table.specs.Places.{inside_place}
use Rattle.lq_table.specs.Sees.{Solo}
use Rattle.lq_table.specs.Views.{View, machine_packet}

-- enter: a call begins, with the packet that the seat brings or as a soft interrupt.

abbrev pub enter_log : Made
enter_log = rise inside_place 1

-- a call begins with the packet that the seat brings, or else as a soft interrupt
abbrev pub call_of : Option Packet → Beginning
call_of (Some p) = Transmits p
call_of None = Interrupts

abbrev pub bringing_packet : View → Option Packet
bringing_packet v = option_map (machine_packet v.share.about.infos) v.packets.fresh

-- a transmit may begin where the seat brings a packet, and else a soft interrupt where it is raised and has no packet's turn
abbrev pub MayEnter : View → Type 0
MayEnter v = (is_some (bringing_packet v) ≡ true) ⊎ ((v.place.raised ≡ true) × (v.packets.busy ≡ None))

abbrev pub enter_view : View → View
enter_view v = stepped Plain (seen_by v) (record v { place = begun (call_of (bringing_packet v)) v.place })

-- the raised mark is taken down as a soft interrupt begins
abbrev pub lowered : Solo → Solo
lowered v = record v { raised = false }

abbrev pub enter_alone : Bool → Solo → Solo
enter_alone brings v = if brings then v else lowered v

-- leave: a call ends; its view is that of `pass`.

abbrev pub leave_log : Made
leave_log = fall inside_place 1

-- load_inside: control loads how many calls are inside.

abbrev pub load_inside_log : ℕ → Made
load_inside_log found = load inside_place found

abbrev pub load_inside_view : ℕ → View → View
load_inside_view n v = record v {
  control = record v.control { phase = found_inside n v.control.phase };
  whole = record v.whole { qdisc = record v.whole.qdisc { phase = found_inside v.whole.qdisc.inside v.whole.qdisc.phase } };
}
