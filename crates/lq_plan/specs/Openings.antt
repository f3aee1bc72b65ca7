-- How often the stopped queues are opened after each packet, as a run looks it up.
use Rattle.std.specs.Prelude.{◌≡◌, ℕ, ◌+◌, ◌%◌, ◌<◌, Bool, true, false, ◌&&◌, nat_le, ◌==◌, if◌then◌else◌, List, length, slice_index}
use Rattle.lq_model.specs.Capture.{Packets}
use Rattle.lq_model.specs.Openings.{number_among_own, openings_by}
use Rattle.lq_model.specs.Plan.{Plan}
use Rattle.lq_model.specs.declared.plan.Irq.{Irq}
use Rattle.lq_model.specs.declared.plan.Irq.TheVariants as irq
use Rattle.lq_model.specs.declared.plan.Irq.TheVariants.{Period}
use Rattle.lq_plan.specs.declared.openings.Openings.{Openings}
use Rattle.lq_plan.specs.declared.openings.Openings.TheVariants.{Every, Listed, Wired}

-- whether they are opened by the times of the capture
abbrev pub is_by_time : Irq → Bool
is_by_time (irq.Every packets) = false
is_by_time (irq.Period microseconds) = true

-- whether that is only while one is stopped, so often at most
abbrev pub opens_while_stopped : Plan → Bool
opens_while_stopped plan = nat_le 5 plan.version && is_by_time plan.irq

-- what is looked up for packet n, before which its owner sent so many
abbrev pub opens_after : Openings → ℕ → ℕ → ℕ
opens_after (Every packets) n sent = if (sent + 1) % packets == 0 then 1 else 0
opens_after (Listed times) n sent = slice_index times.items n
opens_after (Wired times) n sent = slice_index times.items n

-- whether packet n can be looked up
abbrev pub opens_within : Openings → ℕ → Type 0
opens_within (Every packets) n = 0 < packets
opens_within (Listed times) n = n < length times.items
opens_within (Wired times) n = n < length times.items

-- a list of how often after each packet of a capture, where they are opened at each multiple of so many microseconds
pub record AreTimes (microseconds : ℕ) (packets : Packets) (times : List ℕ) : Type 0 where
  pub count : length times ≡ packets.count
  pub each : (plan : Plan) (n : ℕ) → n < packets.count → slice_index times n ≡ openings_by (Period microseconds) plan packets n

-- each packet of a capture can be looked up, and what is found is how often the queues are opened after it
pub record IsOpenings (plan : Plan) (packets : Packets) (opens : ℕ → ℕ) (found : Openings) : Type 0 where
  pub within : (n : ℕ) → n < packets.count → opens_within found n
  pub each : (n sent : ℕ) → n < packets.count → sent + 1 ≡ number_among_own plan packets n → opens_after found n sent ≡ opens n
