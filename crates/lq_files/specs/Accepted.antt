-- What the bytes of a file are accepted as: a plan on a bench, a capture, a schedule with what it leaves; or the refusal.
use Rattle.std.specs.Prelude.{◌≤◌, ℕ, Bool, ◌&&◌, ◌||◌, nat_le, nat_lt, if◌then◌else◌, List, length, is_some, Result, Ok, Err}
use Rattle.std.specs.Option.{option_map_or}
use Rattle.std.specs.Result.{result_flatten, result_map_both}
use Rattle.lq_model.specs.Capture.{Refusal as CaptureRefusal, first_back}
use Rattle.lq_model.specs.Plan.{Plan, card_of, reads_times, unit_count}
use Rattle.lq_model.specs.declared.capture.CaptureReason.TheVariants as capture
use Rattle.lq_model.specs.declared.plan.PlanReason.{PlanReason}
use Rattle.lq_model.specs.declared.plan.PlanReason.TheVariants as plan
use Rattle.lq_plan.specs.Openings.{is_by_time}
use Rattle.lq_plan.specs.Reading.{plan_of}
use Rattle.lq_run_core.specs.TraceText.{schedule_text}
use Rattle.lq_run_core.specs.declared.trace_run.TraceReason.TheVariants as reason
use Rattle.lq_pcapng.specs.File.{capture_file_of, packets_of_file}
use Rattle.lq_pcapng.specs.declared.file.CaptureFile.{CaptureFile}
use Rattle.lq_files.specs.declared.refusal.Refusal.{Refusal}
use Rattle.lq_files.specs.declared.refusal.Refusal.TheVariants as refusal

-- PLANS

-- the plan that bytes are; more than 65,536 bytes are none, whatever they are
abbrev pub limited_plan_of : List ℕ → Result Plan PlanReason
limited_plan_of bytes = if nat_lt 65536 (length bytes) then Err plan.TooLong else plan_of bytes

-- an accepted plan on a bench of so many devices: it may need more of them
abbrev pub placed_on : ℕ → Plan → Result Plan Refusal
placed_on have p = if nat_lt have (unit_count p) then Err (refusal.Bench (unit_count p) have) else Ok p

-- the plan that is run on a bench of so many devices, or the refusal
abbrev pub plan_for : ℕ → List ℕ → Result Plan Refusal
plan_for have bytes = result_flatten (result_map_both (placed_on have) refusal.Plan (limited_plan_of bytes))

-- no plan needs more devices: it has at most 8 stations and 64 swaps
abbrev pub max_units : ℕ
max_units = 72

-- what is known of a plan that is run
pub record IsRunnable (have : ℕ) (p : Plan) : Type 0 where
  pub units : unit_count p ≤ have
  pub few : unit_count p ≤ max_units

-- CAPTURES

abbrev pub with_refusal : Result CaptureFile CaptureRefusal → Result CaptureFile Refusal
with_refusal read = result_map_both (λ c. c) (λ r. refusal.Capture r.reason r.place) read

-- the capture that bytes are, in either format, or the refusal; `timed` says whether times are read; more than 67,108,864 bytes are
-- none, whatever they are
abbrev pub limited_capture_of : Bool → List ℕ → Result CaptureFile Refusal
limited_capture_of timed bytes =
    if nat_lt 67108864 (length bytes) then Err (refusal.Capture capture.TooLong 67108864) else with_refusal (capture_file_of timed bytes)

-- whether a plan takes no capture whose times go back: from version 5 on one with a card, and one that opens queues by time
abbrev pub wants_order : Plan → Bool
wants_order p = nat_le 5 p.version && (is_some (card_of p) || is_by_time p.irq)

-- the capture, or the number of its first packet whose time is before that of the packet before it, where the plan takes none such
abbrev pub in_order_for : Plan → CaptureFile → Result CaptureFile Refusal
in_order_for p file =
    if wants_order p then option_map_or (λ n. Err (refusal.Capture capture.TimeBack n)) (first_back (packets_of_file file)) (Ok file) else Ok file

-- the capture that bytes are for a plan, or the refusal
abbrev pub capture_for : Plan → List ℕ → Result CaptureFile Refusal
capture_for p bytes = result_flatten (result_map_both (in_order_for p) (λ r. r) (limited_capture_of (reads_times p) bytes))

-- SCHEDULES

-- the text for the schedule that bytes are, or the refusal; more than 65,536 bytes are none, whatever they are
abbrev pub limited_trace_of : List ℕ → Result (List ℕ) Refusal
limited_trace_of bytes =
    if nat_lt 65536 (length bytes) then Err (refusal.Trace reason.TooLong 0) else result_map_both (λ text. text) (λ r. refusal.Trace r.reason r.line) (schedule_text bytes)
