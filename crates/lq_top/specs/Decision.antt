-- What a call decides from its words, its files and the number of devices on its bench.
use Rattle.std.specs.Prelude.{ℕ, false, List, Option, Some, None, Result, Ok, Err}
use Rattle.std.specs.Option.{option_map}
use Rattle.lq_model.specs.Capture.{capture_of}
use Rattle.lq_model.specs.Plan.{unit_count}
use Rattle.lq_model.specs.Generated.{generated_capture}
use Rattle.lq_plan.specs.Generated.{generated_plan}
use Rattle.lq_host.specs.Host.{Files}
use Rattle.lq_pcapng.specs.File.{as_classic}
use Rattle.lq_pcapng.specs.declared.file.CaptureFile.{CaptureFile}
use Rattle.lq_files.specs.Command.{CommandWords, OfGen, OfRun, OfTap, OfTrace, TapWords, command_of_words}
use Rattle.lq_files.specs.RunFiles.{Run, run_of}
use Rattle.lq_files.specs.declared.refusal.Refusal.{Refusal}
use Rattle.lq_files.specs.declared.refusal.Refusal.TheVariants as refusal
use Rattle.lq_files.specs.Accepted.{placed_on, plan_for, max_units, with_refusal, capture_for, limited_capture_of, limited_trace_of}

-- THE DECISION

-- what a call is to do: give up where a file isn't there, tell a refusal, run a capture under a plan, write a generated
-- capture and run it, tell what a schedule leaves, or run a capture through a tap
pub data Verdict : Type 0 where
  LacksFile : Verdict
  Refuses : Refusal → Verdict
  Runs : Run → Verdict
  Generates : List ℕ → Run → Verdict
  Traces : List ℕ → Verdict
  Taps : TapWords → CaptureFile → Verdict

-- a file that isn't there, a refusal, or what is decided by what was read
abbrev pub if_accepted : {A : Type 0} → Option (Result A Refusal) → (A → Verdict) → Verdict
if_accepted None next = LacksFile
if_accepted (Some (Err r)) next = Refuses r
if_accepted (Some (Ok read)) next = next read

-- First the words are judged, then the plan and the bench, then the capture, by what the plan asks of its times. `have` is the number of devices on the bench. The first file
-- that the command reads is one of `early`, and the second one of `late`.
abbrev pub verdict_of_command : Option CommandWords → ℕ → Files → Files → Verdict
verdict_of_command None have early late = Refuses refusal.Usage
verdict_of_command (Some (OfRun words)) have early late =
    if_accepted (option_map (plan_for have) (early words.plan)) (λ plan.
    if_accepted (option_map (capture_for plan) (late words.capture)) (λ capture. Runs (run_of words.out plan capture)))
verdict_of_command (Some (OfGen words)) have early late =
    let text = generated_capture words.number words.count in
    if_accepted (Some (placed_on have generated_plan)) (λ plan.
    if_accepted (Some (with_refusal (as_classic (capture_of text)))) (λ capture. Generates text (run_of words.out plan capture)))
verdict_of_command (Some (OfTrace file)) have early late = if_accepted (option_map limited_trace_of (early file)) Traces
verdict_of_command (Some (OfTap words)) have early late = if_accepted (option_map (limited_capture_of false) (early words.capture)) (Taps words)

abbrev pub verdict_of : List (List ℕ) → Files → ℕ → Verdict
verdict_of words files have = verdict_of_command (command_of_words words) have files files

-- how many devices it may change, the first ones of the bench
abbrev pub units_changed_by : Verdict → ℕ
units_changed_by (Runs run) = unit_count run.plan
units_changed_by (Generates text run) = unit_count run.plan
units_changed_by _ = 0

-- and how many at most, whatever its files hold
abbrev pub most_units_changed_by : Option CommandWords → ℕ
most_units_changed_by (Some (OfRun words)) = max_units
most_units_changed_by (Some (OfGen words)) = 1
most_units_changed_by _ = 0
