-- What a call with the words of `run` decided that answered Done.
use Rattle.std.proofs.Common.{◌≡◌, ℕ, Bool, true, false, cond, List, [], ◌∷◌, ◌++◌, Option, Some, None, Result, Ok, Err, refl, sym, ap, ◌∙◌, inl, inr}
use Rattle.std.specs.Prelude.{codes, nat_lt, length}
use Rattle.std.specs.List.{list_all}
use Rattle.std.specs.Option.{option_map_or}
use Rattle.std.specs.Result.{result_flatten, result_map_both}
use Rattle.std.proofs.lemmas.Bool.{cases_Bool}
use Rattle.lq_files.specs.Accepted.{capture_for, in_order_for, limited_capture_of, placed_on, plan_for, wants_order, with_refusal}
use Rattle.lq_files.specs.Command.{CommandWords, OfRun, RunWords, command_of_words, command_with, is_operand}
use Rattle.lq_files.specs.Refusal.{status_of}
use Rattle.lq_files.specs.RunFiles.{run_of}
use Rattle.lq_files.specs.declared.answer.Status.TheVariants as status
use Rattle.lq_files.specs.declared.refusal.Refusal.{Refusal}
use Rattle.lq_files.specs.declared.refusal.Refusal.TheVariants as refusal
use Rattle.lq_host.specs.Host.{GivenFile, HostState}
use Rattle.lq_model.specs.Capture.{Refusal as CaptureRefusal, first_back}
use Rattle.lq_model.specs.Device.{DeviceState}
use Rattle.lq_model.specs.Plan.{Plan, reads_times, unit_count}
use Rattle.lq_model.specs.declared.plan.PlanReason.{PlanReason}
use Rattle.lq_model.specs.declared.plan.PlanReason.TheVariants as reason
use Rattle.lq_pcapng.specs.File.{capture_file_of, packets_of_file}
use Rattle.lq_pcapng.specs.declared.file.CaptureFile.{CaptureFile}
use Rattle.lq_plan.specs.Reading.{plan_of}
use Rattle.lq_table.specs.Ended.{EndedState}
use Rattle.lq_top.proofs.ReadLemmas.{run_reads}
use Rattle.lq_top.specs.Decision.{Runs, Verdict, if_accepted, verdict_of_command}
use Rattle.lq_top.specs.Headline.{HasRun}
use Rattle.lq_top.specs.Outcome.{Completes, Outcome, OutcomeOfSome}
use Rattle.lq_top.specs.Reads.{HasReadFiles, after_reads, files_read}

-- no refusal answers Done
refusal_not_done : (r : Refusal) → status.Done ≡ status_of r → ⊥
refusal_not_done refusal.Usage e = cc
refusal_not_done (refusal.Plan reason) e = cc
refusal_not_done (refusal.Bench need have) e = cc
refusal_not_done (refusal.Capture reason place) e = cc
refusal_not_done (refusal.Trace reason line) e = cc

-- A call that answered Done has read these bytes in its two files, which are a plan and a capture, and has run them.
pub record HasReplayed (words : RunWords) (plan_bytes capture_bytes : List ℕ) (old new : HostState) (before after : List DeviceState) (ended : List EndedState) : Type 0 where
  pub reads : new.given ≡ record { name = words.capture; bytes = capture_bytes } ∷ record { name = words.plan; bytes = plan_bytes } ∷ old.given
  pub plan : Plan
  pub capture : CaptureFile
  pub plan_is : plan_of plan_bytes ≡ Ok plan
  pub capture_is : capture_file_of (reads_times plan) capture_bytes ≡ Ok capture
  pub has_run : HasRun (run_of words.out plan capture) (after_reads old new) new before after ended

-- what was read without a refusal
plan_read : (have : ℕ) (bytes : List ℕ) (plan : Plan) → plan_for have bytes ≡ Ok plan → plan_of bytes ≡ Ok plan
plan_read have bytes plan e = elim (cases_Bool (nat_lt 65536 (length bytes))) [
  | inl long ↦ (
      let refused : plan_for have bytes ≡ Err (refusal.Plan reason.TooLong) =
      ap (λ b. result_flatten (result_map_both (placed_on have) refusal.Plan (cond b (Err reason.TooLong) (plan_of bytes)))) long in
      let no : Err (refusal.Plan reason.TooLong) ≡ Ok plan = sym refused ∙ e in cc
      )
  | inr short ↦ placed (plan_of bytes)
      (sym (ap (λ b. result_flatten (result_map_both (placed_on have) refusal.Plan (cond b (Err reason.TooLong) (plan_of bytes)))) short) ∙ e)
]
  where
    placed : (r : Result Plan PlanReason) → result_flatten (result_map_both (placed_on have) refusal.Plan r) ≡ Ok plan → r ≡ Ok plan
    placed (Ok p) e = ap Ok (on_bench (nat_lt have (unit_count p)) p e)
      where
        on_bench : (b : Bool) (p : Plan) → cond b (Err (refusal.Bench (unit_count p) have)) (Ok p) ≡ Ok plan → p ≡ plan
        on_bench true p e = cc
        on_bench false p e = cc
    placed (Err r) e = cc

capture_read : (timed : Bool) (bytes : List ℕ) (capture : CaptureFile) → limited_capture_of timed bytes ≡ Ok capture → capture_file_of timed bytes ≡ Ok capture
capture_read timed bytes capture e = elim (cases_Bool (nat_lt 67108864 (length bytes))) [
  | inl long ↦ (let no = sym (ap (λ b. cond b (Err (refusal.Capture Rattle.lq_model.specs.declared.capture.CaptureReason.TheVariants.TooLong 67108864)) (with_refusal (capture_file_of timed bytes))) long) ∙ e in cc)
  | inr short ↦ accepted (capture_file_of timed bytes) (sym (ap (λ b. cond b (Err (refusal.Capture Rattle.lq_model.specs.declared.capture.CaptureReason.TheVariants.TooLong 67108864)) (with_refusal (capture_file_of timed bytes))) short) ∙ e)
]
  where
    accepted : (r : Result CaptureFile CaptureRefusal) → with_refusal r ≡ Ok capture → r ≡ Ok capture
    accepted (Ok c) e = cc
    accepted (Err r) e = cc

in_order : (p : Plan) (file capture : CaptureFile) → in_order_for p file ≡ Ok capture → file ≡ capture
in_order p file capture e = by (wants_order p) (first_back (packets_of_file file)) e
  where
    by : (b : Bool) (o : Option ℕ)
        → cond b (option_map_or (λ n. Err (refusal.Capture Rattle.lq_model.specs.declared.capture.CaptureReason.TheVariants.TimeBack n)) o (Ok file)) (Ok file) ≡ Ok capture → file ≡ capture
    by true (Some n) e = absurd cc
    by true None e = cc
    by false o e = cc

capture_taken : (p : Plan) (bytes : List ℕ) (capture : CaptureFile) → capture_for p bytes ≡ Ok capture → limited_capture_of (reads_times p) bytes ≡ Ok capture
capture_taken p bytes capture e = by (limited_capture_of (reads_times p) bytes) e
  where
    by : (r : Result CaptureFile Refusal) → result_flatten (result_map_both (in_order_for p) (λ r. r) r) ≡ Ok capture → r ≡ Ok capture
    by (Ok file) e = ap Ok (in_order p file capture e)
    by (Err r) e = cc

module _ (words : RunWords) (have : ℕ) (first second : List ℕ) (old new : HostState) (before after : List DeviceState) (ended : List EndedState)
    (read : HasReadFiles (files_read (Some (OfRun words)) have first second) old new status.Done) where
  abbrev Ends : Verdict → Type 0
  Ends verdict = Completes verdict (after_reads old new) new before after ended status.Done

  abbrev Found : Type 0
  Found = HasReplayed words first second old new before after ended

  -- the capture, once the plan was read
  capture_found : (plan : Plan) → plan_for have first ≡ Ok plan → (r : Result CaptureFile Refusal) → capture_for plan second ≡ r
      → Ends (if_accepted (Some r) (λ capture. Runs (run_of words.out plan capture))) → Found
  capture_found plan placed (Err r) e ends = absurd (refusal_not_done r ends.0)
  capture_found plan placed (Ok capture) e ends = record {
    reads = read ∙ ap (λ (files : List GivenFile). files ++ old.given) (run_reads words have plan first second placed);
    plan = plan;
    capture = capture;
    plan_is = plan_read have first plan placed;
    capture_is = capture_read (reads_times plan) second capture (capture_taken plan second capture e);
    has_run = ends.1;
  }

  abbrev next : Plan → Verdict
  next plan = if_accepted (Some (capture_for plan second)) (λ capture. Runs (run_of words.out plan capture))

  plan_found : (r : Result Plan Refusal) → plan_for have first ≡ r → Ends (if_accepted (Some r) next) → Found
  plan_found (Err r) e ends = absurd (refusal_not_done r ends.0)
  plan_found (Ok plan) e ends = capture_found plan e (capture_for plan second) refl ends

  pub run_found : Ends (verdict_of_command (Some (OfRun words)) have (λ _. Some first) (λ _. Some second)) → Found
  run_found ends = plan_found (plan_for have first) refl ends

-- the words of `run`, or none of a command
abbrev pub words_of_run : List ℕ → List ℕ → List ℕ → RunWords
words_of_run plan capture out = record { plan = plan; capture = capture; out = out }

-- the command, if each of the three is an operand
abbrev command_if : Bool → List ℕ → List ℕ → List ℕ → Option CommandWords
command_if b plan capture out = cond b (command_with (codes "run") (plan ∷ capture ∷ out ∷ [])) None

pub command_found : (plan capture out : List ℕ) (have : ℕ) (old new : HostState) (before after : List DeviceState) (ended : List EndedState)
    → (some : OutcomeOfSome (command_of_words (codes "run" ∷ plan ∷ capture ∷ out ∷ [])) have old new before after ended status.Done)
    → HasReplayed (words_of_run plan capture out) some.0 some.1 old new before after ended
command_found plan capture out have old new before after ended some = is (list_all is_operand (plan ∷ capture ∷ out ∷ [])) some.2 some.3
  where
    is : (b : Bool) → HasReadFiles (files_read (command_if b plan capture out) have some.0 some.1) old new status.Done
        → Outcome (verdict_of_command (command_if b plan capture out) have (λ _. Some some.0) (λ _. Some some.1)) (after_reads old new) new before after ended status.Done
        → HasReplayed (words_of_run plan capture out) some.0 some.1 old new before after ended
    is true read ends = run_found (words_of_run plan capture out) have some.0 some.1 old new before after ended read ends
    is false read ends = absurd (refusal_not_done refusal.Usage ends.0)
