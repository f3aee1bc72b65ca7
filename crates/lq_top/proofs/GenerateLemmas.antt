-- What a generated run leaves, from what its calls leave.
use Rattle.std.proofs.Common.{◌≡◌, ◌≤◌, ◌⊎◌, ℕ, List, drop, None, Some, Result, Ok, Err, IfOk, IsOkAnd, OnOk, OnErr, sym, ap, ap₂, ◌∙◌, subst, inl, inr}
use Rattle.lq_model.specs.Capture.{Capture, Refusal as CaptureRefusal, capture_of}
use Rattle.lq_model.specs.Device.{DeviceState}
use Rattle.lq_model.specs.Generated.{generated_capture}
use Rattle.lq_model.specs.Openings.{openings}
use Rattle.lq_model.specs.Plan.{Plan, infos_of, unit_count}
use Rattle.lq_model.specs.declared.fate.Fate.{Fate}
use Rattle.lq_model.specs.declared.fate.Info.{Info}
use Rattle.lq_host.specs.Host.{HostState, filed, wrote}
use Rattle.lq_pcapng.specs.File.{as_classic, packets_of_file}
use Rattle.lq_pcapng.specs.declared.file.CaptureFile.TheVariants.{Classic}
use Rattle.lq_plan.specs.Generated.{generated_plan}
use Rattle.lq_files.specs.Command.{GenWords, OfGen}
use Rattle.lq_top.specs.Decision.{Generates, Verdict, if_accepted, units_changed_by, verdict_of_command}
use Rattle.lq_files.specs.Accepted.{placed_on, with_refusal}
use Rattle.lq_senders.specs.Fates.{AreEnded, AreFatesOf}
use Rattle.lq_table.specs.Ended.{EndedState}
use Rattle.lq_top.specs.Headline.{AreCountsCut, AreFatesIn, HasCounted}
use Rattle.lq_files.specs.RunFiles.{Run, counts_output, run_of, texts_of}
use Rattle.lq_top.specs.Outcome.{CompletesOrStops, Stops}
use Rattle.lq_files.specs.Written.{FileIsCut, OutputHasPrefix}
use Rattle.lq_files.specs.declared.refusal.Refusal.{Refusal}
use Rattle.lq_files.specs.declared.answer.Status.{Status}
use Rattle.lq_files.specs.declared.answer.Status.TheVariants as status
use Rattle.lq_files.specs.declared.answer.Stop.{Stop}
use Rattle.lq_top.proofs.GeneratedVerdict.{is_accepted}
use Rattle.lq_top.proofs.RunLemmas.{known_fates}

-- it was stopped in its file, or before it
pub cut_in_file :
    (out text : List ℕ) (plan : Plan) (r : Result Capture CaptureRefusal) (old new : HostState) (before after : List DeviceState) → IsOkAnd r (λ _. Unit {0})
    → FileIsCut out text old new → Stops (if_accepted (Some (with_refusal (as_classic r))) (λ c. Generates text (run_of out plan c))) old new before after
cut_in_file out text plan (Ok c) old new before after ok cut = inl (inl cut)
cut_in_file out text plan (Err r) old new before after ok cut = absurd ok

-- the file is whole, and nothing else was written
pub cut_after_file :
    (out text : List ℕ) (plan : Plan) (r : Result Capture CaptureRefusal) (old new : HostState) (before after : List DeviceState) → IsOkAnd r (λ _. Unit {0})
    → new ≡ filed old out text → Stops (if_accepted (Some (with_refusal (as_classic r))) (λ c. Generates text (run_of out plan c))) old new before after
cut_after_file out text plan (Ok c) old new before after ok whole = inl (inr whole)
cut_after_file out text plan (Err r) old new before after ok whole = absurd ok

counted : (out text : List ℕ) (plan : Plan) (c : Capture) (old mid new : HostState) (before after : List DeviceState) (ended : List EndedState) (result : Result Status Stop)
    → mid ≡ filed old out text → IfOk result (λ answer. answer ≡ status.Done) → OnOk result (HasCounted (run_of out plan (Classic c)) mid new before after ended)
    → OnErr result (AreCountsCut (run_of out plan (Classic c)) mid new before after) → CompletesOrStops (Generates text (run_of out plan (Classic c))) old new before after ended result
counted out text plan c old mid new before after ended (Ok answer) made is whole cut =
    (is, (whole.0, whole.1, whole.2, subst (λ (s : HostState). new ≡ wrote s 0 (texts_of (run_of out plan (Classic c)) whole.0).output) made whole.3))
counted out text plan c old mid new before after ended (Err stop) made is whole cut = elim cut [
  | inl same ↦ inl (inr (same ∙ made))
  | inr part ↦ inr (part.0, part.1, subst (λ (s : HostState). OutputHasPrefix (texts_of (run_of out plan (Classic c)) part.0).output s new) made part.2)
]

-- the file is whole, and its capture was run
pub generated_does :
    (out text : List ℕ) (plan : Plan) (c : Capture) (r : Result Capture CaptureRefusal) (old mid new : HostState) (before after : List DeviceState) (ended : List EndedState) (result : Result Status Stop)
    → r ≡ Ok c → mid ≡ filed old out text → IfOk result (λ answer. answer ≡ status.Done)
    → OnOk result (HasCounted (run_of out plan (Classic c)) mid new before after ended) → OnErr result (AreCountsCut (run_of out plan (Classic c)) mid new before after)
    → CompletesOrStops (if_accepted (Some (with_refusal (as_classic r))) (λ c. Generates text (run_of out plan c))) old new before after ended result
generated_does out text plan c r old mid new before after ended result is_c made is whole cut =
    subst (λ (v : Result Capture CaptureRefusal). CompletesOrStops (if_accepted (Some (with_refusal (as_classic v))) (λ c. Generates text (run_of out plan c))) old new before after ended result) (sym is_c)
    (counted out text plan c old mid new before after ended result made is whole cut)

-- COUNTS

module _ (run : Run) (infos : List Info) (fates given : List Fate) (old new : HostState) (before after : List DeviceState) (known : infos ≡ infos_of run.plan (packets_of_file run.capture))
    (same : given ≡ fates) (are : AreFatesOf run.plan infos (openings run.plan (packets_of_file run.capture)) fates before after) where
  are_in : AreFatesIn run fates before after
  are_in = known_fates run infos fates given old new before after known same are

  counts-same : counts_output run.plan infos given ≡ (texts_of run fates).output
  counts-same = ap₂ (λ (is : List Info) (fs : List Fate). counts_output run.plan is fs) known same

  -- it was stopped in them, or before them
  pub counts_cut : (new ≡ old) ⊎ OutputHasPrefix (counts_output run.plan infos given) old new → AreCountsCut run old new before after
  counts_cut cut = elim cut [
    | inl nothing ↦ inl nothing
    | inr part ↦ inr (fates, are_in, subst (λ (text : List ℕ). OutputHasPrefix text old new) counts-same part)
  ]

  -- all are written
  pub counts_done : (ended : List EndedState) → AreEnded run.plan infos fates ended → new ≡ wrote old 0 (counts_output run.plan infos given) → HasCounted run old new before after ended
  counts_done ended ends done = (fates, are_in, subst (λ (is : List Info). AreEnded run.plan is fates ended) known ends, done ∙ ap (wrote old 0) counts-same)

-- DECISIONS

-- what was stopped, as the exit of a `?` answers it
pub stops_any :
    (v : Verdict) (old new : HostState) (before after : List DeviceState) (ended : List EndedState) (r : Result Status Stop) (stop : Stop) → r ≡ Err stop → Stops v old new before after
    → CompletesOrStops v old new before after ended r
stops_any v old new before after ended r stop is left = subst (CompletesOrStops v old new before after ended) (sym is) left

units_same :
    {X : Type 0} (out text : List ℕ) (plan : Plan) (r : Result Capture CaptureRefusal) (old new : List X) → IsOkAnd r (λ _. Unit {0})
    → drop (unit_count plan) new ≡ drop (unit_count plan) old
    → drop (units_changed_by (if_accepted (Some (with_refusal (as_classic r))) (λ c. Generates text (run_of out plan c)))) new ≡ drop (units_changed_by (if_accepted (Some (with_refusal (as_classic r))) (λ c. Generates text (run_of out plan c)))) old
units_same out text plan (Ok c) old new ok same = same
units_same out text plan (Err e) old new ok same = absurd ok

-- the devices beyond those that it needs are as they were
pub others_of_gen :
    {X : Type 0} (words : GenWords) (have : ℕ) (plan : Plan) (old new : List X) → words.count ≤ 1000000 → Ok plan ≡ placed_on have generated_plan
    → drop (unit_count plan) new ≡ drop (unit_count plan) old
    → drop (units_changed_by (verdict_of_command (Some (OfGen words)) have (λ _. None) (λ _. None))) new ≡ drop (units_changed_by (verdict_of_command (Some (OfGen words)) have (λ _. None) (λ _. None))) old
others_of_gen {X} words have plan old new few is same =
    let text = generated_capture words.number words.count in
    let next : Plan → Verdict = λ p. if_accepted (Some (with_refusal (as_classic (capture_of text)))) (λ c. Generates text (run_of words.out p c)) in
    subst (λ (p : Result Plan Refusal). drop (units_changed_by (if_accepted (Some p) next)) new ≡ drop (units_changed_by (if_accepted (Some p) next)) old) is
    (units_same words.out text plan (capture_of text) old new (is_accepted words.number words.count few) same)
