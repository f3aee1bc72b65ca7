-- What a run leaves, from what its calls leave.
use Rattle.std.proofs.Common.{◌≡◌, ℕ, List, [], Option, Some, None, Result, Ok, Err, IfOk, IsErrAnd, OnOk, OnErr, IfSome, sym, ap, ◌∙◌, subst, inl, inr, ◌≤◌, ◌+◌, ◌-◌, drop, arith}
use Rattle.std.specs.Option.{option_map}
use Rattle.std.proofs.lemmas.List.{drop-drop}
use Rattle.lq_model.specs.Device.{DeviceState}
use Rattle.lq_model.specs.Openings.{openings}
use Rattle.lq_model.specs.Plan.{Plan, infos_of, unit_count}
use Rattle.lq_model.specs.declared.fate.Fate.{Fate}
use Rattle.lq_model.specs.declared.fate.Info.{Info}
use Rattle.lq_host.specs.Host.{HostState, Contents}
use Rattle.lq_pcapng.specs.File.{packets_of_file}
use Rattle.lq_pcapng.specs.declared.file.CaptureFile.{CaptureFile}
use Rattle.lq_files.specs.Command.{OfRun, RunWords}
use Rattle.lq_top.specs.Decision.{Verdict, Generates, LacksFile, Refuses, Runs, Taps, Traces, if_accepted, verdict_of_command}
use Rattle.lq_files.specs.Accepted.{IsRunnable, max_units, capture_for, plan_for}
use Rattle.lq_senders.specs.Fates.{AreEnded, AreFatesOf}
use Rattle.lq_table.specs.Ended.{EndedState}
use Rattle.lq_top.specs.Headline.{AreFatesIn, HasRun}
use Rattle.lq_files.specs.RunFiles.{Run, run_of, texts_of}
use Rattle.lq_top.specs.Outcome.{Completes, CompletesOrStops, IsAnswerOf, IsCommandStatus, LeavesNone, Outcome, Stops}
use Rattle.lq_files.specs.Refusal.{refusal_line, status_of}
use Rattle.lq_files.specs.Stop.{status_of_stop}
use Rattle.lq_files.specs.Written.{IsCut, output_only, written}
use Rattle.lq_files.specs.declared.refusal.Refusal.{Refusal}
use Rattle.lq_files.specs.declared.answer.Status.{Status}
use Rattle.lq_files.specs.declared.answer.Status.TheVariants as status
use Rattle.lq_files.specs.declared.answer.Stop.{Stop}
use Rattle.lq_files.specs.declared.answer.Stop.TheVariants as stops
use Rattle.lq_files.proofs.GroupPackets.{of_group}

-- RUNS

-- the fates of a run, with what its groups sent
pub fates_in : (run : Run) (fates : List Fate) (before after : List DeviceState)
    → AreFatesOf run.plan (infos_of run.plan (packets_of_file run.capture)) (openings run.plan (packets_of_file run.capture)) fates before after
    → AreFatesIn run fates before after
fates_in run fates before after are = record { of_run = are; groups = λ j. of_group run.plan fates j are.settled.serials }

-- what was sent under another name for the packets
module _ (run : Run) (infos : List Info) (fates given : List Fate) (old new : HostState) (before after : List DeviceState) (known : infos ≡ infos_of run.plan (packets_of_file run.capture))
    (same : given ≡ fates) (are : AreFatesOf run.plan infos (openings run.plan (packets_of_file run.capture)) fates before after) where
  pub known_fates : AreFatesIn run fates before after
  known_fates =
      fates_in run fates before after (subst (λ (is : List Info). AreFatesOf run.plan is (openings run.plan (packets_of_file run.capture)) fates before after) known are)

  -- a run that was stopped while it wrote
  pub run_stops : IsCut (texts_of run given) old new → Stops (Runs run) old new before after
  run_stops cut = inr (fates, known_fates, subst (λ (fs : List Fate). IsCut (texts_of run fs) old new) same cut)

  -- and one that is done
  pub run_done : (ended : List EndedState) → AreEnded run.plan infos fates ended → new ≡ written (texts_of run given) old → HasRun run old new before after ended
  run_done ended ends done = (
    fates,
    known_fates,
    subst (λ (is : List Info). AreEnded run.plan is fates ended) known ends,
    done ∙ ap (λ (fs : List Fate). written (texts_of run fs) old) same,
  )

-- what a run answers and leaves, by whether it was stopped
pub run_does :
    (run : Run) (old new : HostState) (before after : List DeviceState) (ended : List EndedState) (r : Result Status Stop) → IfOk r (λ answer. answer ≡ status.Done) → OnOk r (HasRun run old new before after ended)
    → OnErr r (Stops (Runs run) old new before after) → CompletesOrStops (Runs run) old new before after ended r
run_does run old new before after ended (Ok answer) is done stopped = (is, done)
run_does run old new before after ended (Err stop) is done stopped = stopped

-- DECISIONS

-- what was done as the run of a capture was decided so
pub does_run :
    (told : Option Contents) (words : RunWords) (have : ℕ) (plan : Plan) (capture : CaptureFile) (read : Result Plan Refusal) (seen : Result CaptureFile Refusal) (P : Verdict → Type 0)
    → read ≡ Ok plan → seen ≡ Ok capture → IfSome told (λ c. option_map (plan_for have) (c.files words.plan) ≡ Some read)
    → IfSome told (λ c. option_map (capture_for plan) (c.files words.capture) ≡ Some seen) → P (Runs (run_of words.out plan capture))
    → IfSome told (λ c. P (verdict_of_command (Some (OfRun words)) have c.files c.files))
does_run None words have plan capture read seen P is_read is_seen first second does = _
does_run (Some c) words have plan capture read seen P is_read is_seen first second does =
    let runs : Plan → Option (Result CaptureFile Refusal) → Verdict = λ p seen. if_accepted seen (λ c. Runs (run_of words.out p c)) in
    let next : Plan → Verdict = λ p. runs p (option_map (capture_for p) (c.files words.capture)) in
    let decided : verdict_of_command (Some (OfRun words)) have c.files c.files ≡ Runs (run_of words.out plan capture) =
    ap (λ (r : Option (Result Plan Refusal)). if_accepted r next) (first ∙ ap Some is_read) ∙ ap (runs plan) (second ∙ ap Some is_seen) in
    subst P (sym decided) does

-- and what was done as the refusal of a plan, or of a capture, was decided so
pub refuses_plan :
    (told : Option Contents) (words : RunWords) (have : ℕ) (r : Refusal) (read : Result Plan Refusal) (P : Verdict → Type 0) → read ≡ Err r
    → IfSome told (λ c. option_map (plan_for have) (c.files words.plan) ≡ Some read) → P (Refuses r) → IfSome told (λ c. P (verdict_of_command (Some (OfRun words)) have c.files c.files))
refuses_plan None words have r read P is_read first does = _
refuses_plan (Some c) words have r read P is_read first does =
    let runs : Plan → Option (Result CaptureFile Refusal) → Verdict = λ p seen. if_accepted seen (λ c. Runs (run_of words.out p c)) in
    let next : Plan → Verdict = λ p. runs p (option_map (capture_for p) (c.files words.capture)) in
    subst P (sym (ap (λ (q : Option (Result Plan Refusal)). if_accepted q next) (first ∙ ap Some is_read))) does

pub refuses_capture :
    (told : Option Contents) (words : RunWords) (have : ℕ) (plan : Plan) (r : Refusal) (read : Result Plan Refusal) (seen : Result CaptureFile Refusal) (P : Verdict → Type 0)
    → read ≡ Ok plan → seen ≡ Err r → IfSome told (λ c. option_map (plan_for have) (c.files words.plan) ≡ Some read)
    → IfSome told (λ c. option_map (capture_for plan) (c.files words.capture) ≡ Some seen) → P (Refuses r) → IfSome told (λ c. P (verdict_of_command (Some (OfRun words)) have c.files c.files))
refuses_capture None words have plan r read seen P is_read is_seen first second does = _
refuses_capture (Some c) words have plan r read seen P is_read is_seen first second does =
    let runs : Plan → Option (Result CaptureFile Refusal) → Verdict = λ p seen. if_accepted seen (λ c. Runs (run_of words.out p c)) in
    let next : Plan → Verdict = λ p. runs p (option_map (capture_for p) (c.files words.capture)) in
    let decided : verdict_of_command (Some (OfRun words)) have c.files c.files ≡ Refuses r =
    ap (λ (q : Option (Result Plan Refusal)). if_accepted q next) (first ∙ ap Some is_read) ∙ ap (runs plan) (second ∙ ap Some is_seen) in
    subst P (sym decided) does

-- ANY HOST

-- what was done as the run of some capture was decided so by its bytes and the plan's
pub does_run_on :
    (words : RunWords) (have : ℕ) (plan : Plan) (capture : CaptureFile) (plan_bytes capture_bytes : List ℕ) (P : Verdict → Type 0) → plan_for have plan_bytes ≡ Ok plan
    → capture_for plan capture_bytes ≡ Ok capture → P (Runs (run_of words.out plan capture)) → P (verdict_of_command (Some (OfRun words)) have (λ _. Some plan_bytes) (λ _. Some capture_bytes))
does_run_on words have plan capture plan_bytes capture_bytes P is_read is_seen does =
    let runs : Plan → Option (Result CaptureFile Refusal) → Verdict = λ p seen. if_accepted seen (λ c. Runs (run_of words.out p c)) in
    let next : Plan → Verdict = λ p. runs p (Some (capture_for p capture_bytes)) in
    let decided : verdict_of_command (Some (OfRun words)) have (λ _. Some plan_bytes) (λ _. Some capture_bytes) ≡ Runs (run_of words.out plan capture) =
    ap (λ (r : Result Plan Refusal). if_accepted (Some r) next) is_read ∙ ap (λ (r : Result CaptureFile Refusal). runs plan (Some r)) is_seen in
    subst P (sym decided) does

-- and a refusal of a plan by its bytes
pub refuses_plan_on :
    (words : RunWords) (have : ℕ) (r : Refusal) (plan_bytes capture_bytes : List ℕ) (P : Verdict → Type 0) → plan_for have plan_bytes ≡ Err r → P (Refuses r)
    → P (verdict_of_command (Some (OfRun words)) have (λ _. Some plan_bytes) (λ _. Some capture_bytes))
refuses_plan_on words have r plan_bytes capture_bytes P is_read does =
    let next : Plan → Verdict = λ p. if_accepted (Some (capture_for p capture_bytes)) (λ c. Runs (run_of words.out p c)) in
    subst P (sym (ap (λ (read : Result Plan Refusal). if_accepted (Some read) next) is_read)) does

-- and one of a capture by its bytes and the plan's
pub refuses_capture_on :
    (words : RunWords) (have : ℕ) (plan : Plan) (r : Refusal) (plan_bytes capture_bytes : List ℕ) (P : Verdict → Type 0) → plan_for have plan_bytes ≡ Ok plan
    → capture_for plan capture_bytes ≡ Err r → P (Refuses r) → P (verdict_of_command (Some (OfRun words)) have (λ _. Some plan_bytes) (λ _. Some capture_bytes))
refuses_capture_on words have plan r plan_bytes capture_bytes P is_read is_seen does =
    let runs : Plan → Option (Result CaptureFile Refusal) → Verdict = λ p seen. if_accepted seen (λ c. Runs (run_of words.out p c)) in
    let next : Plan → Verdict = λ p. runs p (Some (capture_for p capture_bytes)) in
    let decided : verdict_of_command (Some (OfRun words)) have (λ _. Some plan_bytes) (λ _. Some capture_bytes) ≡ Refuses r =
    ap (λ (read : Result Plan Refusal). if_accepted (Some read) next) is_read ∙ ap (λ (seen : Result CaptureFile Refusal). runs plan (Some seen)) is_seen in
    subst P (sym decided) does

-- a host that is as before was stopped before anything was written
pub stops_before : (v : Verdict) (old new : HostState) (before after : List DeviceState) → new ≡ old → Stops v old new before after
stops_before LacksFile old new before after same = same
stops_before (Refuses r) old new before after same = inl same
stops_before (Runs run) old new before after same = inl same
stops_before (Generates text run) old new before after same = inl (inl (inl same))
stops_before (Traces text) old new before after same = inl same
stops_before (Taps words capture) old new before after same = inl same

-- a refusal that was told, or that was stopped on the way
pub refuse_does :
    (r : Refusal) (old new : HostState) (before after : List DeviceState) (ended : List EndedState) (result : Result Status Stop) → IfOk result (λ answer. answer ≡ status_of r)
    → OnOk result (new ≡ written (output_only (refusal_line r)) old) → OnErr result (IsCut (output_only (refusal_line r)) old new)
    → CompletesOrStops (Refuses r) old new before after ended result
refuse_does r old new before after ended (Ok answer) is whole cut = (is, whole)
refuse_does r old new before after ended (Err stop) is whole cut = cut

-- what came to its end, of a command inside, is the outcome
pub ends_outcome :
    (v : Verdict) (old new : HostState) (before after : List DeviceState) (ended : List EndedState) (answer : Status) → IsCommandStatus answer → Completes v old new before after ended answer
    → Outcome v old new before after ended answer
ends_outcome v old new before after ended status.Done is ends = ends
ends_outcome v old new before after ended (status.Plan reason) is ends = ends
ends_outcome v old new before after ended (status.Bench need have) is ends = ends
ends_outcome v old new before after ended (status.Capture reason place) is ends = ends
ends_outcome v old new before after ended (status.Trace reason line) is ends = ends
ends_outcome v old new before after ended status.Usage is ends = absurd is
ends_outcome v old new before after ended status.Fault is ends = absurd is
ends_outcome v old new before after ended status.NoMemory is ends = absurd is

-- and so is what was stopped
pub stops_outcome :
    (v : Verdict) (old new : HostState) (before after : List DeviceState) (ended : List EndedState) (stop : Stop) → Stops v old new before after → Outcome v old new before after ended (status_of_stop stop)
stops_outcome v old new before after ended stops.Fault left = left
stops_outcome v old new before after ended stops.NoMemory left = left

pub all_ends :
    (told : Option Contents) (v : Contents → Verdict) (old new : HostState) (before after : List DeviceState) (ended : List EndedState) (answer : Status) → IsCommandStatus answer
    → IfSome told (λ c. Completes (v c) old new before after ended answer) → IfSome told (λ c. Outcome (v c) old new before after ended answer)
all_ends None v old new before after ended answer is ends = _
all_ends (Some c) v old new before after ended answer is ends = ends_outcome (v c) old new before after ended answer is ends

pub all_stopped :
    (told : Option Contents) (v : Contents → Verdict) (old new : HostState) (before after : List DeviceState) (ended : List EndedState) (stop : Stop)
    → IfSome told (λ c. Stops (v c) old new before after) → IfSome told (λ c. Outcome (v c) old new before after ended (status_of_stop stop))
all_stopped None v old new before after ended stop left = _
all_stopped (Some c) v old new before after ended stop left = stops_outcome (v c) old new before after ended stop left

-- what is as it was from place m on is so from any later place on
drop_later : {X : Type 0} (m n : ℕ) (old new : List X) → m ≤ n → drop m new ≡ drop m old → drop n new ≡ drop n old
drop_later m n old new le same =
    let rest : m + (n - m) ≡ n = omega arith in
    ap (λ k. drop k new) (sym rest) ∙ sym (drop-drop (n - m) m new) ∙ ap (drop (n - m)) same ∙ drop-drop (n - m) m old ∙ ap (λ k. drop k old) rest

-- the devices beyond those that a plan may need are as they were
pub beyond_units :
    {X : Type 0} (have : ℕ) (plan : Plan) (read : Result Plan Refusal) (old new : List X) → read ≡ Ok plan → IfOk read (IsRunnable have)
    → drop (unit_count plan) new ≡ drop (unit_count plan) old → drop max_units new ≡ drop max_units old
beyond_units have plan read old new is_read runnable same =
    let is : IsRunnable have plan = subst (λ (r : Result Plan Refusal). IfOk r (IsRunnable have)) is_read runnable in
    drop_later (unit_count plan) max_units old new is.few same

-- what came to its end answers what was decided
answered : (v : Verdict) (old new : HostState) (before after : List DeviceState) (ended : List EndedState) (answer : Status) → Completes v old new before after ended answer → IsAnswerOf v answer
answered LacksFile old new before after ended answer ends = absurd ends
answered (Refuses r) old new before after ended answer ends = inl ends.0
answered (Runs run) old new before after ended answer ends = inl ends.0
answered (Generates text run) old new before after ended answer ends = inl ends.0
answered (Traces text) old new before after ended answer ends = inl ends.0
answered (Taps words capture) old new before after ended answer ends = inl ends.0

pub all_answered :
    (told : Option Contents) (v : Contents → Verdict) (old new : HostState) (before after : List DeviceState) (ended : List EndedState) (answer : Status)
    → IfSome told (λ c. Completes (v c) old new before after ended answer) → IfSome told (λ c. IsAnswerOf (v c) answer)
all_answered None v old new before after ended answer ends = _
all_answered (Some c) v old new before after ended answer ends = answered (v c) old new before after ended answer ends

-- WAYS OUT

-- what holds of every answer, and of every content
pub any_answer : {P : Status → Type 0} (r : Result Status Stop) → ((answer : Status) → P answer) → IfOk r P
any_answer (Ok answer) all = all answer
any_answer (Err stop) all = _

pub any_told : {P : Contents → Type 0} (told : Option Contents) → ((c : Contents) → P c) → IfSome told P
any_told None all = _
any_told (Some c) all = all c

-- the exit of a `?` answers nothing, and leaves the host as it was where nothing was written
pub no_answer : (P : Status → Type 0) (Q : Stop → Type 0) (r : Result Status Stop) → IsErrAnd r Q → IfOk r P
no_answer P Q (Ok answer) exit = absurd exit
no_answer P Q (Err stop) exit = _

pub stopped_before :
    (Q : Stop → Type 0) (v : Verdict) (old new : HostState) (before after : List DeviceState) (ended : List EndedState) (r : Result Status Stop) → IsErrAnd r Q → new ≡ old
    → CompletesOrStops v old new before after ended r
stopped_before Q v old new before after ended (Ok answer) exit same = absurd exit
stopped_before Q v old new before after ended (Err stop) exit same = stops_before v old new before after same

-- no station's end was told
pub leaves_none : {X : Type 0} (r : Result Status Stop) (ended : List X) → ended ≡ [] → LeavesNone r ended
leaves_none (Ok answer) ended none = λ _. none
leaves_none (Err stop) ended none = none

-- a run that is done is what a command answers
pub done_answers : (r : Result Status Stop) → IfOk r (λ answer. answer ≡ status.Done) → IfOk r IsCommandStatus
done_answers (Ok answer) is = subst IsCommandStatus (sym is) _
done_answers (Err stop) is = _

pub on_err_any : {P : Type 0} (r : Result Status Stop) → P → OnErr r P
on_err_any (Ok answer) holds = _
on_err_any (Err stop) holds = holds
