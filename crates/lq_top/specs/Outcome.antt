-- What a call answers and leaves, once it has decided.
use Rattle.std.specs.Prelude.{◌≡◌, ◌≢◌, ◌⊎◌, ℕ, Bool, true, false, List, [], Option, Some, None, Result, Ok, Err}
use Rattle.lq_model.specs.Device.{DeviceState}
use Rattle.lq_model.specs.declared.fate.Fate.{Fate}
use Rattle.lq_host.specs.Host.{HostState, filed}
use Rattle.lq_table.specs.Ended.{EndedState}
use Rattle.lq_files.specs.Command.{CommandWords}
use Rattle.lq_top.specs.Decision.{Verdict, Generates, LacksFile, Refuses, Runs, Taps, Traces, verdict_of_command}
use Rattle.lq_top.specs.Headline.{AreFatesIn, HasGenerated, HasRun}
use Rattle.lq_top.specs.Reads.{HasReadFiles, HasReadOrStopped, after_reads, files_read}
use Rattle.lq_files.specs.RunFiles.{texts_of}
use Rattle.lq_files.specs.Refusal.{refusal_line, status_of}
use Rattle.lq_top.specs.Tapped.{HasCutTap, HasTapped}
use Rattle.lq_files.specs.Written.{output_only, written, FileIsCut, IsCut, OutputHasPrefix}
use Rattle.lq_files.specs.declared.answer.Status.{Status}
use Rattle.lq_files.specs.declared.answer.Status.TheVariants as status
use Rattle.lq_files.specs.declared.answer.Stop.{Stop}

-- THE ANSWER

-- what a call that came to its end answers and leaves: a refusal is a line on standard output and nothing else; where a
-- file isn't there no call comes to its end
abbrev pub Completes : Verdict → HostState → HostState → List DeviceState → List DeviceState → List EndedState → Status → Type 0
Completes LacksFile old new before after ended answer = ⊥
Completes (Refuses refusal) old new before after ended answer = (answer ≡ status_of refusal) × (new ≡ written (output_only (refusal_line refusal)) old)
Completes (Runs run) old new before after ended answer = (answer ≡ status.Done) × HasRun run old new before after ended
Completes (Generates text run) old new before after ended answer = (answer ≡ status.Done) × HasGenerated text run old new before after ended
Completes (Traces text) old new before after ended answer = (answer ≡ status.Done) × (ended ≡ []) × (new ≡ written (output_only text) old)
Completes (Taps words capture) old new before after ended answer = (answer ≡ status.Done) × (ended ≡ []) × HasTapped words capture old new

-- what a call leaves that was stopped by a fault or want of memory: nothing, or a part of what it was to write, of a run
-- by one list of fates; of a generated run a part of its file, or the whole file and a prefix of the counts
abbrev pub Stops : Verdict → HostState → HostState → List DeviceState → List DeviceState → Type 0
Stops LacksFile old new before after = new ≡ old
Stops (Refuses refusal) old new before after = IsCut (output_only (refusal_line refusal)) old new
Stops (Runs run) old new before after = (new ≡ old) ⊎ ((fates : List Fate) × AreFatesIn run fates before after × IsCut (texts_of run fates) old new)
Stops (Generates text run) old new before after =
    (FileIsCut run.out text old new ⊎ (new ≡ filed old run.out text))
    ⊎ ((fates : List Fate) × AreFatesIn run fates before after × OutputHasPrefix (texts_of run fates).output (filed old run.out text) new)
Stops (Traces text) old new before after = IsCut (output_only text) old new
Stops (Taps words capture) old new before after = HasCutTap words capture old new

-- THE OUTCOME, from the host after its reads, where it tells its bytes
abbrev pub Outcome : Verdict → HostState → HostState → List DeviceState → List DeviceState → List EndedState → Status → Type 0
Outcome verdict old new before after ended status.Fault = Stops verdict old new before after
Outcome verdict old new before after ended status.NoMemory = Stops verdict old new before after
Outcome verdict old new before after ended answer = Completes verdict old new before after ended answer

-- The outcome for every host, also one that doesn't tell what its files hold: that of the bytes that its reads returned. Each file is read
-- once, and no other.
abbrev pub OutcomeOfSome : Option CommandWords → ℕ → HostState → HostState → List DeviceState → List DeviceState → List EndedState → Status → Type 0
OutcomeOfSome command have old new before after ended answer =
    (first second : List ℕ) × HasReadFiles (files_read command have first second) old new answer
    × Outcome (verdict_of_command command have (λ _. Some first) (λ _. Some second)) (after_reads old new) new before after ended answer

-- the same of a command inside
abbrev pub CompletesOrStops : Verdict → HostState → HostState → List DeviceState → List DeviceState → List EndedState → Result Status Stop → Type 0
CompletesOrStops verdict old new before after ended (Ok answer) = Completes verdict old new before after ended answer
CompletesOrStops verdict old new before after ended (Err stop) = Stops verdict old new before after

abbrev pub CompletesOrStopsOfSome : Option CommandWords → ℕ → HostState → HostState → List DeviceState → List DeviceState → List EndedState → Result Status Stop → Type 0
CompletesOrStopsOfSome command have old new before after ended result =
    (first second : List ℕ) × HasReadOrStopped (files_read command have first second) old new result
    × CompletesOrStops (verdict_of_command command have (λ _. Some first) (λ _. Some second)) (after_reads old new) new before after ended result

-- THE CAUSES

-- this answer comes, unless a fault or want of memory comes in its place
abbrev pub ComesUnlessStopped : Status → Status → Type 0
ComesUnlessStopped expected answer = (answer ≡ expected) ⊎ ((answer ≡ status.Fault) ⊎ (answer ≡ status.NoMemory))

-- Usage comes exactly where the words are no command, unless a fault or want of memory comes in its place
pub record TellsUsageFor (command : Option CommandWords) (answer : Status) : Type 0 where
  pub only : answer ≡ status.Usage → command ≡ None
  pub always : command ≡ None → ComesUnlessStopped status.Usage answer

-- the answer that a decision leads to
abbrev pub IsAnswerOf : Verdict → Status → Type 0
IsAnswerOf LacksFile answer = ComesUnlessStopped status.Fault answer
IsAnswerOf (Refuses refusal) answer = ComesUnlessStopped (status_of refusal) answer
IsAnswerOf _ answer = ComesUnlessStopped status.Done answer

abbrev pub refuses : Status → Bool
refuses status.Done = false
refuses status.Fault = false
refuses status.NoMemory = false
refuses _ = true

-- no station's end is told but by a run that is done
abbrev pub LeavesNone : {X : Type 0} → Result Status Stop → List X → Type 0
LeavesNone (Ok answer) ended = answer ≢ status.Done → ended ≡ []
LeavesNone (Err stop) ended = ended ≡ []

-- what a command answers that isn't stopped
abbrev pub IsCommandStatus : Status → Type 0
IsCommandStatus status.Usage = ⊥
IsCommandStatus status.Fault = ⊥
IsCommandStatus status.NoMemory = ⊥
IsCommandStatus _ = Unit {0}
