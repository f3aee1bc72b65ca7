-- What a command leaves of a host whose files it has read.
use Rattle.std.proofs.Common.{◌≡◌, ◌⊎◌, ℕ, Bool, true, false, cond, List, [], ◌∷◌, ◌++◌, drop, Option, None, Some, Result, Ok, Err, IsErrAnd, is_ok, refl, sym, ap, ◌∙◌, subst, inl, inr}
use Rattle.lq_host.specs.Host.{GivenFile, HostState, filed}
use Rattle.lq_model.specs.Device.{DeviceState}
use Rattle.lq_model.specs.Plan.{Plan}
use Rattle.lq_table.specs.Ended.{EndedState}
use Rattle.lq_files.specs.Accepted.{plan_for}
use Rattle.lq_files.specs.Command.{CommandWords, OfGen, OfRun, OfTap, OfTrace, RunWords}
use Rattle.lq_files.specs.Input.{MayHaveRead, file_read}
use Rattle.lq_files.specs.Refusal.{refusal_line}
use Rattle.lq_files.specs.RunFiles.{texts_of}
use Rattle.lq_files.specs.TapFiles.{tap_texts_of}
use Rattle.lq_files.specs.Written.{FileIsCut, FileText, FilesAreCut, IsCut, OutputHasPrefix, Texts, files_written, output_only, written}
use Rattle.lq_files.specs.declared.refusal.Refusal.{Refusal}
use Rattle.lq_files.specs.declared.answer.Status.{Status}
use Rattle.lq_files.specs.Stop.{status_of_stop}
use Rattle.lq_files.specs.declared.answer.Status.TheVariants as status
use Rattle.lq_files.specs.declared.answer.Stop.{Stop}
use Rattle.lq_files.specs.declared.answer.Stop.TheVariants as stops
use Rattle.lq_top.specs.Decision.{Verdict, Generates, LacksFile, Refuses, Runs, Taps, Traces, verdict_of_command}
use Rattle.lq_top.proofs.RunLemmas.{stops_before}
use Rattle.lq_top.specs.Outcome.{Completes, CompletesOrStops, CompletesOrStopsOfSome, IsCommandStatus, OutcomeOfSome, Stops}
use Rattle.lq_top.specs.Reads.{HasReadFiles, HasReadOrStopped, after_reads, files_read}

-- WRITING reads nothing

abbrev SameReads : HostState → HostState → Type 0
SameReads old new = new.given ≡ old.given

files_same : (files : List FileText) (old : HostState) → SameReads old (files_written old files)
files_same [] old = refl
files_same (file ∷ files) old = files_same files (filed old file.name file.text)

written_same : (texts : Texts) (old new : HostState) → new ≡ written texts old → SameReads old new
written_same texts old new is = ap (λ (s : HostState). s.given) is ∙ files_same texts.files old

file_cut_same : (name text : List ℕ) (old new : HostState) → FileIsCut name text old new → SameReads old new
file_cut_same name text old new cut = elim cut [ inl same ↦ ap (λ (s : HostState). s.given) same | inr part ↦ ap (λ (s : HostState). s.given) part.2 ]

files_cut_same : (files : List FileText) (old new : HostState) → FilesAreCut files old new → SameReads old new
files_cut_same [] old new same = ap (λ (s : HostState). s.given) same
files_cut_same (file ∷ files) old new cut =
    elim cut [ inl here ↦ file_cut_same file.name file.text old new here | inr later ↦ files_cut_same files (filed old file.name file.text) new later ]

cut_same : (texts : Texts) (old new : HostState) → IsCut texts old new → SameReads old new
cut_same texts old new cut =
    elim cut [ inl early ↦ files_cut_same texts.files old new early | inr part ↦ ap (λ (s : HostState). s.given) part.2 ∙ files_same texts.files old ]

module _ (old new : HostState) (before after : List DeviceState) where
  completes_same : (v : Verdict) (ended : List EndedState) (answer : Status) → Completes v old new before after ended answer → SameReads old new
  completes_same LacksFile ended answer does = absurd does
  completes_same (Refuses r) ended answer does = written_same (output_only (refusal_line r)) old new does.1
  completes_same (Runs run) ended answer does = written_same (texts_of run does.1.0) old new does.1.3
  completes_same (Generates text run) ended answer does =
      written_same (record (texts_of run does.1.0) { files = record { name = run.out; text = text } ∷ [] }) old new does.1.3
  completes_same (Traces text) ended answer does = written_same (output_only text) old new does.2
  completes_same (Taps words capture) ended answer does = written_same (tap_texts_of words.out capture does.2.0 does.2.1) old new does.2.3

  stops_same : (v : Verdict) → Stops v old new before after → SameReads old new
  stops_same LacksFile left = ap (λ (s : HostState). s.given) left
  stops_same (Refuses r) left = cut_same (output_only (refusal_line r)) old new left
  stops_same (Runs run) left = elim left [ inl same ↦ ap (λ (s : HostState). s.given) same | inr part ↦ cut_same (texts_of run part.0) old new part.2 ]
  stops_same (Generates text run) left = elim left [
    | inl file ↦ elim file [ inl cut ↦ file_cut_same run.out text old new cut | inr whole ↦ ap (λ (s : HostState). s.given) whole ]
    | inr part ↦ ap (λ (s : HostState). s.given) part.2.2
  ]
  stops_same (Traces text) left = cut_same (output_only text) old new left
  stops_same (Taps words capture) left =
      elim left [ inl same ↦ ap (λ (s : HostState). s.given) same | inr part ↦ cut_same (tap_texts_of words.out capture part.0 part.1) old new part.3 ]

  pub does_same : (v : Verdict) (ended : List EndedState) (r : Result Status Stop) → CompletesOrStops v old new before after ended r → SameReads old new
  does_same v ended (Ok answer) does = completes_same v ended answer does
  does_same v ended (Err stop) left = stops_same v left

-- AFTER THE READS

-- the host after its reads is the one before the call, but for what they returned
pub mid_is : (old mid new : HostState) (files : List GivenFile) → mid ≡ record old { given = files } → SameReads mid new → mid ≡ after_reads old new
mid_is old mid new files is same = is ∙ ap (λ (given : List GivenFile). record old { given = given }) (sym (same ∙ ap (λ (s : HostState). s.given) is))

-- so what was done from there on is what the call did
module _ (v : Verdict) (old mid new : HostState) (files : List GivenFile) (before after : List DeviceState) (ended : List EndedState) (r : Result Status Stop)
    (is : mid ≡ record old { given = files }) (does : CompletesOrStops v mid new before after ended r) where
  pub does_after : CompletesOrStops v (after_reads old new) new before after ended r
  does_after = subst (λ (s : HostState). CompletesOrStops v s new before after ended r) (mid_is old mid new files is (does_same mid new before after v ended r does)) does

  pub given_after : new.given ≡ files
  given_after = does_same mid new before after v ended r does ∙ ap (λ (s : HostState). s.given) is

-- THE FILES

-- all were read
pub all_read : (files : List GivenFile) (old new : HostState) (r : Result Status Stop) → new.given ≡ files ++ old.given → HasReadOrStopped files old new r
all_read files old new (Ok answer) is = is
all_read files old new (Err stop) is = (0, is)

-- a run whose plan is accepted reads its capture, too
pub run_reads : (words : RunWords) (have : ℕ) (plan : Plan) (first second : List ℕ) → plan_for have first ≡ Ok plan
    → files_read (Some (OfRun words)) have first second ≡ record { name = words.capture; bytes = second } ∷ record { name = words.plan; bytes = first } ∷ []
run_reads words have plan first second is =
    ap (λ (read : Result Plan Refusal). cond (is_ok read) (record { name = words.capture; bytes = second } ∷ record { name = words.plan; bytes = first } ∷ []) (record { name = words.plan; bytes = first } ∷ [])) is

-- and one whose plan is refused doesn't
pub run_reads_plan : (words : RunWords) (have : ℕ) (r : Refusal) (first second : List ℕ) → plan_for have first ≡ Err r
    → files_read (Some (OfRun words)) have first second ≡ record { name = words.plan; bytes = first } ∷ []
run_reads_plan words have r first second is =
    ap (λ (read : Result Plan Refusal). cond (is_ok read) (record { name = words.capture; bytes = second } ∷ record { name = words.plan; bytes = first } ∷ []) (record { name = words.plan; bytes = first } ∷ [])) is

-- the first of two files, and none of them
first_alone : (b : Bool) (plan capture : GivenFile) → (n : ℕ) × (drop n (cond b (capture ∷ plan ∷ []) (plan ∷ [])) ≡ plan ∷ [])
first_alone true plan capture = (1, refl)
first_alone false plan capture = (0, refl)

neither : (b : Bool) (plan capture : GivenFile) → drop 2 (cond b (capture ∷ plan ∷ []) (plan ∷ [])) ≡ []
neither true plan capture = refl
neither false plan capture = refl

-- a reading that was stopped left what was asked for
pub stopped-at : (name : List ℕ) (old mid new : HostState) (files : List GivenFile) → mid ≡ record old { given = files } → MayHaveRead name mid new
    → ((new ≡ record old { given = files }) ⊎ ((bytes : List ℕ) × (new ≡ record old { given = record { name = name; bytes = bytes } ∷ files })))
stopped-at name old mid new files is left = elim left [
  | inl same ↦ inl (same ∙ is)
  | inr part ↦ inr (part.0, part.1 ∙ ap (λ (s : HostState). file_read s name part.0) is)
]

pub left_handles : (name : List ℕ) (old new : HostState) → MayHaveRead name old new → new.handles ≡ old.handles
left_handles name old new left = elim left [ inl same ↦ ap (λ (s : HostState). s.handles) same | inr part ↦ ap (λ (s : HostState). s.handles) part.1 ]

-- of a host that was stopped while it read, nothing was written
stops_reading : (v : Verdict) (old new : HostState) (files : List GivenFile) (before after : List DeviceState) → new ≡ record old { given = files } → Stops v (after_reads old new) new before after
stops_reading v old new files before after is = stops_before v (after_reads old new) new before after (mid_is old new new files is refl)

abbrev LeftAt : List ℕ → HostState → HostState → List GivenFile → Type 0
LeftAt name old new files = (new ≡ record old { given = files }) ⊎ ((bytes : List ℕ) × (new ≡ record old { given = record { name = name; bytes = bytes } ∷ files }))

pub stopped_reading : (Q : Stop → Type 0) (v : Verdict) (old new : HostState) (name : List ℕ) (files : List GivenFile) (before after : List DeviceState) (ended : List EndedState) (r : Result Status Stop)
    → IsErrAnd r Q → LeftAt name old new files → CompletesOrStops v (after_reads old new) new before after ended r
stopped_reading Q v old new name files before after ended (Ok answer) exit left = absurd exit
stopped_reading Q v old new name files before after ended (Err stop) exit left =
    elim left [ inl same ↦ stops_reading v old new files before after same | inr part ↦ stops_reading v old new _ before after part.1 ]

stopped_read : (Q : Stop → Type 0) (files : List GivenFile) (old new : HostState) (r : Result Status Stop) (n : ℕ) → IsErrAnd r Q → new.given ≡ drop n files ++ old.given → HasReadOrStopped files old new r
stopped_read Q files old new (Ok answer) n exit is = absurd exit
stopped_read Q files old new (Err stop) n exit is = (n, is)

-- a run was stopped while it read its plan
pub run_stopped_at_plan : (Q : Stop → Type 0) (words : RunWords) (have : ℕ) (old new : HostState) (before after : List DeviceState) (ended : List EndedState) (r : Result Status Stop)
    → IsErrAnd r Q → LeftAt words.plan old new old.given → CompletesOrStopsOfSome (Some (OfRun words)) have old new before after ended r
run_stopped_at_plan Q words have old new before after ended r exit left = elim left [
  | inl same ↦ (
    [],
    [],
    stopped_read Q (files_read (Some (OfRun words)) have [] []) old new r 2 exit
        (ap (λ (s : HostState). s.given) same ∙ ap (λ (files : List GivenFile). files ++ old.given) (sym (neither (is_ok (plan_for have [])) (record { name = words.plan; bytes = [] }) (record { name = words.capture; bytes = [] })))),
    stopped_reading Q (verdict_of_command (Some (OfRun words)) have (λ _. Some []) (λ _. Some [])) old new words.plan old.given before after ended r exit (inl same),
  )
  | inr part ↦ (
      let n = first_alone (is_ok (plan_for have part.0)) (record { name = words.plan; bytes = part.0 }) (record { name = words.capture; bytes = [] }) in (
        part.0,
        [],
        stopped_read Q (files_read (Some (OfRun words)) have part.0 []) old new r n.0 exit
            (ap (λ (s : HostState). s.given) part.1 ∙ ap (λ (files : List GivenFile). files ++ old.given) (sym n.1)),
        stopped_reading Q (verdict_of_command (Some (OfRun words)) have (λ _. Some part.0) (λ _. Some [])) old new words.plan old.given before after ended r exit (inr part),
      )
      )
]

-- and while it read its capture, after a plan that was accepted
pub run_stopped_at_capture :
    (Q : Stop → Type 0) (words : RunWords) (have : ℕ) (plan : Plan) (first : List ℕ) → plan_for have first ≡ Ok plan → (old new : HostState) (before after : List DeviceState) (ended : List EndedState)
    (r : Result Status Stop) → IsErrAnd r Q → LeftAt words.capture old new (record { name = words.plan; bytes = first } ∷ old.given) → CompletesOrStopsOfSome (Some (OfRun words)) have old new before after ended r
run_stopped_at_capture Q words have plan first is old new before after ended r exit left =
    let none : List GivenFile = record { name = words.plan; bytes = first } ∷ old.given in
    elim left [
      | inl same ↦ (
        first,
        [],
        stopped_read Q (files_read (Some (OfRun words)) have first []) old new r 1 exit
            (ap (λ (s : HostState). s.given) same ∙ ap (λ (files : List GivenFile). drop 1 files ++ old.given) (sym (run_reads words have plan first [] is))),
        stopped_reading Q (verdict_of_command (Some (OfRun words)) have (λ _. Some first) (λ _. Some [])) old new words.capture none before after ended r exit (inl same),
      )
      | inr part ↦ (
        first,
        part.0,
        stopped_read Q (files_read (Some (OfRun words)) have first part.0) old new r 0 exit
            (ap (λ (s : HostState). s.given) part.1 ∙ ap (λ (files : List GivenFile). files ++ old.given) (sym (run_reads words have plan first part.0 is))),
        stopped_reading Q (verdict_of_command (Some (OfRun words)) have (λ _. Some first) (λ _. Some part.0)) old new words.capture none before after ended r exit (inr part),
      )
    ]

-- a command that reads one file was stopped while it read it
pub one_stopped :
    (Q : Stop → Type 0) (v : List ℕ → List ℕ → Verdict) (name : List ℕ) (old new : HostState) (before after : List DeviceState) (ended : List EndedState) (r : Result Status Stop)
    → IsErrAnd r Q → LeftAt name old new old.given
    → (first second : List ℕ) × HasReadOrStopped (record { name = name; bytes = first } ∷ []) old new r × CompletesOrStops (v first second) (after_reads old new) new before after ended r
one_stopped Q v name old new before after ended r exit left = elim left [
  | inl same ↦ (
    [],
    [],
    stopped_read Q (record { name = name; bytes = [] } ∷ []) old new r 1 exit (ap (λ (s : HostState). s.given) same),
    stopped_reading Q (v [] []) old new name old.given before after ended r exit (inl same),
  )
  | inr part ↦ (
    part.0,
    [],
    stopped_read Q (record { name = name; bytes = part.0 } ∷ []) old new r 0 exit (ap (λ (s : HostState). s.given) part.1),
    stopped_reading Q (v part.0 []) old new name old.given before after ended r exit (inr part),
  )
]

-- a call that came to no file
none_come_to : (command : Option CommandWords) (have : ℕ) (first second : List ℕ) → drop 2 (files_read command have first second) ≡ []
none_come_to None have first second = refl
none_come_to (Some (OfRun words)) have first second = neither (is_ok (plan_for have first)) (record { name = words.plan; bytes = first }) (record { name = words.capture; bytes = second })
none_come_to (Some (OfGen words)) have first second = refl
none_come_to (Some (OfTrace file)) have first second = refl
none_come_to (Some (OfTap words)) have first second = refl

pub nothing_done : (command : Option CommandWords) (have : ℕ) (host : HostState) (devices : List DeviceState) (ended : List EndedState) → OutcomeOfSome command have host host devices devices ended status.NoMemory
nothing_done command have host devices ended = (
  [],
  [],
  (2, ap (λ (files : List GivenFile). files ++ host.given) (sym (none_come_to command have [] []))),
  stops_before (verdict_of_command command have (λ _. Some []) (λ _. Some [])) (after_reads host host) host devices devices refl,
)

-- THE STATUS

pub ends_read : (files : List GivenFile) (old new : HostState) (answer : Status) → IsCommandStatus answer → new.given ≡ files ++ old.given → HasReadFiles files old new answer
ends_read files old new status.Done is read = read
ends_read files old new (status.Plan reason) is read = read
ends_read files old new (status.Bench need have) is read = read
ends_read files old new (status.Capture reason place) is read = read
ends_read files old new (status.Trace reason line) is read = read
ends_read files old new status.Usage is read = absurd is
ends_read files old new status.Fault is read = absurd is
ends_read files old new status.NoMemory is read = absurd is

pub stops_read : (files : List GivenFile) (old new : HostState) (stop : Stop) → (n : ℕ) × (new.given ≡ drop n files ++ old.given) → HasReadFiles files old new (status_of_stop stop)
stops_read files old new stops.Fault read = read
stops_read files old new stops.NoMemory read = read
