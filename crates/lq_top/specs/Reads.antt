-- Which files a command reads, and what that leaves of the host.
use Rattle.std.specs.Prelude.{◌≡◌, ℕ, if◌then◌else◌, List, [], ◌∷◌, ◌++◌, drop, Option, Some, Result, Ok, Err, is_ok}
use Rattle.lq_host.specs.Host.{GivenFile, HostState}
use Rattle.lq_files.specs.Accepted.{plan_for}
use Rattle.lq_files.specs.Command.{CommandWords, OfRun, OfTap, OfTrace}
use Rattle.lq_files.specs.declared.answer.Status.{Status}
use Rattle.lq_files.specs.declared.answer.Status.TheVariants as status
use Rattle.lq_files.specs.declared.answer.Stop.{Stop}

-- The files that a command reads, the latest first; its reads return these bytes of the first one and of the second one. A run reads its plan,
-- and its capture only if the plan is accepted.
abbrev pub files_read : Option CommandWords → ℕ → List ℕ → List ℕ → List GivenFile
files_read (Some (OfRun words)) have first second =
    let plan : GivenFile = record { name = words.plan; bytes = first } in
    if is_ok (plan_for have first) then record { name = words.capture; bytes = second } ∷ plan ∷ [] else plan ∷ []
files_read (Some (OfTrace file)) have first second = record { name = file; bytes = first } ∷ []
files_read (Some (OfTap words)) have first second = record { name = words.capture; bytes = first } ∷ []
files_read _ have first second = []

-- The host was asked for these files, each once, and for no other. A call that was stopped on the way may not have come to the last of them.
abbrev pub HasReadFiles : List GivenFile → HostState → HostState → Status → Type 0
HasReadFiles files old new status.Fault = (n : ℕ) × (new.given ≡ drop n files ++ old.given)
HasReadFiles files old new status.NoMemory = (n : ℕ) × (new.given ≡ drop n files ++ old.given)
HasReadFiles files old new answer = new.given ≡ files ++ old.given

-- the same of a command inside
abbrev pub HasReadOrStopped : List GivenFile → HostState → HostState → Result Status Stop → Type 0
HasReadOrStopped files old new (Ok answer) = new.given ≡ files ++ old.given
HasReadOrStopped files old new (Err stop) = (n : ℕ) × (new.given ≡ drop n files ++ old.given)

-- the host before a call, with all that its reads returned up to the end of the call
abbrev pub after_reads : HostState → HostState → HostState
after_reads old new = record old { given = new.given }
