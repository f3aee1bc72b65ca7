-- What the program's exit status tells.
use Rattle.std.specs.Prelude.{◌≡◌, ◌≢◌, ◌⊎◌, ℕ, List, map, drop, replicate, IfSome, Result, Ok, Err, Vec, String, string_bytes}
use Rattle.std.specs.IoError.{error_kind}
use Rattle.std.specs.Global.{Global}
use Rattle.std.specs.declared.io.Error.{Error}
use Rattle.std.specs.declared.io.ErrorKind.TheVariants.{OutOfMemory}
use Rattle.std.specs.Vec.Iter.{into_iter_items}
use Rattle.std.specs.declared.vec.IntoIter.{IntoIter}
use Rattle.lq_model.specs.Device.{DeviceState}
use Rattle.lq_device.specs.Bench.{unconfigured}
use Rattle.lq_host.specs.Host.{HostState, Rose}
use Rattle.lq_table.specs.Ended.{EndedState}
use Rattle.lq_files.specs.Command.{command_of_words}
use Rattle.lq_top.specs.Decision.{verdict_of}
use Rattle.lq_top.specs.Reads.{after_reads}
use Rattle.lq_top.specs.Outcome.{IsAnswerOf, Outcome, OutcomeOfSome, TellsUsageFor}
use Rattle.lq_files.specs.Status.{code_of}
use Rattle.lq_files.specs.declared.answer.Status.{Status}
use Rattle.lq_files.specs.declared.answer.Status.TheVariants as answer

-- THE CALL

-- the bench: 16 devices that were never configured
abbrev pub new_bench : List DeviceState
new_bench = replicate 16 unconfigured

-- a host at a time: its state, and how many of its calls have failed
pub record HostAt : Type 0 where
  pub state : HostState
  pub faults : ℕ

abbrev pub host_at : HostState → ℕ → HostAt
host_at state faults = record { state = state; faults = faults }

-- The number is the code of the status that a call with these words answered on such a bench.
pub record IsCodeOfCall (words : List (List ℕ)) (old new : HostAt) (number : ℕ) : Type 0 where
  pub status : Status
  pub code : number ≡ code_of status
  pub after : List DeviceState
  pub ended : List EndedState
  -- what words, files and bench decide was answered and left; where the host tells nothing of its files, of the bytes that its reads returned
  pub outcome : IfSome old.state.told (λ c. Outcome (verdict_of words c.files 16) (after_reads old.state new.state) new.state new_bench after ended status)
  pub some : OutcomeOfSome (command_of_words words) 16 old.state new.state new_bench after ended status
  -- Usage is for words that are no command, and what was decided comes unless a fault or want of memory does
  pub usage : TellsUsageFor (command_of_words words) status
  pub complete : IfSome old.state.told (λ c. IsAnswerOf (verdict_of words c.files 16) status)
  -- Fault comes exactly where a call of the host failed
  pub fault : status ≡ answer.Fault → Rose old.faults new.faults
  pub calm : status ≢ answer.Fault → new.faults ≡ old.faults

-- the number for words on a host: that of a call; or 6 where memory was wanting before it, and nothing is done
abbrev pub IsCodeOfWords : List (List ℕ) → HostAt → HostAt → ℕ → Type 0
IsCodeOfWords words old new number = ((number ≡ 6) × (new ≡ old)) ⊎ IsCodeOfCall words old new number

-- THE PROGRAM

-- the number for arguments that can't be had: 6 for want of memory, and 9 for every other cause
pub record IsErrorCode (error : Error) (number : ℕ) : Type 0 where
  pub memory : error_kind error ≡ OutOfMemory → number ≡ 6
  pub other : error_kind error ≢ OutOfMemory → number ≡ 9

-- the arguments that are left, the first of which is the program's own name
abbrev pub Line : Type 0
Line = IntoIter (String Global) Global

-- the texts are those behind the name, unless memory is wanting
abbrev pub AreTextsOf : Line → Result (Vec (String Global) Global) ℕ → Type 0
AreTextsOf line (Ok texts) = texts.items ≡ drop 1 (into_iter_items line)
AreTextsOf line (Err number) = number ≡ 6

-- arguments that can't be had give no texts
abbrev pub GivesErrorCode : Error → Result (Vec (String Global) Global) ℕ → Type 0
GivesErrorCode error (Ok texts) = ⊥
GivesErrorCode error (Err number) = IsErrorCode error number

abbrev pub TellsTexts : Result Line Error → Result (Vec (String Global) Global) ℕ → Type 0
TellsTexts (Ok line) result = AreTextsOf line result
TellsTexts (Err error) result = GivesErrorCode error result

-- The exit status for the arguments that the program was given, over a host. Arguments that can't be had leave it as it was.
abbrev pub IsCodeOfLine : Result Line Error → HostAt → HostAt → ℕ → Type 0
IsCodeOfLine (Ok line) old new number = IsCodeOfWords (map string_bytes (drop 1 (into_iter_items line))) old new number
IsCodeOfLine (Err error) old new number = IsErrorCode error number × (new ≡ old)
