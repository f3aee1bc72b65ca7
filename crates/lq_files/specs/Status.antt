-- The numbers of statuses.
use Rattle.std.specs.Prelude.{ℕ}
use Rattle.lq_files.specs.declared.answer.Status.{Status}
use Rattle.lq_files.specs.declared.answer.Status.TheVariants.{Done, Usage, Plan, Bench, Capture, Fault, NoMemory, Trace}

-- the exit status of the program
abbrev pub code_of : Status → ℕ
code_of Done = 0
code_of Usage = 2
code_of (Plan reason) = 3
code_of (Bench need have) = 3
code_of (Capture reason place) = 4
code_of Fault = 5
code_of NoMemory = 6
code_of (Trace reason line) = 7
