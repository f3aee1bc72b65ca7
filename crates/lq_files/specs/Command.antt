-- The command line.
use Rattle.std.specs.Prelude.{ℕ, ◌≤◌, Bool, false, not, ◌==◌, if◌then◌else◌, List, [], ◌∷◌, map, Option, Some, None, option_map, option_and_then, codes}
use Rattle.std.specs.Borrow.{Bor}
use Rattle.std.specs.List.{list_all}
use Rattle.std.specs.Str.{bytes_eq}
use Rattle.lq_run_core.specs.Schedule.{number_between}
use Rattle.lq_fates.specs.Tap.{IsTapWithin}
use Rattle.lq_files.specs.declared.command.Command.{Command}
use Rattle.lq_files.specs.declared.command.Command.TheVariants.{Run, Gen, Trace, Tap}
use Rattle.lq_files.specs.declared.command.RunOperands.{RunOperands}
use Rattle.lq_files.specs.declared.command.GenOperands.{GenOperands}
use Rattle.lq_files.specs.declared.command.TapOperands.{TapOperands}

-- COMMANDS

-- the operands of `run PLAN CAPTURE OUT`
pub record RunWords : Type 0 where
  pub plan : List ℕ
  pub capture : List ℕ
  pub out : List ℕ

-- the operands of `gen NUMBER COUNT OUT`
pub record GenWords : Type 0 where
  pub number : ℕ
  pub count : ℕ
  pub out : List ℕ

-- the operands of `tap SENDERS LEN BATCH CAPTURE OUT`
pub record TapWords : Type 0 where
  pub senders : ℕ
  pub len : ℕ
  pub batch : ℕ
  pub capture : List ℕ
  pub out : List ℕ

-- a command, with its operands; that of `trace FILE` is a name
pub data CommandWords : Type 0 where
  OfRun : RunWords → CommandWords
  OfGen : GenWords → CommandWords
  OfTrace : List ℕ → CommandWords
  OfTap : TapWords → CommandWords

-- THE TABLE

-- not empty, and with no dash in front
abbrev pub is_operand : List ℕ → Bool
is_operand [] = false
is_operand (c ∷ cs) = not (c == 45)

abbrev pub gen_of : List ℕ → List ℕ → List ℕ → Option CommandWords
gen_of number count out =
    option_and_then (λ n. option_map (λ k. OfGen (record { number = n; count = k; out = out })) (number_between 0 1000000 count)) (number_between 0 4294967295 number)

abbrev pub tap_of : List ℕ → List ℕ → List ℕ → List ℕ → List ℕ → Option CommandWords
tap_of senders len batch capture out =
    option_and_then (λ s. option_and_then (λ l. option_map (λ b. OfTap (record { senders = s; len = l; batch = b; capture = capture; out = out }))
    (number_between 1 64 batch)) (number_between 1 4096 len)) (number_between 1 8 senders)

-- the command of a verb and its operands, if they are one
abbrev pub command_with : List ℕ → List (List ℕ) → Option CommandWords
command_with verb (file ∷ []) = if bytes_eq verb (codes "trace") then Some (OfTrace file) else None
command_with verb (first ∷ second ∷ third ∷ []) =
    if bytes_eq verb (codes "run") then Some (OfRun (record { plan = first; capture = second; out = third }))
    else if bytes_eq verb (codes "gen") then gen_of first second third
    else None
command_with verb (senders ∷ len ∷ batch ∷ capture ∷ out ∷ []) =
    if bytes_eq verb (codes "tap") then tap_of senders len batch capture out else None
command_with verb _ = None

-- the command that the words are, if they are one
abbrev pub command_of_words : List (List ℕ) → Option CommandWords
command_of_words [] = None
command_of_words (verb ∷ operands) = if list_all is_operand operands then command_with verb operands else None

-- WHAT IS READ

abbrev pub bytes_of_words : List (Bor (List ℕ)) → List (List ℕ)
bytes_of_words words = map (λ word. word.now) words

abbrev pub run_words : RunOperands → RunWords
run_words run = record { plan = run.plan.now; capture = run.capture.now; out = run.out.now }

abbrev pub gen_words : GenOperands → GenWords
gen_words gen = record { number = gen.number; count = gen.count; out = gen.out.now }

abbrev pub tap_words : TapOperands → TapWords
tap_words tap = record { senders = tap.senders; len = tap.len; batch = tap.batch; capture = tap.capture.now; out = tap.out.now }

abbrev pub command_words : Command → CommandWords
command_words (Run run) = OfRun (run_words run)
command_words (Gen gen) = OfGen (gen_words gen)
command_words (Trace file) = OfTrace file.now
command_words (Tap tap) = OfTap (tap_words tap)

-- a generated capture has few records, and a tap's numbers are within its limits
abbrev pub AreOperandsWithin : Option CommandWords → Type 0
AreOperandsWithin None = Unit {0}
AreOperandsWithin (Some (OfRun words)) = Unit {0}
AreOperandsWithin (Some (OfGen words)) = words.count ≤ 1000000
AreOperandsWithin (Some (OfTrace file)) = Unit {0}
AreOperandsWithin (Some (OfTap words)) = IsTapWithin words.senders words.len words.batch
