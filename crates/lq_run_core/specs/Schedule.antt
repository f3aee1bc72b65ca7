-- The text of a schedule: its lines, its words, and what a line of words says.
use Rattle.std.specs.Prelude.{ℕ, Bool, ◌&&◌, ◌||◌, min, not, nat_lt, nat_le, ◌==◌, if◌then◌else◌, List, [], ◌∷◌, length, slice_index, codes, Option, Some, None, option_map}
use Rattle.std.specs.Option.{option_and_then, option_zip}
use Rattle.std.specs.List.{slice_split, list_all}
use Rattle.std.specs.Str.{bytes_eq}
use denote.Ref.{Bor}
use Rattle.std.specs.Char.{is_ascii_digit}
use Rattle.std.specs.Str.Parse.{digits_value}
use Rattle.lq_model.specs.declared.machine.Answer.{Answer}
use Rattle.lq_model.specs.declared.machine.Answer.TheVariants.{Plain, FullSlot, Stop, Hang, Busy}
use Rattle.lq_run_core.specs.declared.trace_run.Progress.{Progress}
use Rattle.lq_model.specs.Machine.{Machine, first_machine}
use Rattle.lq_run_core.specs.Numbered.{IsInRange}
use Rattle.lq_run_core.specs.declared.schedule.Action.{Action}
use Rattle.lq_run_core.specs.declared.schedule.Action.TheVariants.{Begins, Steps}
use Rattle.lq_run_core.specs.declared.start.Start.TheVariants.{Send, SoftIrq, Wake}
use Rattle.lq_run_core.specs.declared.schedule.Command.{Command}

-- LINES

abbrev pub lines_of_pieces : List (List ℕ) → List (List ℕ)
lines_of_pieces [] = []
lines_of_pieces (piece ∷ []) = if length piece == 0 then [] else piece ∷ []
lines_of_pieces (piece ∷ next ∷ more) = piece ∷ lines_of_pieces (next ∷ more)

-- the pieces that end with a line feed, and a last piece that isn't empty
abbrev pub lines : List ℕ → List (List ℕ)
lines text = lines_of_pieces (slice_split (λ b. b == 10) text)

-- it is empty or begins with `#`
abbrev pub is_passed_over : List ℕ → Bool
is_passed_over line = slice_index line 0 == 35 || length line == 0

-- WORDS

-- one space stands between two words
abbrev pub words : List ℕ → List (List ℕ)
words line = slice_split (λ b. b == 32) line

-- NUMBERS

-- decimal digits, with no leading zero unless the number is 0
abbrev pub is_number : List ℕ → Bool
is_number word = nat_lt 0 (length word) && list_all is_ascii_digit word && not (nat_lt 1 (length word) && (slice_index word 0 == 48))

abbrev pub number_of : List ℕ → Option ℕ
number_of word = if is_number word then Some (digits_value 10 word) else None

abbrev pub number_between : ℕ → ℕ → List ℕ → Option ℕ
number_between low high word = option_and_then (λ n. if nat_le low n && nat_le n high then Some n else None) (number_of word)

-- THE FIRST LINE

infixl 10 ◌>>=◌
abbrev pub ◌>>=◌ : {A B : Type 0} → Option A → (A → Option B) → Option B
o >>= f = option_and_then f o

-- a label and a number behind it, from low to high, and the words behind them
abbrev pub labelled : List ℕ → ℕ → ℕ → List (List ℕ) → Option (ℕ × List (List ℕ))
labelled label low high (first ∷ second ∷ more) =
    if bytes_eq first label then option_map (λ n. (n, more)) (number_between low high second) else None
labelled label low high _ = None

abbrev pub set_up : ℕ → ℕ → Bool → Progress
set_up seats len bypass = record { running = record { machine = first_machine seats len bypass 1; next = 0 }; steps = 0 }

-- `seats N len L bypass B`
abbrev pub setup_line_of : List (List ℕ) → Option Progress
setup_line_of line = do
  (seats, behind_seats) ← labelled (codes "seats") 1 8 line
  (len, behind_len) ← labelled (codes "len") 1 4096 behind_seats
  (bypass, behind_bypass) ← labelled (codes "bypass") 0 1 behind_len
  if length behind_bypass == 0 then Some (set_up seats len (bypass == 1)) else None

-- THE OTHER LINES

-- the answer that a step may have beside the plain one
abbrev pub answer_named : List ℕ → Option Answer
answer_named word =
    if bytes_eq word (codes "full") then Some FullSlot
    else if bytes_eq word (codes "stop") then Some Stop
    else if bytes_eq word (codes "hang") then Some Hang
    else if bytes_eq word (codes "busy") then Some Busy
    else None

abbrev pub bare_action : List ℕ → Option Action
bare_action word =
    if bytes_eq word (codes "softirq") then Some (Begins SoftIrq)
    else if bytes_eq word (codes "wake") then Some (Begins Wake)
    else option_map (λ answer. Steps answer 1) (answer_named word)

abbrev pub numbered_action : List ℕ → List ℕ → Option Action
numbered_action word number =
    if bytes_eq word (codes "send") then option_map (λ band. Begins (Send band)) (number_between 0 2 number)
    else if bytes_eq word (codes "step") then option_map (Steps Plain) (number_between 1 1000 number)
    else None

abbrev pub action_of : List (List ℕ) → Option Action
action_of (word ∷ []) = bare_action word
action_of (word ∷ number ∷ []) = numbered_action word number
action_of _ = None

-- a seat's number of any size, and an action
abbrev pub command_of : List (List ℕ) → Option Command
command_of [] = None
command_of (seat ∷ action) = option_map (λ (n, does). record { seat = n; action = does }) (option_zip (number_of seat) (action_of action))

-- WHAT THE CODE CUTS AND COUNTS

-- the pieces of what is left, of which there are none behind the last
abbrev pub pieces_left : ℕ → Option (Bor (List ℕ)) → List (List ℕ)
pieces_left end None = []
pieces_left end (Some rest) = slice_split (λ b. b == end) rest.now

-- a number as 32 bits hold it: the greatest of them stands for each greater one
abbrev pub capped : ℕ → ℕ
capped n = min n 4294967295

abbrev pub capped_seat : Command → Command
capped_seat c = record c { seat = capped c.seat }

-- WHAT IS TOLD TO A MACHINE

-- a start's band and queue are the machine's
abbrev pub IsActionInRange : Action → Machine → Type 0
IsActionInRange (Begins start) m = IsInRange start m
IsActionInRange (Steps answer count) m = Unit {0}
