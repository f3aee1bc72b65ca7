-- What a schedule leaves of the machine, and the text that tells it.
use Rattle.std.specs.Prelude.{ℕ, zero, suc, ◌+◌, nat_lt, Bool, if◌then◌else◌, MatchBool, List, [], ◌∷◌, length, Option, Some, None, option_map, option_and_then, Result, Ok, Err, ◌≡◌, ⊤}
use Rattle.std.specs.Option.{ok_or}
use Rattle.lq_model.specs.declared.machine.Answer.{Answer}
use Rattle.lq_model.specs.Machine.{Machine}
use Rattle.lq_model.specs.Steps.{step_of}
use Rattle.lq_run_core.specs.Numbered.{begun_by, is_send}
use Rattle.lq_run_core.specs.declared.schedule.Action.{Action}
use Rattle.lq_run_core.specs.declared.schedule.Action.TheVariants.{Begins, Steps}
use Rattle.lq_run_core.specs.declared.schedule.Command.{Command}
use Rattle.lq_run_core.specs.declared.trace_run.Progress.{Progress}
use Rattle.lq_run_core.specs.declared.trace_run.TraceReason.{TraceReason}
use Rattle.lq_run_core.specs.declared.trace_run.TraceReason.TheVariants.{Syntax, NoSeat, SeatWaits}
use Rattle.lq_run_core.specs.declared.trace_run.TraceRefusal.{TraceRefusal}
use Rattle.lq_run_core.specs.declared.trace_run.TraceRefusal.TheVariants.{Refused, NoMemory}
use Rattle.lq_run_core.specs.Schedule.{lines, is_passed_over, words, setup_line_of, command_of}

-- WORKING A SCHEDULE

-- so many steps of a seat, each with this answer; None where one of them can't be done
abbrev pub steps_of : ℕ → ℕ → Answer → Machine → Option Machine
steps_of zero seat answer m = Some m
steps_of (suc count) seat answer m = option_and_then (steps_of count seat answer) (step_of m seat answer)

-- a call begins, which is no step, or steps are done
abbrev pub action_done : Progress → ℕ → Action → Option Progress
action_done p seat (Begins start) =
    option_map (λ m. record p { running = record { machine = m; next = if is_send start then p.running.next + 1 else p.running.next } })
    (begun_by start seat p.running)
action_done p seat (Steps answer count) =
    option_map (λ m. record { running = record p.running { machine = m }; steps = p.steps + count })
    (steps_of count seat answer p.running.machine)

-- why a schedule is refused, and the number of the line that fails first
pub record FailedLine : Type 0 where
  pub reason : TraceReason
  pub line : ℕ

infixl 10 ◌>>=◌
abbrev pub ◌>>=◌ : {A B E : Type 0} → Result A E → (A → Result B E) → Result B E
(Err e) >>= f = Err e
(Ok x) >>= f = f x

abbrev pub command_done : Progress → ℕ → Command → Result Progress FailedLine
command_done p n c =
    if nat_lt c.seat (length p.running.machine.seats) then ok_or (action_done p c.seat c.action) (record { reason = SeatWaits; line = n })
    else Err (record { reason = NoSeat; line = n })

-- line n: the first sets the machine up, each other tells a seat to do something
abbrev pub told_line_done : Option Progress → ℕ → List (List ℕ) → Result Progress FailedLine
told_line_done None n line = ok_or (setup_line_of line) (record { reason = Syntax; line = n })
told_line_done (Some p) n line = ok_or (command_of line) (record { reason = Syntax; line = n }) >>= command_done p n

abbrev pub line_done : Option Progress → ℕ → List ℕ → Result (Option Progress) FailedLine
line_done p n line = if is_passed_over line then Ok p else told_line_done p n (words line) >>= λ next. Ok (Some next)

-- the lines from number n on, in order, up to the first that fails
abbrev pub lines_done : Option Progress → ℕ → List (List ℕ) → Result (Option Progress) FailedLine
lines_done p n [] = Ok p
lines_done p n (line ∷ more) = line_done p n line >>= λ next. lines_done next (n + 1) more

-- what a schedule leaves, or the first line that fails; where every line is passed over, the line after the last
unfoldable pub schedule_done : List ℕ → Result Progress FailedLine
schedule_done text = lines_done None 1 (lines text) >>= λ p. ok_or p (record { reason = Syntax; line = length (lines text) + 1 })

-- true where it can be done, and this is what it leaves; false where it can't
abbrev pub IsDoneWherePossible : {A : Type 0} → Bool → Option A → A → Type 0
IsDoneWherePossible could done left = MatchBool could (done ≡ Some left) (done ≡ None)

-- the answer, seen by view, is what is wanted; want of memory is free
abbrev pub Tells : {A B : Type 0} → (A → B) → Result A TraceRefusal → Result B FailedLine → Type 0
Tells view (Ok x) wanted = wanted ≡ Ok (view x)
Tells view (Err (Refused reason line)) wanted = wanted ≡ Err (record { reason = reason; line = line })
Tells view (Err NoMemory) wanted = ⊤

-- THE COUNTS THAT ARE LIMITED

-- how many transmits were begun, and how many steps were done
abbrev pub sends_so_far : Option Progress → ℕ
sends_so_far None = 0
sends_so_far (Some p) = p.running.next

abbrev pub steps_so_far : Option Progress → ℕ
steps_so_far None = 0
steps_so_far (Some p) = p.steps
