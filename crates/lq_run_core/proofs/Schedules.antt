-- A schedule worked line by line.
use Rattle.std.proofs.Common.{◌≡◌, ℕ, suc, ◌+◌, ◌-◌, ◌<◌, ◌≤◌, ◌^◌, ◌⊎◌, inl, inr, min, ltb, Bool, true, false, cond, List, [], ◌∷◌, length, Option, Some, None, Result, Ok, Err, refl, sym, ◌∙◌, arith, eqb, add-zero}
use Rattle.std.specs.Prelude.{unwrap_or, is_some, option_map, option_and_then}
use Rattle.std.specs.Option.{ok_or}
use Rattle.std.specs.List.{slice_split}
use Rattle.std.proofs.lemmas.Bool.{cases_lt, le-ltb}
use Rattle.std.proofs.lemmas.List.{length-set}
use Rattle.lq_model.specs.declared.machine.Answer.{Answer}
use Rattle.lq_model.specs.Machine.{Machine, seat_at}
use Rattle.lq_model.specs.Steps.{step_of, step_at, with_seat}
use Rattle.lq_run_core.specs.Schedule.{lines, lines_of_pieces, command_of, capped_seat}
use Rattle.lq_run_core.specs.declared.schedule.Command.{Command}
use Rattle.lq_run_core.specs.declared.trace_run.Progress.{Progress}
use Rattle.lq_run_core.specs.declared.trace_run.TraceReason.TheVariants.{Syntax}
use Rattle.lq_run_core.specs.declared.trace_run.TraceRefusal.{TraceRefusal}
use Rattle.lq_run_core.specs.declared.trace_run.TraceRefusal.TheVariants.{Refused, NoMemory}
use Rattle.lq_run_core.specs.Trace.{FailedLine, steps_of, command_done, told_line_done, line_done, lines_done, schedule_done, Tells, ◌>>=◌}
use Rattle.lq_run_core.proofs.Pieces.{split_cons}

-- LINES

lines_cons : (line : List ℕ) (pieces : List (List ℕ)) → (piece : List ℕ) × (more : List (List ℕ)) × (pieces ≡ piece ∷ more) → lines_of_pieces (line ∷ pieces) ≡ line ∷ lines_of_pieces pieces
lines_cons line pieces h = rw h.2 refl

-- a line and what is behind its line feed
pub lines_cut : (text line : List ℕ) (behind : List ℕ) → slice_split (λ b. eqb b 10) text ≡ line ∷ slice_split (λ b. eqb b 10) behind → lines text ≡ line ∷ lines behind
lines_cut text line behind e = rw e (lines_cons line _ (split_cons (λ b. eqb b 10) behind))

-- STEPS

seats_of_some : (b : Bool) (m n : Machine) → length n.seats ≡ length m.seats → length (unwrap_or (cond b (Some n) None) m).seats ≡ length m.seats
seats_of_some true m n e = e
seats_of_some false m n e = refl

-- a step leaves as many seats
pub length-step : (m : Machine) (i : ℕ) (a : Answer) → length (unwrap_or (step_of m i a) m).seats ≡ length m.seats
length-step m i a = seats_of_some _ m (with_seat m i (step_at (seat_at m i).position a m.qdisc (seat_at m i))) (length-set _ _ _)

and_then_some : {A B : Type 0} (f : A → Option B) (o : Option A) (d : A) → is_some o ≡ true → option_and_then f o ≡ f (unwrap_or o d)
and_then_some f (Some x) d e = refl
and_then_some f None d e = cc

-- the first of some steps is done
pub steps_more : (k count seat : ℕ) (a : Answer) (m : Machine) → k < count → is_some (step_of m seat a) ≡ true → steps_of (count - k) seat a m ≡ steps_of (count - (k + 1)) seat a (unwrap_or (step_of m seat a) m)
steps_more k count seat a m h e =
    let one_more : count - k ≡ suc (count - (k + 1)) = omega arith in
    rw one_more (and_then_some (steps_of (count - (k + 1)) seat a) (step_of m seat a) m e)

-- LINES IN ORDER

-- one line more
pub lines_more : (p q : Option Progress) (n : ℕ) (text line behind : List ℕ) (whole : Result (Option Progress) FailedLine) → lines text ≡ line ∷ lines behind → line_done p n line ≡ Ok q → lines_done p n (lines text) ≡ whole → lines_done q (n + 1) (lines behind) ≡ whole
lines_more p q n text line behind whole cut done same =
    let after : lines_done p n (lines text) ≡ lines_done q (n + 1) (lines behind) = rw (cut, done) refl in
    sym after ∙ same

-- a line fails, and the schedule with it
pub lines_failed : (p : Option Progress) (n : ℕ) (refusal : TraceRefusal) (text line behind whole : List ℕ) → lines text ≡ line ∷ lines behind → lines_done p n (lines text) ≡ lines_done None 1 (lines whole) → Tells {A = Option Progress} (λ q. q) (Err refusal) (line_done p n line) → Tells {A = Progress} (λ q. q) (Err refusal) (schedule_done whole)
unfolding schedule_done
lines_failed p n (Refused reason number) text line behind whole cut same failed = rw (sym same, cut, failed) refl
lines_failed p n NoMemory text line behind whole cut same failed = tt

-- behind the last line
pub lines_end : (p : Option Progress) (n : ℕ) (rest whole : List ℕ) → length rest ≡ 0 → lines_done p (n + 1) (lines rest) ≡ lines_done None 1 (lines whole) → n + length (lines rest) ≡ length (lines whole) → schedule_done whole ≡ ok_or p (record { reason = Syntax; line = n + 1 })
unfolding schedule_done
lines_end p n [] whole e same count = rw (sym same, sym count, add-zero n) refl
lines_end p n (b ∷ rest) whole e same count = absurd (omega arith)

-- COMMANDS

-- a seat's number that 32 bits don't hold is no seat's, as its last value is
pub capped_command : (p : Progress) (n : ℕ) (c : Command) → length p.running.machine.seats < 2 ^ 32 → command_done p n (capped_seat c) ≡ command_done p n c
capped_command p n c few = pick (cases_lt c.seat (length p.running.machine.seats))
  where
    pick : (c.seat < length p.running.machine.seats) ⊎ (length p.running.machine.seats ≤ c.seat) → command_done p n (capped_seat c) ≡ command_done p n c
    pick (inl inside) = let same : min c.seat 4294967295 ≡ c.seat = omega arith in rw same refl
    pick (inr outside) =
        let capped_outside : ltb (min c.seat 4294967295) (length p.running.machine.seats) ≡ false = le-ltb _ _ (omega arith) in
        let seat_outside : ltb c.seat (length p.running.machine.seats) ≡ false = le-ltb _ _ outside in
        rw (capped_outside, seat_outside) refl

commanded : (p : Progress) (n : ℕ) (read : Option Command) (c : Command) → length p.running.machine.seats < 2 ^ 32 → option_map capped_seat read ≡ Some c → (ok_or read (record { reason = Syntax; line = n }) >>= command_done p n) ≡ command_done p n c
commanded p n None c few e = cc
commanded p n (Some read) c few e = let same : capped_seat read ≡ c = cc in rw (sym same) (sym (capped_command p n read few))

-- a line that is a command
pub line_commanded : (p : Progress) (n : ℕ) (line : List (List ℕ)) (c : Command) → length p.running.machine.seats < 2 ^ 32 → option_map capped_seat (command_of line) ≡ Some c → told_line_done (Some p) n line ≡ command_done p n c
line_commanded p n line c few e = commanded p n (command_of line) c few e
