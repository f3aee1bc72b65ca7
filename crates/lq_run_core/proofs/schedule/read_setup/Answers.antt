-- A first line of seven words or more is of no form.
use Rattle.std.proofs.Common.{ℕ, ◌==◌, ◌≡◌, if◌then◌else◌, List, length, arith, true, false, Option, None, Some, refl, sym, Bor}
use Rattle.std.specs.Option.{is_some}
use Rattle.std.specs.List.{slice_split}
use Rattle.lq_run_core.specs.declared.trace_run.Progress.{Progress}
use Rattle.lq_run_core.specs.Schedule.{pieces_left}
use Rattle.lq_run_core.proofs.Pieces.{split_cons}
use Rattle.lq_run_core.proofs.schedule.read_setup.Goals as goal

setup_long : (rest : Option (Bor (List ℕ))) (setup : Option Progress)
    → true ≡ is_some rest → None ≡ (if length (pieces_left 32 rest) == 0 then setup else None)
setup_long None setup e = cc
setup_long (Some rest) setup e =
    let more : (length (slice_split (λ b. b == 32) rest.now) == 0) ≡ false = rw (split_cons (λ b. b == 32) rest.now).2 (grind arith) in
    rw more refl

pub returns-then-is_some-clause-setup : goal.returns-then-is_some-clause-setup
returns-then-is_some-clause-setup c =
    rw (sym c.in_ok-seats.ensures.number, sym c.in_ok-len.ensures.number, sym c.in_ok-bypass.ensures.number) (setup_long c.in_ok-bypass.rest _ c.if-is_some.ensures)
