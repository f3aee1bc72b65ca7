-- A line of four words or more is of no form.
use Rattle.std.proofs.Common.{◌==◌, refl}
use Rattle.lq_run_core.proofs.Pieces.{split_cons}
use Rattle.lq_run_core.proofs.schedule.read_action.Goals as goal

pub returns-in-Some-default-Some-clause-action : goal.returns-in-Some-default-Some-clause-action
returns-in-Some-default-Some-clause-action c =
    let third = split_cons (λ b. b == 32) c.in-Some-default-Some.field-0-1-0.now in
    let more = c.in-Some-default-Some.field-0-1-is in
    rw (c.in_ok-verb.ensures, c.in-Some-default-Some.ensures, more, third.2) refl
