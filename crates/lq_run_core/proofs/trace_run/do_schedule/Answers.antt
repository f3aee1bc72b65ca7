use Rattle.std.proofs.Common.{◌≡◌, ◌+◌, length, refl, ◌∙◌, arith, rules, ap, List, ℕ}
use Rattle.std.proofs.lemmas.Result.{err_from_is_err_and}
use Rattle.lq_run_core.proofs.Schedules.{lines_more, lines_failed, lines_end}
use Rattle.lq_run_core.proofs.trace_run.do_schedule.Goals as goal

pub loop-rest-preserved : goal.loop-rest-preserved
loop-rest-preserved c =
    let cut = c.first_line.ensures.lines in
    let shorter = c.first_line.ensures.shorter in
    let done = c.in_ok-progress.ensures in
    let inv = c.loop-rest.invariant in
    let one_line = ap (λ (ls : List (List ℕ)). length ls) cut in (
      lines_more c.loop-rest.progress c.in_ok-progress.progress (c.loop-rest.number + 1) c.loop-rest.rest.now c.first_line.result.0.now
          c.first_line.result.1.now _ cut done.done inv.0,
      omega (arith, one_line, inv.1),
      omega (arith, shorter, inv.2),
      omega (arith, shorter, done.sends, inv.3),
      omega (arith, shorter, done.steps, inv.4),
    )

pub returns-in_err-progress : goal.returns-in_err-progress
returns-in_err-progress c =
    let p = err_from_is_err_and c.from_residual.result c.from_residual.ensures.1 in
    rw (p.1, p.2)
    (lines_failed c.loop-rest.progress (c.loop-rest.number + 1) c.in_err-progress.field-0.0 c.loop-rest.rest.now c.first_line.result.0.now
    c.first_line.result.1.now c.args.text.now c.first_line.ensures.lines c.loop-rest.invariant.0 c.in_err-progress.ensures.done)

pub returns-in-Some : goal.returns-in-Some
returns-in-Some c =
    let empty : length c.loop-rest.rest.now ≡ 0 = first_of (search rules, grind arith) in
    lines_end c.loop-rest.progress c.loop-rest.number c.loop-rest.rest.now c.args.text.now empty c.loop-rest.invariant.0 c.loop-rest.invariant.1
    ∙ rw c.in-Some.is refl

pub returns-in-None : goal.returns-in-None
returns-in-None c =
    let empty : length c.loop-rest.rest.now ≡ 0 = first_of (search rules, grind arith) in
    rw c.refusal.ensures
    (lines_end c.loop-rest.progress c.loop-rest.number c.loop-rest.rest.now c.args.text.now empty c.loop-rest.invariant.0 c.loop-rest.invariant.1
    ∙ rw c.in-None.is refl)
