use Rattle.std.proofs.Common.{◌++◌, ◌∙◌, ℕ, List, ap, inr, length, subst}
use Rattle.std.proofs.lemmas.Result.{on_err_weaker, on_ok_weaker}
use Rattle.lq_host.specs.Host.{wrote}
use Rattle.lq_model.specs.Plan.{unit_count}
use Rattle.lq_files.specs.Groups.{mq_lines}
use Rattle.lq_files.specs.Written.{OutputHasPrefix}
use Rattle.lq_files.proofs.outputs.write_counted.Goals as goal

pub returns-clause-ok : goal.returns-clause-ok
returns-clause-ok g c infos are =
    let fates = g.F.Fates.fates c.args.fates.now in let plan = c.args.plan.now in
    on_ok_weaker c.write_output.result
    (λ whole. whole ∙ ap (λ (text : List ℕ). wrote (g.H.Host.state c.args.host.now) 0 text)
    (c.deref.ensures.value ∙ (c.in_ok-push_mq_lines.ensures
    ∙ ap (λ text. text ++ mq_lines plan fates) (c.in_ok-text.ensures fates infos (length plan.stations) (unit_count plan) are c.len.ensures))))
    c.write_output.ensures.ok

pub returns-clause-err : goal.returns-clause-err
returns-clause-err g c infos are =
    let fates = g.F.Fates.fates c.args.fates.now in let plan = c.args.plan.now in
    on_err_weaker c.write_output.result
    (λ h. inr (subst (λ (text : List ℕ). OutputHasPrefix text (g.H.Host.state c.args.host.now) (g.H.Host.state c.write_output.new.host))
    (c.deref.ensures.value ∙ (c.in_ok-push_mq_lines.ensures
    ∙ ap (λ text. text ++ mq_lines plan fates) (c.in_ok-text.ensures fates infos (length plan.stations) (unit_count plan) are c.len.ensures))) h))
    c.write_output.ensures.err
