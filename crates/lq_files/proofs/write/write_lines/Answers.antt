use Rattle.std.proofs.Common.{◌++◌, ◌∙◌, List, ap, ℕ, subst}
use Rattle.std.proofs.lemmas.Result.{on_ok_weaker, on_err_weaker}
use Rattle.lq_host.specs.Host.{wrote}
use Rattle.lq_files.specs.Parts.{IsFront}
use Rattle.lq_files.proofs.write.write_lines.Goals as goal

pub returns-clause-ok : goal.returns-clause-ok
returns-clause-ok g c =
    let text = g.S.Source.from c.args.lines.now 0 in
    on_ok_weaker c.write_source.result
    (λ whole. whole ∙ ap (λ rest. wrote (g.H.Host.state c.args.host.now) c.args.h (rest ++ text)) c.requires.empty)
    c.write_source.ensures.ok

pub returns-clause-err : goal.returns-clause-err
returns-clause-err g c =
    let text = g.S.Source.from c.args.lines.now 0 in
    on_err_weaker c.write_source.result
    (λ part. subst (λ (rest : List ℕ). IsFront (g.H.Host.state c.args.host.now) c.args.h (g.H.Host.state c.write_source.new.host) (rest ++ text)) c.requires.empty part)
    c.write_source.ensures.err
