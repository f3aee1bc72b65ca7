use Rattle.std.proofs.Common.{◌∙◌, ap}
use Rattle.std.proofs.lemmas.Result.{IfOk-weaker}
use Rattle.clap.specs.Words.{app_of, with_rule}
use Rattle.lq_files.proofs.command.with_operand.Goals as goal

pub returns-clause-app : goal.returns-clause-app
returns-clause-app c =
    IfOk-weaker c.arg.result _ _
    (λ whole adds. adds.shape c.operand.ensures.local ∙ ap (with_rule (app_of c.args.form)) c.operand.ensures.rule) c.arg.ensures

pub returns-clause-local : goal.returns-clause-local
returns-clause-local c =
    IfOk-weaker c.arg.result _ _ (λ whole adds. adds.globals ∙ rw c.requires.local c.operand.ensures.local) c.arg.ensures
