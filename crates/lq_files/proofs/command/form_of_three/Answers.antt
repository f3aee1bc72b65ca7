use Rattle.std.proofs.Common.{◌∙◌, ap, codes}
use Rattle.std.proofs.lemmas.Result.{IfOk-weaker}
use Rattle.clap.specs.Words.{with_rule}
use Rattle.lq_files.specs.Forms.{operand_rule}
use Rattle.lq_files.proofs.command.form_of_three.Goals as goal

pub returns-clause-app : goal.returns-clause-app
returns-clause-app c =
    let before = c.in_ok-form.ensures.app ∙ ap (λ a. with_rule a (operand_rule (codes "SECOND"))) c.in_ok-form_of_one.ensures.app in
    IfOk-weaker c.with_operand-2.result _ _ (λ whole app. app ∙ ap (λ a. with_rule a (operand_rule (codes "THIRD"))) before)
    c.with_operand-2.ensures.app
