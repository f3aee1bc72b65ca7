use Rattle.std.proofs.lemmas.Result.{IfOk-weaker}
use Rattle.lq_files.proofs.command.with_form.Goals as goal

pub returns : goal.returns
returns c =
    let local = rw c.in_ok-form.was at c.requires.local in
    IfOk-weaker c.subcommand.result _ _ (λ whole adds. rw c.in_ok-form.was (adds.shape local)) c.subcommand.ensures
