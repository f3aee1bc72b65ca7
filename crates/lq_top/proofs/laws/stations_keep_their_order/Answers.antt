use Rattle.std.proofs.Common.{◌≡◌, ◌<◌, Some, length, subst, sym, ap, ◌∙◌}
use Rattle.std.proofs.lemmas.Option.{same_Some}
use Rattle.lq_account_laws.specs.Progress.{start_of}
use Rattle.lq_account_laws.proofs.AsPlanned.{legal-of}
use Rattle.lq_model.specs.Account.{Account, Take}
use Rattle.lq_model.specs.Legal.{Comes}
use Rattle.lq_model.specs.Plan.{infos_of}
use Rattle.lq_model.specs.declared.fate.Fate.TheVariants as fate
use Rattle.lq_pcapng.specs.File.{packets_of_file}
use Rattle.lq_top.proofs.AccountLemmas.{comes_there, saw_its_slot}
use Rattle.lq_files.proofs.TextLemmas.{length-infos_of}
use Rattle.lq_top.proofs.laws.stations_keep_their_order.Goals as goal

pub returns-clause-full : goal.returns-clause-full
returns-clause-full c = λ run fates before after station n seen are below inside of there.
    let has = are.of_run.accounts station below in
    let closed = has.2 in
    let within : n < length (infos_of run.plan (packets_of_file run.capture)) = subst (λ count. n < count) (sym (length-infos_of run.plan (packets_of_file run.capture))) inside in
    let given = closed.decided n within of in
    let same : given.0 ≡ fate.Full seen = same_Some _ _ (sym given.1 ∙ there) in
    saw_its_slot run.plan (infos_of run.plan (packets_of_file run.capture)) station n seen has.0 closed.orderly.comes
    (legal-of run.plan (infos_of run.plan (packets_of_file run.capture)) fates station has.0 has.1 closed).planned
    (ap (λ (a : Account). a.fates n) (sym closed.account) ∙ (given.2 ∙ ap Some same))

pub returns-clause-order : goal.returns-clause-order
returns-clause-order c = λ run fates before after are station below later earlier band is.
    let has = are.of_run.accounts station below in
    comes_there (infos_of run.plan (packets_of_file run.capture)) station (start_of run.plan station) later earlier (Take band)
    (subst (Comes (infos_of run.plan (packets_of_file run.capture)) station (start_of run.plan station)) is has.2.orderly.comes)
