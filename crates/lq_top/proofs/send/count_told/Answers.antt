use denote.Ref.{NamedLft}
use mir.Syntax.{named}
use Rattle.std.proofs.Common.{◌≡◌, ◌⊎◌, List, OnErr, subst}
use Rattle.lq_model.specs.declared.fate.Fate.{Fate}
use Rattle.lq_files.specs.RunFiles.{counts_output}
use Rattle.lq_files.specs.Written.{OutputHasPrefix}
use Rattle.lq_top.proofs.FatesShared.{fates-shared}
use Rattle.lq_top.proofs.send.count_told.Goals as goal

pub write_counts-requires-sync-F : goal.write_counts-requires-sync-F
write_counts-requires-sync-F g c κs live = record { shared = λ d b o κ. (fates-shared (record { mir = named 0; lft = _ })).shared d b o κ }

pub returns-clause-err : goal.returns-clause-err
returns-clause-err g c =
    let old = g.H.Host.state c.args.host.now in let new = g.H.Host.state c.write_counts.new.host in
    subst (λ (fates : List Fate). OnErr c.write_counts.result ((new ≡ old) ⊎ OutputHasPrefix (counts_output c.args.plan.now c.args.infos.now fates) old new))
    c.new-fates.ensures c.write_counts.ensures.err
