use denote.Ref.{NamedLft}
use mir.Syntax.{named}
use Rattle.std.proofs.Common.{List, OnErr, subst}
use Rattle.lq_model.specs.declared.fate.Fate.{Fate}
use Rattle.lq_files.specs.Reports.{run_texts}
use Rattle.lq_files.specs.Written.{IsCut}
use Rattle.lq_top.proofs.FatesShared.{fates-shared}
use Rattle.lq_top.proofs.send.write_told.Goals as goal

pub write_report-requires-sync-F : goal.write_report-requires-sync-F
write_report-requires-sync-F g c κs live = record { shared = λ d b o κ. (fates-shared (record { mir = named 0; lft = _ })).shared d b o κ }

pub returns-clause-err : goal.returns-clause-err
returns-clause-err g c =
    subst (λ (fates : List Fate). OnErr c.write_report.result (IsCut (run_texts c.args.run.now fates) (g.H.Host.state c.args.host.now) (g.H.Host.state c.write_report.new.host)))
    c.new-fates.ensures c.write_report.ensures.err
