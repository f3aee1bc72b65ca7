use Rattle.lq_files.proofs.RunFilesLemmas.{counts_of_plan}
use Rattle.lq_files.proofs.outputs.write_counts.Goals as goal

pub returns-clause-ok : goal.returns-clause-ok
returns-clause-ok g c =
    c.write_counted.ensures.ok c.args.infos.now
    (counts_of_plan c.args.plan.now (g.F.Fates.fates c.args.fates.now) c.args.infos.now c.stations.result c.units.result c.in_ok-counts.counts c.stations.ensures.stations c.units.ensures.units c.in_ok-counts.ensures)

pub returns-clause-err : goal.returns-clause-err
returns-clause-err g c =
    c.write_counted.ensures.err c.args.infos.now
    (counts_of_plan c.args.plan.now (g.F.Fates.fates c.args.fates.now) c.args.infos.now c.stations.result c.units.result c.in_ok-counts.counts c.stations.ensures.stations c.units.ensures.units c.in_ok-counts.ensures)
