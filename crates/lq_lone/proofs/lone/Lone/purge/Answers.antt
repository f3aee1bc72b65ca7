use Rattle.lq_lone.specs.Lone.{line_band, lone_state}
use Rattle.lq_lone.proofs.Changes.{purged}
use Rattle.lq_lone.proofs.lone.Lone.purge.Goals as goal

pub returns-clause-purges : goal.returns-clause-purges
returns-clause-purges c s cause lone =
    purged s (lone_state c.args.self.now) lone cause (line_band c.empty.new.self) (line_band c.empty-2.new.self) (line_band c.empty-3.new.self) c.empty.ensures c.empty-2.ensures c.empty-3.ensures
