use Rattle.lq_lone.specs.Lone.{line_band, lone_state}
use Rattle.lq_lone.proofs.Changes.{lengthened}
use Rattle.lq_lone.proofs.lone.Lone.resize.Goals as goal

pub returns-clause-resizes : goal.returns-clause-resizes
returns-clause-resizes c s event lone =
    lengthened s (lone_state c.args.self.now) lone c.args.len event (line_band c.resize.new.self) (line_band c.resize-2.new.self) (line_band c.resize-3.new.self) c.resize.ensures c.resize-2.ensures c.resize-3.ensures
