use Rattle.lq_model.specs.Alone.{opened, served}
use Rattle.lq_lone.specs.Lone.{lone_state}
use Rattle.lq_lone.proofs.Serves.{from-opened, opens}
use Rattle.lq_lone.proofs.lone.Lone.open.Goals as goal

pub returns-clause-opens : goal.returns-clause-opens
returns-clause-opens c infos s queues lone =
    from-opened c.serve.result (lone_state c.args.self.now) (lone_state c.serve.new.self) s (served infos (opened s)) lone
    (c.serve.ensures.serves infos (opened s) queues (opens (lone_state c.args.self.now) s lone))
