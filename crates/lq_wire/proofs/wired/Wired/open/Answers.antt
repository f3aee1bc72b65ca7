use Rattle.lq_model.specs.Alone.{opened, served}
use Rattle.lq_wire.proofs.OnOk.{on-ok}
use Rattle.lq_wire.proofs.Stepped.{steps-to}
use Rattle.lq_wire.proofs.wired.Wired.open.Goals as goal

pub returns-clause-opens : goal.returns-clause-opens
returns-clause-opens g c = on-ok c.accept_some.result c.accept_some.ensures.accepts (λ accepts infos w queues wired.
    steps-to c.args.self.now.wire.card (g.F.Frames.packets c.args.frames.now) c.args.now (λ s. served infos (opened s)) c.open-accepted.result w
    (record { wire = c.accept_some.new.self; station = c.open-accepted.new.self }) (c.open-accepted.ensures.opens infos w.station queues wired.station) (accepts w wired.wire))
