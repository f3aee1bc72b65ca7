use Rattle.lq_model.specs.Alone.{brought_in, served}
use Rattle.lq_wire.proofs.OnOk.{on-ok}
use Rattle.lq_wire.proofs.Stepped.{steps-to}
use Rattle.lq_wire.proofs.wired.Wired.bring.Goals as goal

pub returns-clause-brings : goal.returns-clause-brings
returns-clause-brings g c = on-ok c.accept_some.result c.accept_some.ensures.accepts (λ accepts infos w queues in_band wired.
    steps-to c.args.self.now.wire.card (g.F.Frames.packets c.args.frames.now) c.args.now (λ s. served infos (brought_in infos c.args.self.now.station.bypass c.args.n s)) c.in_ok-accepted.accepted w
    (record { wire = c.accept_some.new.self; station = c.bring.new.self }) (c.in_ok-accepted.ensures.brings infos w.station queues in_band wired.station) (accepts w wired.wire))
