use Rattle.lq_model.specs.Alone.{changed, served}
use Rattle.lq_wire.proofs.OnOk.{on-ok}
use Rattle.lq_wire.proofs.Stepped.{steps-to}
use Rattle.lq_wire.proofs.wired.Wired.change.Goals as goal

pub returns-clause-changes : goal.returns-clause-changes
returns-clause-changes g c = on-ok c.accept_some.result c.accept_some.ensures.accepts (λ accepts plan event infos w queues wired.
    steps-to c.args.self.now.wire.card (g.F.Frames.packets c.args.frames.now) c.args.now (λ s. served infos (changed plan event c.args.kind s)) c.change-accepted.result w
    (record { wire = c.accept_some.new.self; station = c.change-accepted.new.self }) (c.change-accepted.ensures.changes plan event infos w.station queues wired.station) (accepts w wired.wire))
