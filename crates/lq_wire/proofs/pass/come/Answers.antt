use Rattle.std.proofs.Common.{Bool, sym, subst, ◌∙◌}
use Rattle.lq_model.specs.Alone.{brought_in, events_before, served}
use Rattle.lq_model.specs.Wire.{made_at, with_changes}
use Rattle.lq_model.specs.declared.plan.Card.{Card}
use Rattle.lq_wire.specs.Wired.{StepsTo}
use Rattle.lq_wire.proofs.OnOk.{on-ok}
use Rattle.lq_wire.proofs.Turns.{comes}
use Rattle.lq_wire.proofs.pass.come.Goals as goal

pub returns-clause-came : goal.returns-clause-came
returns-clause-came g c = on-ok c.bring.result c.bring.ensures.brings (λ brings station w fits now-is wired.
    let card = c.args.wired.now.wire.card in let plan = c.args.plan.now in let packets = g.F.Frames.packets c.args.frames.now in let infos = c.args.infos.now in let n = c.args.n in let now = c.args.now in
    let changes = with_changes plan infos (events_before plan n) in
    let first = c.in_ok-change_before.ensures.changes infos w fits.first_queue wired in
    let so = brings infos (made_at card packets now changes w) fits.first_queue (sym c.band_at.ensures) first.wired in
    let next = subst (λ (b : Bool). StepsTo card packets now (λ s. served infos (brought_in infos b n s)) (made_at card packets now changes w) c.bring.new.self) (c.in_ok-change_before.ensures.bypass ∙ c.requires.bypass)
    (subst (λ (k : Card). StepsTo k packets now (λ s. served infos (brought_in infos c.change_before.new.self.station.bypass n s)) (made_at card packets now changes w) c.bring.new.self) c.in_ok-change_before.ensures.card so) in
    comes card plan packets infos station n now w c.change_before.new.self c.bring.new.self now-is first next)
