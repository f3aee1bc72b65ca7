use Rattle.std.proofs.Common.{◌<◌, arith}
use Rattle.lq_model.specs.Wire.{after_wired, first_wired}
use Rattle.lq_wire.specs.Wired.{none_told}
use Rattle.lq_wire.proofs.OnOk.{both-ok}
use Rattle.lq_wire.proofs.times.Times.go_on.Goals as goal

pub returns : goal.returns
returns g c = both-ok c.finish.result c.finish.ensures.finished c.finish.ensures.card (λ finished same station fits at.
    let packets = g.F.Frames.packets c.args.frames.now in let count = c.requires.count in let over = c.if-n-infos.false in let there = c.requires.there in
    let below : c.args.n < packets.count = omega arith in record {
      next = λ more. absurd (omega arith);
      time = λ more. absurd (omega arith);
      load = λ more. absurd (omega arith);
      bypass = λ more. absurd (omega arith);
      last = λ is. finished station (none_told (after_wired c.args.self.now.wired.wire.card c.args.plan.now packets c.args.infos.now (first_wired station) c.args.n)) fits (at.wired below);
      of_card = same;
    })
