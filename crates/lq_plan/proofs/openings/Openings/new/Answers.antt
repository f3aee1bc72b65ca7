use Rattle.std.proofs.Common.{ap, ◌∙◌, arith}
use Rattle.lq_model.specs.Openings.{openings_by}
use Rattle.lq_plan.proofs.openings.Openings.new.Goals as goal

pub returns-in-Ok : goal.returns-in-Ok
returns-in-Ok g c =
    let plan = c.args.plan.now in let packets = g.F.Frames.packets c.args.frames.now in
    record {
      within = λ n below. omega (arith, c.in-Ok.ensures.count);
      each = λ n sent below number. c.in-Ok.ensures.each plan n below ∙ ap (λ irq. openings_by irq plan packets n) c.in-Period.ensures.irq;
    }
