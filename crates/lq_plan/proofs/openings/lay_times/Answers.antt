use Rattle.std.proofs.Common.{◌≡◌, ◌*◌, length, sym, ap, ◌∙◌, subst, arith}
use Rattle.std.specs.Prelude.{min}
use Rattle.lq_model.specs.Openings.{multiples_between}
use Rattle.std.proofs.lemmas.List.{length-replicate}
use Rattle.lq_plan.proofs.Times.{AreTimesUpTo, times-all, times-first, times-more}
use Rattle.lq_plan.proofs.openings.lay_times.Goals as goal
use Rattle.lq_plan.proofs.openings.lay_times.Goals.{then-n-gt0, else-n-gt0}

pub loop-n-preserved : goal.loop-n-preserved
loop-n-preserved g c =
    let packets = g.F.Frames.packets c.args.frames.now in
    let long : length c.args.times.now ≡ packets.count = ap length c.requires.zeros ∙ length-replicate packets.count 0 in
    elim c.if-n-gt0.branch [
      | then-n-gt0 w ↦
          subst (AreTimesUpTo c.args.microseconds packets _ _) (sym w.times-is)
          (times-more c.args.microseconds packets c.loop-n.n c.loop-n.earlier c.time-time.result w.multiples_between.result c.loop-n.times c.loop-n.invariant w.if-n-gt0.true (omega arith) c.time-time.ensures
          (w.multiples_between.ensures ∙ ap (λ p. min 65535 (multiples_between (p * 1000) c.loop-n.earlier c.time-time.result)) c.from-period.ensures))
      | else-n-gt0 w ↦
          subst (AreTimesUpTo c.args.microseconds packets _ _) (sym w.times-is)
          (times-first c.args.microseconds packets c.loop-n.n c.loop-n.earlier c.time-time.result c.loop-n.times c.loop-n.invariant (omega arith) c.time-time.ensures)
    ]

pub returns : goal.returns
returns g c =
    let packets = g.F.Frames.packets c.args.frames.now in
    let long : length c.args.times.now ≡ packets.count = ap length c.requires.zeros ∙ length-replicate packets.count 0 in
    let end : c.loop-n.n ≡ packets.count = omega arith in
    times-all c.args.microseconds packets c.loop-n.n c.loop-n.earlier c.loop-n.times c.loop-n.invariant end (omega arith)
