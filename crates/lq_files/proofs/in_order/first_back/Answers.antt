use Rattle.std.proofs.Common.{◌∙◌}
use Rattle.lq_files.proofs.InOrder.{back-more, back-same, next-before}
use Rattle.lq_files.proofs.in_order.first_back.Goals as goal

pub loop-n-preserved : goal.loop-n-preserved
loop-n-preserved g c =
    let packets = g.F.Frames.packets c.args.frames.now in let inv = c.loop-n.invariant in
    record {
      before = next-before packets c.loop-n.n c.time-time.result c.time-time.ensures;
      found = c.or_packet-found.ensures ∙ back-more packets c.loop-n.n c.loop-n.found _ inv.found (back-same packets c.loop-n.n c.time-time.result c.loop-n.before c.time-time.ensures inv.before);
    }
