use Rattle.std.proofs.Common.{arith}
use Rattle.lq_fates.proofs.TextLemmas.{long_number}
use Rattle.lq_fates.proofs.line.lay_line.Goals as goal

pub write_digits-requires : goal.write_digits-requires
write_digits-requires c = let few = long_number c.args.n c.ranges.n.fits in let at = c.lay_fate-at.ensures.start in let first = at.0 in let last = at.1 in let len = c.lay_fate-at.ensures.len in (omega arith, omega arith)
