use Rattle.std.proofs.Common.{arith}
use Rattle.lq_fates.proofs.TextLemmas.{short_number}
use Rattle.lq_fates.proofs.line.lay_number.Goals as goal

pub write_digits-requires : goal.write_digits-requires
write_digits-requires c = let few = short_number c.args.n c.ranges.n.fits in let r = c.requires in let first = r.0 in (omega arith, r.1)

pub returns-clause-start : goal.returns-clause-start
returns-clause-start c = let few = short_number c.args.n c.ranges.n.fits in let at = c.write_digits.ensures.start in omega arith
