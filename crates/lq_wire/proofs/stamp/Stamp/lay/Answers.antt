use Rattle.std.proofs.Common.{arith}
use Rattle.lq_wire.proofs.Digits.{long-number}
use Rattle.lq_wire.proofs.stamp.Stamp.lay.Goals as goal

pub write_digits-requires : goal.write_digits-requires
write_digits-requires c = let few = long-number c.args.number c.ranges.number.fits in let r = c.requires in let first = r.0 in (omega arith, r.1)

pub returns-then-self-eq0-clause-start : goal.returns-then-self-eq0-clause-start
returns-then-self-eq0-clause-start c = let few = long-number c.args.number c.ranges.number.fits in let at = c.write_digits.ensures.start in omega arith
