use Rattle.std.proofs.Common.{arith}
use Rattle.lq_wire.proofs.Digits.{long-number}
use Rattle.lq_wire.proofs.stamp.Stamp.of.Goals as goal

pub write_digits-start-requires : goal.write_digits-start-requires
write_digits-start-requires c = (long-number _ (let h = c.ranges.number.fits in omega arith), omega arith)
