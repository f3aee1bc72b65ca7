use Rattle.std.proofs.Common.{ℕ, ◌≤◌, ◌<◌, ◌^◌, length, arith}
use Rattle.std.specs.Fmt.{decimal}
use Rattle.std.proofs.lemmas.Fmt.{length-decimal-le}
use Rattle.lq_wire.proofs.line.lay_number.Goals as goal

-- how long a number is
long-number : (n : ℕ) → n < 2 ^ 64 → length (decimal n) ≤ 20
long-number n h = length-decimal-le 20 n (omega arith) (let few : n < 10 ^ 20 = omega arith in few) h

pub write_digits-requires : goal.write_digits-requires
write_digits-requires c = let few = long-number c.args.number c.ranges.number.fits in let r = c.requires in let first = r.0 in (omega arith, r.1)

pub returns-clause-start : goal.returns-clause-start
returns-clause-start c = let few = long-number c.args.number c.ranges.number.fits in let at = c.write_digits.ensures.start in omega arith
