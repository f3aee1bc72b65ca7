use Rattle.std.proofs.Common.{◌<◌, arith, subst, sym}
use Rattle.lq_pcapng.proofs.Powers.{no_time, ten_fits, ten_some, two_fits}
use Rattle.lq_pcapng.proofs.times.nanoseconds.Goals as goal

pub pow-requires : goal.pow-requires
pow-requires c = two_fits c.from.result (omega arith)

pub returns-then-resolution-gt-MAX_POWER_OF_TEN-clause-time : goal.returns-then-resolution-gt-MAX_POWER_OF_TEN-clause-time
returns-then-resolution-gt-MAX_POWER_OF_TEN-clause-time c =
    no_time c.args.units c.args.resolution (omega arith) c.if-resolution-ge-POWERS_OF_TWO.false c.if-resolution-gt-MAX_POWER_OF_TEN.true

pub pow-requires-2 : goal.pow-requires-2
pow-requires-2 c = ten_fits c.from-2.result (omega arith)

pub nonzero_div-result-2 : goal.nonzero_div-result-2
nonzero_div-result-2 c = subst (λ n. 0 < n) (sym c.pow-2.ensures) (ten_some c.from-2.result)
