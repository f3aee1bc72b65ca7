use Rattle.std.proofs.Common.{take}
use Rattle.lq_fates.specs.Counts.{AreCounts}
use Rattle.lq_fates.proofs.counts.counts_of.Given as goal

abbrev pub invariant-loop-n : goal.invariant-loop-n
invariant-loop-n g l = AreCounts (take l.n (g.F.Fates.fates l.fates)) (take l.n l.infos) l.stations l.units l.counts
