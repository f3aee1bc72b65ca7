use Rattle.std.proofs.Common.{length, map}
use Rattle.lq_fates.proofs.SentByUnits.{AreAllPlaced}
use Rattle.lq_fates.proofs.sent.sent_by_units.Given as goal

abbrev pub invariant-loop-n : goal.invariant-loop-n
invariant-loop-n g l = AreAllPlaced (g.F.Fates.fates l.fates) (length l.counts) l.n (map (λ list. list.items) l.lists.items)
