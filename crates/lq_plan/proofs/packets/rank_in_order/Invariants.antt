use Rattle.lq_plan.proofs.Ranks.{IsRankedUpTo}
use Rattle.lq_plan.proofs.packets.rank_in_order.Given as goal

-- those so far have their ranks, and are counted
abbrev pub invariant-loop-n : goal.invariant-loop-n
invariant-loop-n l = IsRankedUpTo l.fn.infos l.senders l.n l.infos l.counts
