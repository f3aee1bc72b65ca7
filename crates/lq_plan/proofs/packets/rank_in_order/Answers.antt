use Rattle.std.proofs.Common.{arith, subst, sym}
use Rattle.lq_model.specs.declared.fate.Info.{Info}
use Rattle.lq_plan.proofs.Ranks.{IsRankedUpTo, few-counted, has-place, ranked-more}
use Rattle.lq_plan.proofs.packets.rank_in_order.Goals as goal

abbrev none : Info
none = record { rank = 0; owner = 0; station = 0; band = 0; queue = 0 }

pub next_rank-info-requires-clause-place : goal.next_rank-info-requires-clause-place
next_rank-info-requires-clause-place c =
    has-place c.args.infos.now c.loop-n.infos c.args.senders c.loop-n.n c.loop-n.counts c.loop-n.invariant c.loop-n.auto.infos c.loop-n-test.true c.requires.within none

pub next_rank-info-requires-clause-countable : goal.next_rank-info-requires-clause-countable
next_rank-info-requires-clause-countable c =
    let few = few-counted c.args.infos.now c.loop-n.infos c.args.senders c.loop-n.n c.loop-n.counts c.loop-n.invariant c.loop-n.auto.infos c.loop-n-test.true c.requires.within none in
    omega (arith, few, c.requires.few)

pub loop-n-preserved : goal.loop-n-preserved
loop-n-preserved c =
    let rank = c.next_rank-info.result in
    subst (IsRankedUpTo c.args.infos.now c.args.senders _ _) (sym c.next_rank-info.ensures.counted)
    (ranked-more c.args.infos.now c.loop-n.infos c.args.senders c.loop-n.n c.loop-n.counts c.loop-n.invariant c.loop-n.auto.infos c.loop-n-test.true c.requires.within none rank c.next_rank-info.ensures.rank)
