use Rattle.std.proofs.Common.{◌∙◌, All, arith, drop, length, subst, sym}
use Rattle.std.proofs.lemmas.List.{take_at}
use Rattle.lq_plan.specs.Packets.{IsInfoWithin}
use Rattle.lq_plan.proofs.Ranks.{has-count, ranked-are, ranked-within}
use Rattle.lq_plan.proofs.packets.infos.Goals as goal

pub rank_in_order-requires-clause-within : goal.rank_in_order-requires-clause-within
rank_in_order-requires-clause-within g c =
    let counts = has-count c.args.plan.now (g.F.Frames.packets c.args.frames.now) c.lay_unranked.new.infos c.lay_unranked.ensures in
    λ k d lt. (omega (arith, (counts k d lt).0, c.senders.ensures.senders), (counts k d lt).1)

pub returns-clause-infos : goal.returns-clause-infos
returns-clause-infos g c =
    take_at c.rank_in_order.new.infos (drop (length c.rank_in_order.new.infos) c.in-Ok.infos.items) c.in-Ok.infos.len
    (omega (arith, c.rank_in_order.auto.infos, c.lay_unranked.auto.infos, c.as_mut_slice-each.ensures.len))
    ∙ (c.in-Ok-rank_in_order.ensures ∙ ranked-are c.args.plan.now (g.F.Frames.packets c.args.frames.now) c.lay_unranked.new.infos c.lay_unranked.ensures)

pub returns-clause-within : goal.returns-clause-within
returns-clause-within g c =
    subst (All (IsInfoWithin c.args.plan.now)) (sym (returns-clause-infos g c))
    (ranked-within c.args.plan.now (g.F.Frames.packets c.args.frames.now) c.lay_unranked.new.infos c.lay_unranked.ensures)
