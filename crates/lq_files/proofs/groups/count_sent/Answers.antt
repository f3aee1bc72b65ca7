use Rattle.std.proofs.Common.{◌+◌, ◌≤◌, ◌∙◌, length, sym, ap₂, subst}
use Rattle.std.specs.Prelude.{count_by}
use Rattle.std.proofs.lemmas.List.Sums.{count_by-le-length}
use Rattle.lq_files.specs.Groups.{is_sent_between}
use Rattle.lq_files.proofs.GroupPackets.{group_length}
use Rattle.lq_files.proofs.groups.count_sent.Goals as goal

pub returns-clause-sent : goal.returns-clause-sent
returns-clause-sent g c =
    c.count_sent_between.ensures
    ∙ (ap₂ (λ low mq. count_by (is_sent_between low (low + mq)) (g.F.Fates.fates c.args.fates.now)) c.first-first.ensures.first c.mq.ensures.mq
    ∙ sym (group_length c.args.plan.now (g.F.Fates.fates c.args.fates.now) c.args.j))

pub returns-clause-few : goal.returns-clause-few
returns-clause-few g c =
    subst (λ n. n ≤ length (g.F.Fates.fates c.args.fates.now)) (sym c.count_sent_between.ensures) (count_by-le-length (is_sent_between c.first-first.result (c.first-first.result + c.mq.result)) (g.F.Fates.fates c.args.fates.now))
