use Rattle.std.proofs.Common.{◌<◌, ◌+◌, ◌∙◌, ap, length, sym}
use Rattle.std.proofs.lemmas.List.Sums.{count_by_more_no, count_by_more_yes}
use Rattle.std.proofs.lemmas.Option.{get_or_from_slice_get, slice_get_within}
use Rattle.lq_files.specs.Groups.{is_sent_between}
use Rattle.lq_files.proofs.groups.count_sent_between.Goals as goal
use Rattle.lq_files.proofs.groups.count_sent_between.Goals.{then-is_sent_between, else-is_sent_between}

pub loop-n-preserved : goal.loop-n-preserved
loop-n-preserved g c =
    let fates = g.F.Fates.fates c.args.fates.now in let n = c.loop-n.n in let fate = c.fate.result in
    let test = is_sent_between c.args.low c.args.high in
    let within : n < length fates = slice_get_within fates n fate c.fate.ensures in
    let read = ap test (get_or_from_slice_get fates n fate fate c.fate.ensures) ∙ sym c.is_sent_between.ensures in
    elim c.if-is_sent_between.branch [
      | then-is_sent_between w ↦ w.count-is ∙ (ap (λ k. k + 1) c.loop-n.invariant ∙ sym (count_by_more_yes test fates n fate within (read ∙ w.if-is_sent_between.true)))
      | else-is_sent_between w ↦ w.count-is ∙ (c.loop-n.invariant ∙ sym (count_by_more_no test fates n fate within (read ∙ w.if-is_sent_between.false)))
    ]
