use Rattle.std.proofs.Common.{◌++◌, ◌∙◌, ap}
use Rattle.lq_fates.specs.Counts.{total_text}
use Rattle.lq_fates.proofs.CountLemmas.{counts_text_is}
use Rattle.lq_fates.proofs.count_lines.counts_text.Goals as goal

pub returns : goal.returns
returns c fates infos stations units are all =
    counts_text_is fates infos stations units c.args.counts.now c.deref.result.now c.deref-2.result.now c.new-text.result.items c.push_units.new.text.items
    c.push_stations.new.text.items c.push_total.new.text.items are c.deref.ensures.value c.deref-2.ensures.value c.new-text.ensures.items c.in_ok-push_units.ensures
    c.in_ok-push_stations.ensures (c.in_ok-push_total.ensures ∙ ap (λ total. c.push_stations.new.text.items ++ total_text total c.args.counts.now.sent c.args.counts.now.unsent) all)
