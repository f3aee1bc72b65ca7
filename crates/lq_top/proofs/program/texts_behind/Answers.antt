use Rattle.std.proofs.Common.{◌∙◌, ap, drop, length}
use Rattle.std.specs.Vec.Iter.{into_iter_items}
use Rattle.std.proofs.lemmas.Iterator.Adapters.{YieldsList-from_vec}
use Rattle.std.proofs.lemmas.Iterator.{items_from_collect}
use Rattle.lq_top.proofs.ProgramLemmas.{left_behind}
use Rattle.lq_top.proofs.program.texts_behind.Goals as goal

pub returns : goal.returns
returns c =
    let all = c.args.args in
    let rest = c.next.new.self in
    let left = left_behind c.next.result (into_iter_items all) (into_iter_items rest) all.rest.len all.rest.ok.0 c.next.ensures.variant c.next.ensures.items in
    items_from_collect c.collect.result c.collect.ensures.ran (YieldsList-from_vec (drop 1 (into_iter_items all)) left (rest.rest.ok.0 ∙ ap length left))
