use Rattle.std.proofs.Common.{◌≤◌, ◌+◌, ◌∙◌, List, ℕ, Vec, Global, ap, arith, length, map, subst, sym}
use Rattle.std.proofs.lemmas.Simd.{map-map}
use Rattle.lq_fates.specs.Sent.{laid}
use Rattle.lq_fates.proofs.SentByUnits.{AreAllPlaced, all_placed, has_place, next_placed, none_placed}
use Rattle.lq_fates.proofs.sent.sent_by_units.Goals as goal

abbrev items : Vec ℕ Global → List ℕ
items list = list.items

pub loop-n-init : goal.loop-n-init
loop-n-init g c =
    none_placed (g.F.Fates.fates c.args.fates.now) c.args.counts.now (map items c.in_ok-lists.lists.items) c.requires.counted
    (map-map length items c.in_ok-lists.lists.items ∙ c.in_ok-lists.ensures)

pub lay-requires : goal.lay-requires
lay-requires g c =
    has_place (g.F.Fates.fates c.args.fates.now) (length c.args.counts.now) c.loop-n.n (map items c.loop-n.lists.items) c.requires.serials c.loop-n.invariant c.fate.result c.fate.ensures

pub loop-n-preserved : goal.loop-n-preserved
loop-n-preserved g c =
    let fates = g.F.Fates.fates c.args.fates.now in let units = length c.args.counts.now in let lists = map items c.loop-n.lists.items in
    subst (AreAllPlaced fates units (c.loop-n.n + 1)) (sym (c.lay.ensures ∙ ap (λ n. laid c.fate.result n lists) c.in_ok-number.ensures.ok))
    (next_placed fates units c.loop-n.n lists c.requires.serials c.loop-n.invariant c.fate.result c.fate.ensures)

pub returns : goal.returns
returns g c =
    let fates = g.F.Fates.fates c.args.fates.now in
    let end : length fates ≤ c.loop-n.n = (let over = c.loop-n-test.false in let len = c.len-n-end.ensures in omega arith) in
    all_placed fates (length c.args.counts.now) c.loop-n.n (map items c.loop-n.lists.items) c.requires.serials end c.loop-n.invariant
