use Rattle.std.proofs.Common.{◌<◌, ◌∙◌, [], ℕ, List, Vec, Global, ap, arith, length, map, set, sym}
use Rattle.std.proofs.lemmas.List.{get_or-map, map-set}
use Rattle.lq_model.specs.declared.fate.Fate.{Fate}
use Rattle.lq_fates.specs.Sent.{laid}
use Rattle.lq_fates.proofs.sent.lay.Goals as goal

pub returns-then-unit-len : goal.returns-then-unit-len
returns-then-unit-len c =
    let items : Vec ℕ Global → List ℕ = λ list. list.items in
    let lists = c.args.lists.now.items in let unit = c.in-Sent.unit in let serial = c.in-Sent.serial in let n = c.args.n in
    let within : unit < length lists = (let below = c.if-unit-len.true in let len = c.len.ensures in omega arith) in
    map-set items lists unit c.lay_at.new.places
    ∙ (ap (λ (list : List ℕ). set (map items lists) unit list)
    (c.lay_at.ensures ∙ ap (λ (list : List ℕ). set list serial n) (ap items c.index_mut.ensures.value ∙ sym (get_or-map items lists unit c.index_mut.result.now [] within)))
    ∙ ap (λ (fate : Fate). laid fate n (map items lists)) (sym c.in-Sent.is))
