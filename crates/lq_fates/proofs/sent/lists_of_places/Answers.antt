use Rattle.std.proofs.Common.{◌∷◌, ◌++◌, ◌∙◌, [], List, ℕ, Vec, Global, ap, ap₂, length, map, sym}
use Rattle.std.proofs.lemmas.List.{length-replicate, map-append, take_more}
use Rattle.lq_fates.proofs.sent.lists_of_places.Goals as goal

pub loop-unit-preserved : goal.loop-unit-preserved
loop-unit-preserved c =
    let long : Vec ℕ Global → ℕ = λ list. length list.items in let unit = c.loop-unit.unit in let counts = c.args.counts.now in
    ap (map long) c.in_ok-push_list.ensures
    ∙ (map-append long c.loop-unit.lists.items (c.in_ok-list.list ∷ [])
    ∙ (ap₂ (λ (xs : List ℕ) (x : ℕ). xs ++ x ∷ []) c.loop-unit.invariant (ap length c.in_ok-list.ensures ∙ length-replicate _ 0)
    ∙ sym (take_more counts unit 0 c.loop-unit-test.true)))
