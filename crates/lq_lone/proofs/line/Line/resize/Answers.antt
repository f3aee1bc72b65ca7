use Rattle.std.proofs.Common.{◌≡◌, ℕ, ◌+◌, ◌-◌, ◌<◌, ◌≤◌, List, length, take, drop, get_or, sym, ap, ◌∙◌, length-drop, arith}
use Rattle.std.specs.Prelude.{min}
use Rattle.std.proofs.lemmas.List.{ext_get_or, get_or-drop, get_or-take, length-take}
use Rattle.lq_model.specs.Band.{Band}
use Rattle.lq_lone.proofs.line.Line.resize.Goals as goal

kept-are : (kept len taken : ℕ) (old now : List ℕ) → length now ≡ length old → taken ≤ length old → kept ≡ min (length old - taken) len
    → ((k : ℕ) → k < kept → get_or now k 0 ≡ get_or old (taken + k) 0) → take kept now ≡ take len (drop taken old)
kept-are kept len taken old now long within is moved =
    let few = length-take kept now in let same = length-take len (drop taken old) in let left = length-drop taken old in
    ext_get_or 0 (take kept now) (take len (drop taken old)) (omega arith)
    (λ i below. get_or-take kept now i 0 (omega arith) ∙ (moved i (omega arith) ∙ (sym (get_or-drop taken old i 0) ∙ sym (get_or-take len (drop taken old) i 0 (omega arith)))))

pub returns : goal.returns
returns c =
    let within = c.args.self.now.within in let test = c.loop-i-test.false in let end = c.loop-i.auto.i-end in
    let same : c.loop-i.i ≡ c.min-kept.result = omega arith in let left = length-drop c.args.self.now.taken c.args.self.now.joined.items in
    ap (λ (l : List ℕ). record { line = l; taken = 0 })
    (c.truncate.ensures.items
    ∙ kept-are c.min-kept.result c.args.len c.args.self.now.taken c.args.self.now.joined.items c.loop-i.self.joined.items c.loop-i.invariant.long (let items = c.args.self.now.joined.ok.0 in omega arith) (let held = c.held.ensures in let least = c.min-kept.ensures in omega arith) (λ k below. c.loop-i.invariant.moved k (omega arith)))
