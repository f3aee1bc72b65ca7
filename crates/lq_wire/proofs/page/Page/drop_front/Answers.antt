use Rattle.std.proofs.Common.{◌≡◌, ℕ, ◌+◌, ◌-◌, ◌≤◌, List, ◌++◌, length, take, drop, sym, ap, ◌∙◌, arith, length-drop}
use Rattle.std.proofs.lemmas.List.{drop-take, take_at}
use Rattle.std.proofs.Common.{length-take-le}
use Rattle.std.specs.List.{copy_within}
use Rattle.lq_wire.proofs.page.Page.drop_front.Goals as goal

-- what is moved to the start of a list, behind its end nothing counts
moved : (xs new : List ℕ) (i j : ℕ) → i ≤ j → j ≤ length xs → new ≡ copy_within xs i j 0 → take (j - i) new ≡ drop i (take j xs)
moved xs new i j within there is =
    let m = j - i in let whole : i + m ≡ j = omega arith in
    let long : length (take m (drop i xs)) ≡ m = length-take-le m (drop i xs) (simp length-drop (omega arith)) in
    let first : copy_within xs i j 0 ≡ take m (drop i xs) ++ drop m xs = ap (λ (k : ℕ). take m (drop i xs) ++ drop k xs) (let e : 0 + m ≡ m = omega arith in e) in
    ap (take m) (is ∙ first) ∙ (take_at (take m (drop i xs)) (drop m xs) m long ∙ (sym (drop-take i m xs) ∙ ap (λ (k : ℕ). drop i (take k xs)) whole))

pub returns : goal.returns
returns c = moved c.args.self.now.bytes.items c.copy_within.new.self.items c.args.count c.args.self.now.used c.requires c.args.self.now.within c.copy_within.ensures.items
