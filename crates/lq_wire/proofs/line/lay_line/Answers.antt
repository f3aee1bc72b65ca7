use Rattle.std.proofs.Common.{◌≡◌, ℕ, List, [], ◌∷◌, ◌++◌, drop, sym, ap, ◌∙◌}
use Rattle.std.specs.Prelude.{codes}
use Rattle.std.specs.Fmt.{decimal}
use Rattle.std.proofs.Math.Seq.{drop-length}
use Rattle.lq_wire.proofs.line.lay_line.Goals as goal

-- the line feed ends it
ended : (line at : List ℕ) (end : ℕ) → at ≡ 10 ∷ drop 64 line → end ≡ 64 → drop end line ≡ [] → at ≡ 10 ∷ []
ended line at end written is none = written ∙ ap (λ (xs : List ℕ). 10 ∷ xs) (ap (λ (n : ℕ). drop n line) (sym is) ∙ none)

pub returns-clause-written : goal.returns-clause-written
returns-clause-written c =
    let last = ended c.args.line.now _ _ c.lay_byte-end.ensures.written c.requires (drop-length c.args.line.now) in
    let third = c.lay-at.ensures.written ∙ ap (λ (xs : List ℕ). decimal c.args.third ++ xs) last in
    let blank = c.lay_byte-end-2.ensures.written ∙ ap (λ (xs : List ℕ). codes " " ++ xs) third in
    let second = c.lay-at-2.ensures.written ∙ ap (λ (xs : List ℕ). decimal c.args.second ++ xs) blank in
    let before = c.lay_byte-end-3.ensures.written ∙ ap (λ (xs : List ℕ). codes " " ++ xs) second in
    c.lay_number.ensures.written ∙ ap (λ (xs : List ℕ). decimal c.args.first ++ xs) before
