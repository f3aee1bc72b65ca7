use Rattle.std.proofs.Common.{◌≡◌, ℕ, List, [], ◌∷◌, ◌++◌, drop, sym, ap, ◌∙◌}
use Rattle.std.specs.Prelude.{codes}
use Rattle.std.specs.Fmt.{decimal}
use Rattle.std.proofs.Math.Seq.{drop-length}
use Rattle.lq_model.specs.declared.fate.Cause.{Cause}
use Rattle.lq_model.specs.declared.fate.Fate.TheVariants.{Purged}
use Rattle.lq_model.specs.Texts.{fate_words}
use Rattle.lq_fates.proofs.line.lay_fate.Goals as goal

-- the line feed ends it
ended : (line at : List ℕ) (end : ℕ) → at ≡ 10 ∷ drop 64 line → end ≡ 64 → drop end line ≡ [] → at ≡ 10 ∷ []
ended line at end written is none = written ∙ ap (λ (xs : List ℕ). 10 ∷ xs) (ap (λ (n : ℕ). drop n line) (sym is) ∙ none)

pub returns-in-Sent-clause-written : goal.returns-in-Sent-clause-written
returns-in-Sent-clause-written c =
    let last = ended c.args.line.now _ _ c.lay_words-end.ensures.written c.requires (drop-length c.args.line.now) in
    c.lay_counted.ensures.written
    ∙ (ap (λ (xs : List ℕ). codes " sent " ++ (decimal c.in-Sent.unit ++ xs)) (c.lay_counted-at.ensures.written ∙ ap (λ (xs : List ℕ). codes " " ++ (decimal c.in-Sent.serial ++ xs)) last)
    ∙ ap fate_words (sym c.in-Sent.is))

pub returns-in-Full-clause-written : goal.returns-in-Full-clause-written
returns-in-Full-clause-written c =
    let last = ended c.args.line.now _ _ c.lay_words-end.ensures.written c.requires (drop-length c.args.line.now) in
    c.lay_counted-in-Full.ensures.written ∙ (ap (λ (xs : List ℕ). codes " full " ++ (decimal c.in-Full.seen ++ xs)) last ∙ ap fate_words (sym c.in-Full.is))

pub returns-in-Shrunk-clause-written : goal.returns-in-Shrunk-clause-written
returns-in-Shrunk-clause-written c =
    let last = ended c.args.line.now _ _ c.lay_words-end.ensures.written c.requires (drop-length c.args.line.now) in
    c.lay_counted-in-Shrunk.ensures.written ∙ (ap (λ (xs : List ℕ). codes " shrunk " ++ (decimal c.in-Shrunk.event ++ xs)) last ∙ ap fate_words (sym c.in-Shrunk.is))

pub returns-in-Event-clause-written : goal.returns-in-Event-clause-written
returns-in-Event-clause-written c =
    let last = ended c.args.line.now _ _ c.lay_words-end.ensures.written c.requires (drop-length c.args.line.now) in
    c.lay_counted-in-Event.ensures.written ∙ (ap (λ (xs : List ℕ). codes " purged " ++ (decimal c.in-Event.event ++ xs)) last
    ∙ (ap (λ (x : Cause). fate_words (Purged x)) (sym c.in-Event.is) ∙ ap fate_words (sym c.in-Purged.is)))

pub returns-in-Hung-clause-written : goal.returns-in-Hung-clause-written
returns-in-Hung-clause-written c =
    let last = ended c.args.line.now _ _ c.lay_words-end.ensures.written c.requires (drop-length c.args.line.now) in
    c.lay_words.ensures.written ∙ (ap (λ (xs : List ℕ). codes " purged hung" ++ xs) last
    ∙ (ap (λ (x : Cause). fate_words (Purged x)) (sym c.in-Hung.is) ∙ ap fate_words (sym c.in-Purged.is)))

pub returns-in-Refused-clause-written : goal.returns-in-Refused-clause-written
returns-in-Refused-clause-written c =
    let last = ended c.args.line.now _ _ c.lay_words-end.ensures.written c.requires (drop-length c.args.line.now) in
    c.lay_counted-in-Refused.ensures.written ∙ (ap (λ (xs : List ℕ). codes " refused " ++ (decimal c.in-Refused.event ++ xs)) last ∙ ap fate_words (sym c.in-Refused.is))
