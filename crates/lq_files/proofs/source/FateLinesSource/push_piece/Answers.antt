use Rattle.std.proofs.Common.{◌++◌, ◌∙◌, ap, sym}
use Rattle.std.specs.Fmt.{decimal}
use Rattle.std.proofs.lemmas.Option.{get_or_from_slice_get}
use Rattle.std.proofs.lemmas.Result.{on_ok_weaker}
use Rattle.lq_model.specs.Texts.{fate_words}
use Rattle.lq_model.specs.declared.fate.Fate.{Fate}
use Rattle.lq_files.proofs.PieceLemmas.{line_next}
use Rattle.lq_files.proofs.source.FateLinesSource.push_piece.Goals as goal

pub returns : goal.returns
returns g c =
    let fates = g.F.Fates.fates c.args.self.now.fates.now in let n = c.args.n in let fate = c.fate.result in let text = c.args.text.now.items in
    on_ok_weaker c.push_fate_line.result
    (λ pushed. line_next fate_words fates n fate text c.push_fate_line.new.text.items c.requires.piece
    (pushed ∙ ap (λ (f : Fate). text ++ (decimal n ++ fate_words f)) (sym (get_or_from_slice_get fates n fate fate c.fate.ensures))))
    c.push_fate_line.ensures
