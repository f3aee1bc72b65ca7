use Rattle.std.proofs.lemmas.Result.{on_ok_weaker}
use Rattle.lq_fates.specs.TapTexts.{tap_fate_words}
use Rattle.lq_files.proofs.PieceLemmas.{line_next}
use Rattle.lq_files.proofs.source.TapLinesSource.push_piece.Goals as goal

pub returns : goal.returns
returns c =
    on_ok_weaker c.push_tap_fate_line.result
    (line_next tap_fate_words c.args.self.now.fates.now c.args.n _ c.args.text.now.items c.push_tap_fate_line.new.text.items c.requires.piece)
    c.push_tap_fate_line.ensures
