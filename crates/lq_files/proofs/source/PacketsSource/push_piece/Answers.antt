use Rattle.std.proofs.lemmas.Result.{on_ok_weaker}
use Rattle.lq_files.proofs.PieceLemmas.{packet_next}
use Rattle.lq_files.proofs.source.PacketsSource.push_piece.Goals as goal

pub returns : goal.returns
returns c =
    on_ok_weaker c.push_packet.result
    (packet_next c.args.self.now.capture.now c.args.self.now.numbers.now c.args.n c.args.text.now.items c.push_packet.new.out.items c.requires.piece)
    c.push_packet.ensures
