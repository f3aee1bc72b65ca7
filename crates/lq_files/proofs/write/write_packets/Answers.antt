use Rattle.std.proofs.Common.{◌*◌, ◌++◌, refl}
use Rattle.std.proofs.lemmas.Result.{on_ok_weaker, on_err_weaker}
use Rattle.lq_host.proofs.HostLemmas.{wrote_none}
use Rattle.lq_pcapng.specs.File.{text_of}
use Rattle.lq_files.specs.Parts.{packets_from}
use Rattle.lq_files.proofs.MoveLemmas.{on_err_any}
use Rattle.lq_files.proofs.PartLemmas.{IsLeft, streamed_left}
use Rattle.lq_files.proofs.PieceLemmas.{start_pushed, streamed_written, written_cut}
use Rattle.lq_files.proofs.write.write_packets.Given as given
use Rattle.lq_files.proofs.write.write_packets.Goals as goal
use Rattle.lq_files.proofs.write.write_packets.Goals.{In_ok-write_whole_pieces}

pub returns-in_err-push_start-clause-err : goal.returns-in_err-push_start-clause-err
returns-in_err-push_start-clause-err g c =
    let old = g.H.Host.state c.args.host.now in let packets = c.args.packets.now in
    on_err_any c.from_residual.result (wrote_none old old c.args.h (text_of packets.capture.now packets.numbers.now) refl)

pub returns-in_err-write_whole_pieces-clause-err : goal.returns-in_err-write_whole_pieces-clause-err
returns-in_err-write_whole_pieces-clause-err g c =
    let old = g.H.Host.state c.args.host.now in let new = g.H.Host.state c.write_whole_pieces.new.host in let h = c.args.h in
    let capture = c.args.packets.now.capture.now in let sent = c.args.packets.now.numbers.now in let pushed = c.push_start.new.out.items in
    let start = start_pushed old h capture sent c.args.buffers.rest.items pushed c.requires.empty c.in_ok-push_start.ensures in
    on_err_any c.from_residual-in_err-write_whole_pieces.result
    (written_cut old h old new pushed pushed (packets_from capture sent 0) (text_of capture sent) refl start
    c.in_err-write_whole_pieces.ensures.err)

-- what is left once the whole pieces of what stands before the packets are written
left : (g : given.Over) (c : In_ok-write_whole_pieces g)
    → IsLeft (g.H.Host.state c.args.host.now) c.args.h (g.H.Host.state c.write_whole_pieces.new.host)
    (c.write_whole_pieces.new.buffer.items ++ packets_from c.args.packets.now.capture.now c.args.packets.now.numbers.now 0)
    (text_of c.args.packets.now.capture.now c.args.packets.now.numbers.now)
left g c =
    let old = g.H.Host.state c.args.host.now in let mid = g.H.Host.state c.write_whole_pieces.new.host in let h = c.args.h in
    let capture = c.args.packets.now.capture.now in let sent = c.args.packets.now.numbers.now in let text = text_of capture sent in
    let pushed = c.push_start.new.out.items in let rest = c.write_whole_pieces.new.buffer.items in
    let packets = packets_from capture sent 0 in
    let start = start_pushed old h capture sent c.args.buffers.rest.items pushed c.requires.empty c.in_ok-push_start.ensures in
    let pieces = c.in_ok-write_whole_pieces.ensures.ok in
    streamed_left old h mid rest packets text
    (streamed_written old h old mid pushed rest packets text (pieces.0 * 65536) start pieces.1 pieces.2)

pub returns-clause-ok : goal.returns-clause-ok
returns-clause-ok g c =
    on_ok_weaker c.write_source.result
    ((left g (goal.at.returns-clause-ok g c).In_ok-write_whole_pieces).whole (g.H.Host.state c.write_source.new.host))
    c.write_source.ensures.ok

pub returns-clause-err : goal.returns-clause-err
returns-clause-err g c =
    on_err_weaker c.write_source.result
    ((left g (goal.at.returns-clause-err g c).In_ok-write_whole_pieces).front (g.H.Host.state c.write_source.new.host))
    c.write_source.ensures.err
