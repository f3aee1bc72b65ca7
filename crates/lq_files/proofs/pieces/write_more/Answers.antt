use Rattle.std.proofs.Common.{◌≡◌, ◌*◌, ◌/◌, ◌++◌, ◌∙◌, ap, length, refl, arith}
use Rattle.lq_host.proofs.HostLemmas.{wrote_none}
use Rattle.lq_files.proofs.MoveLemmas.{on_err_any}
use Rattle.lq_files.proofs.PartLemmas.{all_kept, both_parts, piece_cut, piece_written, pieces_cut, pieces_written}
use Rattle.lq_files.proofs.pieces.write_more.Goals as goal

pub returns-in_err-extend_from_slice-clause-err : goal.returns-in_err-extend_from_slice-clause-err
returns-in_err-extend_from_slice-clause-err g c =
    let old = g.H.Host.state c.args.host.now in
    on_err_any c.from_residual.result (wrote_none old old c.args.h (c.args.rest.now.items ++ c.args.text.now) refl)

pub returns-then-len-lt-PIECE-clause-ok : goal.returns-then-len-lt-PIECE-clause-ok
returns-then-len-lt-PIECE-clause-ok g c =
    let whole : c.min-fill.result ≡ length c.args.text.now =
    (let short = c.if-len-lt-PIECE.true in let len = c.len-2.ensures in let long = c.in_ok-extend_from_slice.ensures.len in let fill = c.min-fill.ensures in let front = c.split_at.ensures.front_len in let rest = c.len.ensures in omega arith) in
    all_kept (g.H.Host.state c.args.host.now) c.args.h c.args.rest.now.items c.split_at.result.0.now c.args.text.now c.extend_from_slice.new.self.items c.min-fill.result
    c.in_ok-extend_from_slice.ensures.items c.split_at.ensures.front whole

pub returns-in_err-write_text-clause-err : goal.returns-in_err-write_text-clause-err
returns-in_err-write_text-clause-err g c =
    let text = c.args.text.now in
    let first = c.split_at.result.0.now in
    let more = c.split_at.result.1.now in
    on_err_any c.from_residual-in_err-write_text.result
    (piece_cut (g.H.Host.state c.args.host.now) c.args.h (g.H.Host.state c.write_text.new.host) c.args.rest.now.items first more text c.extend_from_slice.new.self.items c.deref.result.now
    c.in_ok-extend_from_slice.ensures.items (both_parts c.min-fill.result first more text c.split_at.ensures.front c.split_at.ensures.back) c.deref.ensures.value c.in_err-write_text.ensures.err)

pub returns-in_err-write_text-2-clause-err : goal.returns-in_err-write_text-2-clause-err
returns-in_err-write_text-2-clause-err g c =
    let old = g.H.Host.state c.args.host.now in
    let mid = g.H.Host.state c.write_text.new.host in
    let rest = c.args.rest.now.items in
    let text = c.args.text.now in
    let first = c.split_at.result.0.now in
    let more = c.split_at.result.1.now in
    let whole = c.split_at-2.result.0.now in
    let last = c.split_at-2.result.1.now in
    on_err_any c.from_residual-in_err-write_text-2.result
    (pieces_cut old c.args.h mid (g.H.Host.state c.write_text-2.new.host) whole last more (rest ++ text)
    (piece_written old c.args.h mid rest first more text c.extend_from_slice.new.self.items c.deref.result.now c.in_ok-extend_from_slice.ensures.items
    (both_parts c.min-fill.result first more text c.split_at.ensures.front c.split_at.ensures.back) c.deref.ensures.value c.in_ok-write_text.ensures.ok)
    (both_parts (length more / 65536 * 65536) whole last more c.split_at-2.ensures.front c.split_at-2.ensures.back) c.in_err-write_text-2.ensures.err)

pub returns-clause-ok : goal.returns-clause-ok
returns-clause-ok g c =
    let old = g.H.Host.state c.args.host.now in
    let mid = g.H.Host.state c.write_text.new.host in
    let rest = c.args.rest.now.items in
    let text = c.args.text.now in
    let first = c.split_at.result.0.now in
    let more = c.split_at.result.1.now in
    let whole = c.split_at-2.result.0.now in
    let last = c.split_at-2.result.1.now in
    pieces_written old c.args.h mid (g.H.Host.state c.write_text-2.new.host) whole last more c.extend_from_slice-2.new.self.items (rest ++ text)
    (piece_written old c.args.h mid rest first more text c.extend_from_slice.new.self.items c.deref.result.now c.in_ok-extend_from_slice.ensures.items
    (both_parts c.min-fill.result first more text c.split_at.ensures.front c.split_at.ensures.back) c.deref.ensures.value c.in_ok-write_text.ensures.ok)
    (both_parts (length more / 65536 * 65536) whole last more c.split_at-2.ensures.front c.split_at-2.ensures.back) c.in_ok-write_text-2.ensures.ok
    (c.in_ok-extend_from_slice-2.ensures.items ∙ ap (λ b. b ++ last) c.clear.ensures.items)
