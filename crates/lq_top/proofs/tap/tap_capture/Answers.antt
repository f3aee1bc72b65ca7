use Rattle.std.proofs.Common.{◌<◌, ℕ, List, All, subst, sym}
use Rattle.lq_pcapng.specs.File.{packets_of_file}
use Rattle.lq_fates.specs.Tap.{IsTapRun}
use Rattle.lq_files.specs.Command.{tap_words}
use Rattle.lq_files.proofs.MoveLemmas.{on_err_any}
use Rattle.lq_top.proofs.TapLemmas.{has_cut, read_below}
use Rattle.lq_top.proofs.tap.tap_capture.Goals as goal

pub write_tap-requires-clause-known : goal.write_tap-requires-clause-known
write_tap-requires-clause-known g c κs within =
    let words = c.args.words.now in
    let count = (packets_of_file c.args.capture.now).count in
    let fates = c.in_ok-tapped.tapped.fates.items in
    let read : List ℕ = c.in_ok-tapped.tapped.read.items in
    subst (λ (xs : List ℕ). All (λ n. n < count) xs) (sym c.deref-2.ensures.value)
    (read_below count words.senders words.len fates read (subst (λ k. IsTapRun k words.senders words.len fates read) c.len-packets.ensures.count c.in_ok-tapped.ensures.run))

pub returns-in_err-write_tap-clause-err : goal.returns-in_err-write_tap-clause-err
returns-in_err-write_tap-clause-err g c =
    let words = c.args.words.now in
    let fates = c.in_ok-tapped.tapped.fates.items in
    let read : List ℕ = c.in_ok-tapped.tapped.read.items in
    on_err_any c.from_residual-in_err-write_tap.result
    (has_cut (tap_words words) c.args.capture.now fates c.deref.result.now read c.deref-2.result.now (g.H.Host.state c.args.host.now) (g.H.Host.state c.write_tap.new.host) c.deref.ensures.value
    c.deref-2.ensures.value (subst (λ k. IsTapRun k words.senders words.len fates read) c.len-packets.ensures.count c.in_ok-tapped.ensures.run) c.in_err-write_tap.ensures.err)
