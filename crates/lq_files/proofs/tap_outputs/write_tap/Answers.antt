use Rattle.std.proofs.lemmas.Result.{on_err_weaker, on_ok_weaker}
use Rattle.lq_files.proofs.MoveLemmas.{on_err_any}
use Rattle.lq_files.proofs.RunFilesLemmas.{tap_all_written, tap_stopped_in_counts, tap_stopped_in_fates}
use Rattle.lq_files.proofs.tap_outputs.write_tap.Goals as goal

pub returns-in_err-write_fates-clause-err : goal.returns-in_err-write_fates-clause-err
returns-in_err-write_fates-clause-err g c =
    on_err_any c.from_residual-in_err-write_fates.result
    (tap_stopped_in_fates c.args.report.now.out.now c.args.report.now.capture.now c.args.report.now.fates.now c.args.report.now.read.now (g.H.Host.state c.args.host.now)
    (g.H.Host.state c.write_read.new.host) c.in_ok-write_read.ensures.ok
    (g.H.Host.state c.write_fates.new.host) c.in_err-write_fates.ensures.err)

pub returns-clause-ok : goal.returns-clause-ok
returns-clause-ok g c =
    on_ok_weaker c.write_total.result
    (tap_all_written c.args.report.now.out.now c.args.report.now.capture.now c.args.report.now.fates.now c.args.report.now.read.now (g.H.Host.state c.args.host.now)
    (g.H.Host.state c.write_read.new.host) c.in_ok-write_read.ensures.ok
    (g.H.Host.state c.write_fates.new.host) c.in_ok-write_fates.ensures.ok (g.H.Host.state c.write_total.new.host))
    c.write_total.ensures.ok

pub returns-clause-err : goal.returns-clause-err
returns-clause-err g c =
    on_err_weaker c.write_total.result
    (tap_stopped_in_counts c.args.report.now.out.now c.args.report.now.capture.now c.args.report.now.fates.now c.args.report.now.read.now (g.H.Host.state c.args.host.now)
    (g.H.Host.state c.write_read.new.host) c.in_ok-write_read.ensures.ok
    (g.H.Host.state c.write_fates.new.host) c.in_ok-write_fates.ensures.ok (g.H.Host.state c.write_total.new.host))
    c.write_total.ensures.err
