use Rattle.std.proofs.Common.{◌<◌, ◌∙◌, ℕ, List, All, ap, subst, sym}
use Rattle.std.proofs.lemmas.Result.{on_err_weaker}
use Rattle.lq_pcapng.specs.File.{packets_of_file, text_of}
use Rattle.lq_files.proofs.FileLemmas.{is_cut}
use Rattle.lq_files.proofs.GroupPackets.{group_below}
use Rattle.lq_files.proofs.groups.write_group.Goals as goal

pub write_packets_file-requires-clause-known : goal.write_packets_file-requires-clause-known
write_packets_file-requires-clause-known g c κs within =
    let fates = g.F.Fates.fates c.args.report.now.fates.now in
    subst (λ (xs : List ℕ). All (λ n. n < (packets_of_file c.args.report.now.run.capture.now).count) xs)
    (sym (c.deref.ensures.value ∙ c.in_ok-all.ensures fates c.requires.sent))
    (group_below c.args.report.now.run.plan.now fates c.args.j c.requires.serials (packets_of_file c.args.report.now.run.capture.now).count c.requires.known)

pub returns-clause-err : goal.returns-clause-err
returns-clause-err g c =
    let fates = g.F.Fates.fates c.args.report.now.fates.now in
    on_err_weaker c.write_packets_file.result
    (is_cut c.as_str.result.now (text_of c.args.report.now.run.capture.now c.deref.result.now) _ _
    (g.H.Host.state c.args.host.now) (g.H.Host.state c.write_packets_file.new.host) (c.as_str.ensures.value ∙ c.in_ok-name.ensures)
    (ap (text_of c.args.report.now.run.capture.now) (c.deref.ensures.value ∙ c.in_ok-all.ensures fates c.requires.sent)))
    c.write_packets_file.ensures.err
