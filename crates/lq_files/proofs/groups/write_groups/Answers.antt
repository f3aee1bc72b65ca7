use Rattle.std.proofs.Common.{◌<◌, ◌∙◌, ap, subst, sym, add-one, length}
use Rattle.lq_files.specs.Written.{files_written}
use Rattle.lq_files.proofs.GroupLemmas.{files_below, no_root_whole, root_cut, root_whole}
use Rattle.lq_files.proofs.MoveLemmas.{on_err_any}
use Rattle.lq_files.proofs.groups.write_groups.Goals as goal
use Rattle.lq_files.proofs.groups.write_groups.Goals.{then-is_root+in_ok-write_group, else-is_root}

pub returns-in_err-write_group-clause-err : goal.returns-in_err-write_group-clause-err
returns-in_err-write_group-clause-err g c =
    let plan = c.args.report.now.run.plan.now in let j = c.loop-j.j in
    on_err_any c.from_residual.result
    (root_cut c.args.report.now.run.out.now c.args.report.now.run.capture.now plan (g.F.Fates.fates c.args.report.now.fates.now) j (length plan.groups) (g.H.Host.state c.args.host.now) (g.H.Host.state c.loop-j.host) (g.H.Host.state c.write_group.new.host)
    (subst (λ n. j < n) c.groups-j-end.ensures.groups c.loop-j-test.true) (sym c.is_root.ensures ∙ c.if-is_root.true) c.loop-j.invariant.whole c.in_err-write_group.ensures.err)

pub loop-j-preserved : goal.loop-j-preserved
loop-j-preserved g c =
    let out = c.args.report.now.run.out.now in let capture = c.args.report.now.run.capture.now in let plan = c.args.report.now.run.plan.now in let fates = g.F.Fates.fates c.args.report.now.fates.now in let j = c.loop-j.j in
    let old = g.H.Host.state c.args.host.now in let mid = g.H.Host.state c.loop-j.host in
    elim c.if-is_root.branch [
      | then-is_root+in_ok-write_group w ↦ record {
        whole = ap g.H.Host.state w.host-is
            ∙ (root_whole out capture plan fates j old mid (g.H.Host.state w.write_group.new.host) (sym c.is_root.ensures ∙ w.if-is_root.true) c.loop-j.invariant.whole w.in_ok-write_group.ensures.ok
            ∙ ap (λ n. files_written old (files_below out capture plan fates n)) (sym (add-one j)));
        handles = ap (λ h. (g.H.Host.state h).handles) w.host-is ∙ (w.write_group.ensures.handles ∙ c.loop-j.invariant.handles);
        calm = ap g.H.Host.fault_count w.host-is ∙ (w.in_ok-write_group.ensures.cause.calm ∙ c.loop-j.invariant.calm);
      }
      | else-is_root w ↦ record {
        whole = ap g.H.Host.state w.host-is
            ∙ (no_root_whole out capture plan fates j old mid (sym c.is_root.ensures ∙ w.if-is_root.false) c.loop-j.invariant.whole
            ∙ ap (λ n. files_written old (files_below out capture plan fates n)) (sym (add-one j)));
        handles = ap (λ h. (g.H.Host.state h).handles) w.host-is ∙ c.loop-j.invariant.handles;
        calm = ap g.H.Host.fault_count w.host-is ∙ c.loop-j.invariant.calm;
      }
    ]
