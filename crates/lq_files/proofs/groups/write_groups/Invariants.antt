use Rattle.std.proofs.Common.{◌≡◌}
use Rattle.lq_files.specs.Written.{files_written}
use Rattle.lq_files.proofs.GroupLemmas.{files_below}
use Rattle.lq_files.proofs.groups.write_groups.Given as goal

-- the files of the groups so far are whole
abbrev pub invariant-loop-j : goal.invariant-loop-j
invariant-loop-j g l =
    let state = g.H.Host.state in
    record {
      whole : state l.host ≡ files_written (state l.fn.host) (files_below l.report.run.out.now l.report.run.capture.now l.report.run.plan.now (g.F.Fates.fates l.report.fates.now) l.j);
      handles : (state l.host).handles ≡ (state l.fn.host).handles;
      calm : g.H.Host.fault_count l.host ≡ g.H.Host.fault_count l.fn.host;
    }
