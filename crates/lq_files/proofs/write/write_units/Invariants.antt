use Rattle.std.proofs.Common.{◌≡◌}
use Rattle.lq_files.specs.RunFiles.{unit_files}
use Rattle.lq_files.specs.Written.{files_written}
use Rattle.lq_files.proofs.write.write_units.Given as goal

-- the files of the units so far are whole
abbrev pub invariant-loop-unit : goal.invariant-loop-unit
invariant-loop-unit g l =
    let state = g.H.Host.state in
    record {
      whole : state l.host ≡ files_written (state l.fn.host) (unit_files l.report.run.out.now l.report.run.capture.now (g.F.Fates.fates l.report.fates.now) l.unit);
      handles : (state l.host).handles ≡ (state l.fn.host).handles;
      calm : g.H.Host.fault_count l.host ≡ g.H.Host.fault_count l.fn.host;
    }
