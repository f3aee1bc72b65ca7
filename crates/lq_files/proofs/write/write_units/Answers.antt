use Rattle.std.proofs.Common.{◌∙◌, ℕ, List, Vec, Global, ap, arith, sym, add-one}
use Rattle.lq_files.specs.RunFiles.{unit_files}
use Rattle.lq_files.specs.Written.{files_written}
use Rattle.lq_files.proofs.FileLemmas.{cut_at, whole_more}
use Rattle.lq_files.proofs.MoveLemmas.{on_err_any}
use Rattle.lq_files.proofs.SentLists.{sent_at, sent_long}
use Rattle.lq_files.proofs.write.write_units.Goals as goal

abbrev items : Vec ℕ Global → List ℕ
items list = list.items

pub bounds-sent-unit : goal.bounds-sent-unit
bounds-sent-unit g c =
    let long = sent_long items c.args.sent.now (g.F.Fates.fates c.args.report.now.fates.now) c.args.units c.requires.sent in let below = c.loop-unit-test.true in omega arith

pub write_unit-requires-clause-sent : goal.write_unit-requires-clause-sent
write_unit-requires-clause-sent g c κs within =
    c.deref.ensures.value
    ∙ (ap items c.index-sent-unit.is
    ∙ sent_at items c.args.sent.now (g.F.Fates.fates c.args.report.now.fates.now) c.args.units c.requires.sent c.loop-unit.unit c.index-sent-unit.result c.loop-unit-test.true)

pub returns-in_err-write_unit-clause-err : goal.returns-in_err-write_unit-clause-err
returns-in_err-write_unit-clause-err g c =
    on_err_any c.from_residual.result
    (cut_at _ c.loop-unit.unit c.args.units (g.H.Host.state c.args.host.now) (g.H.Host.state c.loop-unit.host) (g.H.Host.state c.write_unit.new.host)
    c.loop-unit-test.true c.loop-unit.invariant.whole c.in_err-write_unit.ensures.err)

pub loop-unit-preserved : goal.loop-unit-preserved
loop-unit-preserved g c =
    let old = g.H.Host.state c.args.host.now in
    record {
      whole = whole_more _ c.loop-unit.unit old (g.H.Host.state c.loop-unit.host) (g.H.Host.state c.write_unit.new.host) c.loop-unit.invariant.whole c.in_ok-write_unit.ensures.ok
          ∙ ap (λ n. files_written old (unit_files c.args.report.now.run.out.now c.args.report.now.run.capture.now (g.F.Fates.fates c.args.report.now.fates.now) n)) (sym (add-one c.loop-unit.unit));
      handles = c.write_unit.ensures.handles ∙ c.loop-unit.invariant.handles;
      calm = c.in_ok-write_unit.ensures.cause.calm ∙ c.loop-unit.invariant.calm;
    }
