use Rattle.std.proofs.Common.{◌≡◌, ◌≤◌, ◌∙◌, ℕ, List, Vec, Global, ap, count_by, length, map, subst, sym}
use Rattle.std.proofs.lemmas.Result.{on_ok_weaker, on_err_weaker}
use Rattle.lq_model.specs.Numbers.{first_numbers}
use Rattle.lq_model.specs.Texts.{is_sent_by}
use Rattle.lq_fates.specs.Sent.{sent_by_units}
use Rattle.lq_files.specs.RunFiles.{run_of}
use Rattle.lq_files.proofs.MoveLemmas.{on_err_any}
use Rattle.lq_files.proofs.RunFilesLemmas.{counts_of_plan, stopped_first, stopped_in_units, stopped_in_groups, stopped_in_fates, stopped_in_times, stopped_in_counts, all_written}
use Rattle.lq_files.proofs.SentLists.{for_each_below, for_each_of, sent_long}
use Rattle.lq_files.proofs.outputs.write_run.Goals as goal

pub sent_by_units-requires-clause-counted : goal.sent_by_units-requires-clause-counted
sent_by_units-requires-clause-counted g c = λ κs live.
    let sent = λ (unit : ℕ). count_by (is_sent_by unit) (g.F.Fates.fates c.args.report.now.fates.now) in
    subst (λ (xs : List ℕ). xs ≡ map sent (first_numbers (length xs))) (sym c.deref.ensures.value)
    (for_each_below sent c.units-units.result c.in_ok-counts.counts.by_unit.items c.in_ok-counts.ensures.by_unit)

pub write_units-requires-clause-sent : goal.write_units-requires-clause-sent
write_units-requires-clause-sent g c = λ κs live.
    let fates = g.F.Fates.fates c.args.report.now.fates.now in let units = c.units-units.result in
    let many = ap length c.deref.ensures.value ∙ for_each_of (λ unit. count_by (is_sent_by unit) fates) units c.in_ok-counts.counts.by_unit.items c.in_ok-counts.ensures.by_unit in
    ap (map (λ (list : Vec ℕ Global). list.items)) c.deref-2.ensures.value ∙ (c.in_ok-sent.ensures ∙ ap (λ k. sent_by_units fates k) many)

pub write_groups-requires-clause-units : goal.write_groups-requires-clause-units
write_groups-requires-clause-units g c = λ κs live.
    let fates = g.F.Fates.fates c.args.report.now.fates.now in let units = c.units-units.result in let lists = c.in_ok-sent.sent.items in
    let many = ap length c.deref.ensures.value ∙ for_each_of (λ unit. count_by (is_sent_by unit) fates) units c.in_ok-counts.counts.by_unit.items c.in_ok-counts.ensures.by_unit in
    let long = sent_long (λ (list : Vec ℕ Global). list.items) lists fates units (c.in_ok-sent.ensures ∙ ap (λ k. sent_by_units fates k) many) in
    subst (λ n. length c.args.report.now.run.plan.now.stations ≤ n) (sym (ap length c.deref-3.ensures.value ∙ long)) c.units-units.ensures.stations

pub write_groups-requires-clause-sent : goal.write_groups-requires-clause-sent
write_groups-requires-clause-sent g c = λ κs live.
    let fates = g.F.Fates.fates c.args.report.now.fates.now in let units = c.units-units.result in let lists = c.in_ok-sent.sent.items in
    let items : Vec ℕ Global → List ℕ = λ list. list.items in
    let many = ap length c.deref.ensures.value ∙ for_each_of (λ unit. count_by (is_sent_by unit) fates) units c.in_ok-counts.counts.by_unit.items c.in_ok-counts.ensures.by_unit in
    let are : map items lists ≡ sent_by_units fates units = c.in_ok-sent.ensures ∙ ap (λ k. sent_by_units fates k) many in
    subst (λ (xs : List (Vec ℕ Global)). map items xs ≡ sent_by_units fates (length xs)) (sym c.deref-3.ensures.value)
    (are ∙ ap (λ k. sent_by_units fates k) (sym (sent_long items lists fates units are)))

pub returns-in_err-counts-clause-err : goal.returns-in_err-counts-clause-err
returns-in_err-counts-clause-err g c =
    on_err_any c.from_residual.result
    (stopped_first (run_of c.args.report.now.run.out.now c.args.report.now.run.plan.now c.args.report.now.run.capture.now) (g.F.Fates.fates c.args.report.now.fates.now) (g.H.Host.state c.args.host.now))

pub returns-in_err-sent-clause-err : goal.returns-in_err-sent-clause-err
returns-in_err-sent-clause-err g c =
    on_err_any c.from_residual-in_err-sent.result
    (stopped_first (run_of c.args.report.now.run.out.now c.args.report.now.run.plan.now c.args.report.now.run.capture.now) (g.F.Fates.fates c.args.report.now.fates.now) (g.H.Host.state c.args.host.now))

pub returns-in_err-write_units-clause-err : goal.returns-in_err-write_units-clause-err
returns-in_err-write_units-clause-err g c =
    on_err_any c.from_residual-in_err-write_units.result
    (stopped_in_units (run_of c.args.report.now.run.out.now c.args.report.now.run.plan.now c.args.report.now.run.capture.now) (g.F.Fates.fates c.args.report.now.fates.now) c.units-units.result (g.H.Host.state c.args.host.now) (g.H.Host.state c.write_units.new.host)
    c.units-units.ensures.units c.in_err-write_units.ensures.err)

pub returns-in_err-write_groups-clause-err : goal.returns-in_err-write_groups-clause-err
returns-in_err-write_groups-clause-err g c =
    on_err_any c.from_residual-in_err-write_groups.result
    (stopped_in_groups (run_of c.args.report.now.run.out.now c.args.report.now.run.plan.now c.args.report.now.run.capture.now) (g.F.Fates.fates c.args.report.now.fates.now) c.units-units.result (g.H.Host.state c.args.host.now) (g.H.Host.state c.write_units.new.host)
    c.units-units.ensures.units c.in_ok-write_units.ensures.ok (g.H.Host.state c.write_groups.new.host) c.in_err-write_groups.ensures.err)

pub returns-in_err-write_fates-clause-err : goal.returns-in_err-write_fates-clause-err
returns-in_err-write_fates-clause-err g c =
    on_err_any c.from_residual-in_err-write_fates.result
    (stopped_in_fates (run_of c.args.report.now.run.out.now c.args.report.now.run.plan.now c.args.report.now.run.capture.now) (g.F.Fates.fates c.args.report.now.fates.now) c.units-units.result (g.H.Host.state c.args.host.now) (g.H.Host.state c.write_units.new.host)
    c.units-units.ensures.units c.in_ok-write_units.ensures.ok (g.H.Host.state c.write_groups.new.host) c.in_ok-write_groups.ensures.ok (g.H.Host.state c.write_fates.new.host)
    c.in_err-write_fates.ensures.err)

pub returns-in_err-write_times-clause-err : goal.returns-in_err-write_times-clause-err
returns-in_err-write_times-clause-err g c =
    on_err_any c.from_residual-in_err-write_times.result
    (stopped_in_times (run_of c.args.report.now.run.out.now c.args.report.now.run.plan.now c.args.report.now.run.capture.now) (g.F.Fates.fates c.args.report.now.fates.now) c.units-units.result (g.H.Host.state c.args.host.now) (g.H.Host.state c.write_units.new.host)
    c.units-units.ensures.units c.in_ok-write_units.ensures.ok (g.H.Host.state c.write_groups.new.host) c.in_ok-write_groups.ensures.ok (g.H.Host.state c.write_fates.new.host)
    c.in_ok-write_fates.ensures.ok c.args.report.now.infos.now c.requires.infos (g.H.Host.state c.write_times.new.host) c.in_err-write_times.ensures.err)

pub returns-clause-ok : goal.returns-clause-ok
returns-clause-ok g c =
    on_ok_weaker c.write_counted.result
    (all_written (run_of c.args.report.now.run.out.now c.args.report.now.run.plan.now c.args.report.now.run.capture.now) (g.F.Fates.fates c.args.report.now.fates.now) c.units-units.result (g.H.Host.state c.args.host.now) (g.H.Host.state c.write_units.new.host)
    c.units-units.ensures.units c.in_ok-write_units.ensures.ok (g.H.Host.state c.write_groups.new.host) c.in_ok-write_groups.ensures.ok (g.H.Host.state c.write_fates.new.host)
    c.in_ok-write_fates.ensures.ok c.args.report.now.infos.now c.requires.infos (g.H.Host.state c.write_times.new.host) c.in_ok-write_times.ensures.ok (g.H.Host.state c.write_counted.new.host))
    (c.write_counted.ensures.ok c.args.report.now.infos.now (counts_of_plan c.args.report.now.run.plan.now (g.F.Fates.fates c.args.report.now.fates.now) c.args.report.now.infos.now
    c.stations.result c.units-units.result c.in_ok-counts.counts c.stations.ensures.stations c.units-units.ensures.units c.in_ok-counts.ensures))

pub returns-clause-err : goal.returns-clause-err
returns-clause-err g c =
    on_err_weaker c.write_counted.result
    (stopped_in_counts (run_of c.args.report.now.run.out.now c.args.report.now.run.plan.now c.args.report.now.run.capture.now) (g.F.Fates.fates c.args.report.now.fates.now) c.units-units.result (g.H.Host.state c.args.host.now) (g.H.Host.state c.write_units.new.host)
    c.units-units.ensures.units c.in_ok-write_units.ensures.ok (g.H.Host.state c.write_groups.new.host) c.in_ok-write_groups.ensures.ok (g.H.Host.state c.write_fates.new.host)
    c.in_ok-write_fates.ensures.ok c.args.report.now.infos.now c.requires.infos (g.H.Host.state c.write_times.new.host) c.in_ok-write_times.ensures.ok (g.H.Host.state c.write_counted.new.host))
    (c.write_counted.ensures.err c.args.report.now.infos.now (counts_of_plan c.args.report.now.run.plan.now (g.F.Fates.fates c.args.report.now.fates.now) c.args.report.now.infos.now
    c.stations.result c.units-units.result c.in_ok-counts.counts c.stations.ensures.stations c.units-units.ensures.units c.in_ok-counts.ensures))
