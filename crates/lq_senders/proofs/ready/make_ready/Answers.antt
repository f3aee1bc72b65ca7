use Rattle.std.proofs.Common.{◌≡◌, ◌-◌, length, sym, ap, ◌∙◌, arith, count_by, drop, take, map, drop-drop}
use Rattle.std.proofs.lemmas.List.{length-map, take-map}
use Rattle.lq_model.specs.Plan.{is_swap, unit_count}
use Rattle.lq_senders.proofs.Benches.{drop-later}
use Rattle.lq_senders.proofs.Openings.{drop-map}
use Rattle.lq_senders.proofs.Prepared.{brought-configured, on-any-err, still-configured}
use Rattle.lq_senders.proofs.ready.make_ready.Goals as goal

pub returns-in_err-configure_units-clause-others : goal.returns-in_err-configure_units-clause-others
returns-in_err-configure_units-clause-others g c =
    on-any-err _ (drop-later (length c.args.plan.now.stations) (unit_count c.args.plan.now) c.configure_units.new.bench.items c.args.bench.now.items (omega arith) c.in_err-configure_units.ensures.others)

pub returns-in_err-configure_spares-clause-others : goal.returns-in_err-configure_spares-clause-others
returns-in_err-configure_spares-clause-others g c =
    on-any-err _ (c.in_err-configure_spares.ensures.others
    ∙ drop-later (length c.args.plan.now.stations) (unit_count c.args.plan.now) c.configure_units.new.bench.items c.args.bench.now.items (omega arith) c.in_ok-configure_units.ensures.others)

pub open_all-requires-clause-configured : goal.open_all-requires-clause-configured
open_all-requires-clause-configured g c κs within =
    let states = map g.D.TxDevice.state in (
      states c.args.bench.now.items,
      still-configured c.args.plan.now c.args.infos.now (states c.args.bench.now.items) (states c.configure_units.new.bench.items) (states c.configure_spares.new.bench.items)
          c.in_ok-configure_units.ensures.ok c.in_ok-configure_spares.ensures.ok,
    )

pub returns-in_err-stations-clause-others : goal.returns-in_err-stations-clause-others
returns-in_err-stations-clause-others g c =
    on-any-err _ (drop-later (length c.args.plan.now.stations) (unit_count c.args.plan.now) c.open_all.new.bench.items c.configure_spares.new.bench.items (omega arith) c.in_err-stations.ensures.others
    ∙ (c.in_ok-configure_spares.ensures.others
    ∙ drop-later (length c.args.plan.now.stations) (unit_count c.args.plan.now) c.configure_units.new.bench.items c.args.bench.now.items (omega arith) c.in_ok-configure_units.ensures.others))

pub returns-clause-ready : goal.returns-clause-ready
returns-clause-ready g c =
    let state = g.D.TxDevice.state in
    let plan = c.args.plan.now in let infos = c.args.infos.now in
    let before = c.args.bench.now.items in let mid = c.configure_units.new.bench.items in let after = c.configure_spares.new.bench.items in
    let n = length plan.stations in let k = count_by is_swap plan.events in
    let so_many : (c.units.result - c.stations.result) ≡ k = let units = c.units.ensures.units in let stations = c.stations.ensures.stations in omega arith in
    record {
      devices = map state after;
      units = let units = c.requires.devices in let ok = c.args.bench.now.ok.0 in let long = length-map before state in omega arith;
      configured = still-configured plan infos (map state before) (map state mid) (map state after) c.in_ok-configure_units.ensures.ok c.in_ok-configure_spares.ensures.ok;
      brought = brought-configured state plan infos before mid (map state after) c.in_ok-configure_units.ensures.others c.in_ok-configure_spares.ensures.ok;
      opened = c.in_ok-stations.ensures.opened;
      all = let all = c.in_ok-stations.ensures.all in let ok = c.in_ok-stations.stations.tables.ok.0 in omega arith;
      spares_are =
          ap (map state) (c.take_spares.ensures.spares ∙ (ap (λ l. take (c.units.result - c.stations.result) l) c.in_ok-stations.ensures.rest ∙ ap (λ m. take m (drop n after)) so_many))
          ∙ (sym (take-map state k (drop n after)) ∙ ap (take k) (drop-map state n after));
    }

pub returns-clause-rest : goal.returns-clause-rest
returns-clause-rest g c =
    let plan = c.args.plan.now in
    let n = length plan.stations in let k = count_by is_swap plan.events in
    let before = c.args.bench.now.items in let mid = c.configure_units.new.bench.items in let after = c.configure_spares.new.bench.items in
    let so_many : (c.units.result - c.stations.result) ≡ k = let units = c.units.ensures.units in let stations = c.stations.ensures.stations in omega arith in
    c.take_spares.ensures.rest
    ∙ (ap (λ l. drop (c.units.result - c.stations.result) l) c.in_ok-stations.ensures.rest
    ∙ (ap (λ m. drop m (drop n after)) so_many
    ∙ (drop-drop k n after
    ∙ (c.in_ok-configure_spares.ensures.others
    ∙ drop-later n (unit_count plan) mid before (omega arith) c.in_ok-configure_units.ensures.others))))
