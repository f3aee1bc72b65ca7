use Rattle.std.proofs.Common.{◌+◌, ◌<◌, Some, sym, ap, ◌∙◌, subst, arith, length}
use Rattle.std.proofs.lemmas.List.{drop-set-lt}
use Rattle.std.proofs.lemmas.Option.{slice_get-get_or}
use Rattle.lq_model.specs.Device.{IsConfigured}
use Rattle.lq_senders.proofs.Benches.{configured-more, drop-later, kept-its-identity}
use Rattle.lq_senders.proofs.setup.configure_units.Goals as goal

pub returns-in_err-configure-clause-others : goal.returns-in_err-configure-clause-others
returns-in_err-configure-clause-others g c =
    let k = c.loop-station.station in
    let all = length c.args.plan.now.stations in
    let below : k < all = let test = c.loop-station-test.true in let e = c.stations-station-end.ensures.stations in omega arith in
    drop-set-lt all c.loop-station.bench.items k c.configure.new.self below
    ∙ drop-later k all c.loop-station.bench.items c.args.bench.now.items (omega arith) c.loop-station.invariant.rest

pub loop-station-preserved : goal.loop-station-preserved
loop-station-preserved g c =
    let own = c.loop-station.invariant in
    let k = c.loop-station.station in
    let mid = c.loop-station.bench.items in
    let first = c.args.bench.now.items in
    let old = c.index_mut-unit.result.now in
    record {
      len = own.len;
      boxes = kept-its-identity g.D.TxDevice.state mid k old c.configure.new.self
          (slice_get-get_or mid k old (let test = c.loop-station-test.true in let e = c.stations-station-end.ensures.stations in let units = c.requires.units in let len = own.len in let ok = c.loop-station.bench.ok.0 in omega arith)
          ∙ ap Some (sym c.index_mut-unit.ensures.value))
          c.in_ok-configure.ensures.ok.identity ∙ own.boxes;
      configured = configured-more g.D.TxDevice.state c.args.plan.now c.args.infos.now k first mid c.station.result old c.configure.new.self
          own.configured own.rest c.station.ensures.station
          (slice_get-get_or mid k old (let test = c.loop-station-test.true in let e = c.stations-station-end.ensures.stations in let units = c.requires.units in let len = own.len in let ok = c.loop-station.bench.ok.0 in omega arith)
          ∙ ap Some (sym c.index_mut-unit.ensures.value))
          (subst (λ room. IsConfigured c.station.result.params room (g.D.TxDevice.state old) (g.D.TxDevice.state c.configure.new.self)) c.packets_of-room.ensures c.in_ok-configure.ensures.ok);
      rest = drop-set-lt (k + 1) mid k c.configure.new.self (omega arith) ∙ drop-later k (k + 1) mid first (omega arith) own.rest;
    }

pub returns-in_err-configure-clause-boxes : goal.returns-in_err-configure-clause-boxes
returns-in_err-configure-clause-boxes g c =
    let mid = c.loop-station.bench.items in
    let k = c.loop-station.station in
    let own = c.loop-station.invariant in
    let old = c.index_mut-unit.result.now in
    kept-its-identity g.D.TxDevice.state mid k old c.configure.new.self
    (slice_get-get_or mid k old (let test = c.loop-station-test.true in let e = c.stations-station-end.ensures.stations in let units = c.requires.units in let len = own.len in let ok = c.loop-station.bench.ok.0 in omega arith)
    ∙ ap Some (sym c.index_mut-unit.ensures.value))
    (ap (λ d. d.identity) c.in_err-configure.ensures.err) ∙ own.boxes
