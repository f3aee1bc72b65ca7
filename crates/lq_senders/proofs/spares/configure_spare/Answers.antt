use Rattle.std.proofs.Common.{◌≡◌, Some, sym, ap, ◌∙◌, subst, arith, map, drop, slice_get}
use Rattle.std.specs.Prelude.{slice_set}
use Rattle.std.proofs.lemmas.List.{drop-set-lt}
use Rattle.std.proofs.lemmas.Option.{slice_get-get_or}
use Rattle.lq_model.specs.Device.{IsConfigured}
use Rattle.lq_model.specs.Plan.{unit_count, unit_of_swap}
use Rattle.lq_senders.specs.Fates.{identities_of}
use Rattle.lq_senders.specs.Setup.{ConfiguresSpare}
use Rattle.lq_senders.proofs.Benches.{kept-its-identity}
use Rattle.lq_senders.proofs.SpareDevices.{brought-within, spare-configured}
use Rattle.lq_senders.proofs.spares.configure_spare.Given as given
use Rattle.lq_senders.proofs.spares.configure_spare.Goals as goal
use Rattle.lq_senders.proofs.spares.configure_spare.Goals.{After-configure}

pub index_mut-device-requires : goal.index_mut-device-requires
index_mut-device-requires g c =
    let below =
    brought-within c.args.plan.now c.args.e c.event-station.result c.in-Swap.params c.event-station.ensures.event c.in-Swap.is in
    let is = c.brought_unit-unit.ensures in let units = c.requires.units in omega arith

-- The device of a swap's unit was configured in the bench.
record IsConfiguredInBench (g : given.Over) (c : After-configure g) : Type 0 where
  -- before it stood at the place of its unit
  stood : slice_get c.args.bench.now.items (unit_of_swap c.args.plan.now c.args.e) ≡ Some c.index_mut-device.result.now
  -- the devices behind those of the plan's units stay
  others : drop (unit_count c.args.plan.now) (slice_set c.args.bench.now.items c.brought_unit-unit.result c.configure.new.self)
      ≡ drop (unit_count c.args.plan.now) c.args.bench.now.items
  -- all are the same boxes if it is the same box
  boxes : (g.D.TxDevice.state c.configure.new.self).identity ≡ (g.D.TxDevice.state c.index_mut-device.result.now).identity
      → identities_of (map g.D.TxDevice.state (slice_set c.args.bench.now.items c.brought_unit-unit.result c.configure.new.self))
      ≡ identities_of (map g.D.TxDevice.state c.args.bench.now.items)

in_bench : (g : given.Over) (c : After-configure g) → IsConfiguredInBench g c
in_bench g c =
    let bench = c.args.bench.now.items in let unit = c.brought_unit-unit.result in let is = c.brought_unit-unit.ensures in
    let old = c.index_mut-device.result.now in let units = c.requires.units in let ok = c.args.bench.now.ok.0 in
    let below =
    brought-within c.args.plan.now c.args.e c.event-station.result c.in-Swap.params c.event-station.ensures.event c.in-Swap.is in
    let there = slice_get-get_or bench unit old (omega arith) ∙ ap Some (sym c.index_mut-device.ensures.value) in
    record {
      stood = ap (slice_get bench) (sym is) ∙ there;
      others = drop-set-lt (unit_count c.args.plan.now) bench unit c.configure.new.self (omega arith);
      boxes = kept-its-identity g.D.TxDevice.state bench unit old c.configure.new.self there;
    }

pub returns-in_err-configure-in-Swap-clause-others : goal.returns-in_err-configure-in-Swap-clause-others
returns-in_err-configure-in-Swap-clause-others g c =
    (in_bench g (goal.at.returns-in_err-configure-in-Swap-clause-others g c).After-configure).others

pub returns-in_err-configure-in-Swap-clause-boxes : goal.returns-in_err-configure-in-Swap-clause-boxes
returns-in_err-configure-in-Swap-clause-boxes g c =
    (in_bench g (goal.at.returns-in_err-configure-in-Swap-clause-boxes g c).After-configure).boxes
    (ap (λ d. d.identity) c.in_err-configure-in-Swap.ensures.err)

pub returns-in_ok-configure-in-Swap-clause-others : goal.returns-in_ok-configure-in-Swap-clause-others
returns-in_ok-configure-in-Swap-clause-others g c =
    (in_bench g (goal.at.returns-in_ok-configure-in-Swap-clause-others g c).After-configure).others

pub returns-in_ok-configure-in-Swap-clause-boxes : goal.returns-in_ok-configure-in-Swap-clause-boxes
returns-in_ok-configure-in-Swap-clause-boxes g c =
    (in_bench g (goal.at.returns-in_ok-configure-in-Swap-clause-boxes g c).After-configure).boxes
    c.in_ok-configure-in-Swap.ensures.ok.identity

pub returns-in_ok-configure-in-Swap-clause-ok : goal.returns-in_ok-configure-in-Swap-clause-ok
returns-in_ok-configure-in-Swap-clause-ok g c =
    let state = g.D.TxDevice.state in let plan = c.args.plan.now in let infos = c.args.infos.now in
    let bench = c.args.bench.now.items in let new = c.configure.new.self in
    subst (λ k. ConfiguresSpare plan infos c.args.e (map state bench) (map state (slice_set bench k new))) (sym c.brought_unit-unit.ensures)
    (spare-configured state plan infos c.args.e c.event-station.result c.in-Swap.params bench c.index_mut-device.result.now new
    c.event-station.ensures.event c.in-Swap.is (in_bench g (goal.at.returns-in_ok-configure-in-Swap-clause-ok g c).After-configure).stood
    (subst (λ room. IsConfigured c.in-Swap.params room (state c.index_mut-device.result.now) (state new)) c.packets_of-room.ensures
    c.in_ok-configure-in-Swap.ensures.ok))
