use Rattle.std.proofs.Common.{◌≡◌, drop, map}
use Rattle.lq_senders.specs.Fates.{identities_of}
use Rattle.lq_senders.specs.Setup.{AreConfigured}
use Rattle.lq_senders.proofs.setup.configure_units.Given as goal

-- the devices of the first stations are configured
abbrev pub invariant-loop-station : goal.invariant-loop-station
invariant-loop-station g l =
    let states = map g.D.TxDevice.state in
    record {
      len : l.bench.len ≡ l.fn.bench.len;
      boxes : identities_of (states l.bench.items) ≡ identities_of (states l.fn.bench.items);
      configured : AreConfigured l.plan l.infos l.station (states l.fn.bench.items) (states l.bench.items);
      rest : drop l.station l.bench.items ≡ drop l.station l.fn.bench.items;
    }
