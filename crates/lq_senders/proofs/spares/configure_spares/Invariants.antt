use Rattle.std.proofs.Common.{◌≡◌, drop, map}
use Rattle.lq_model.specs.Plan.{unit_count}
use Rattle.lq_senders.specs.Fates.{identities_of}
use Rattle.lq_senders.specs.Setup.{AreSparesConfigured}
use Rattle.lq_senders.proofs.spares.configure_spares.Given as goal

-- the devices that the first events bring are configured
abbrev pub invariant-loop-e : goal.invariant-loop-e
invariant-loop-e g l =
    let states = map g.D.TxDevice.state in
    record {
      len : l.bench.len ≡ l.fn.bench.len;
      boxes : identities_of (states l.bench.items) ≡ identities_of (states l.fn.bench.items);
      others : drop (unit_count l.plan) l.bench.items ≡ drop (unit_count l.plan) l.fn.bench.items;
      configured : AreSparesConfigured l.plan l.infos l.e (states l.fn.bench.items) (states l.bench.items);
    }
