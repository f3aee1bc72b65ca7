use Rattle.std.proofs.Common.{map, ◌∙◌}
use Rattle.lq_senders.proofs.SpareDevices.{spares-more}
use Rattle.lq_senders.proofs.spares.configure_spares.Goals as goal

pub loop-e-preserved : goal.loop-e-preserved
loop-e-preserved g c =
    let own = c.loop-e.invariant in
    let state = g.D.TxDevice.state in
    record {
      len = c.in_ok-configure_spare.ensures.len ∙ own.len;
      boxes = c.in_ok-configure_spare.ensures.boxes ∙ own.boxes;
      others = c.in_ok-configure_spare.ensures.others ∙ own.others;
      configured = spares-more c.args.plan.now c.args.infos.now c.loop-e.e (map state c.args.bench.now.items) (map state c.loop-e.bench.items) (map state c.configure_spare.new.bench.items) own.configured c.in_ok-configure_spare.ensures.ok;
    }
