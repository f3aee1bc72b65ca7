use Rattle.std.proofs.Common.{arith}
use Rattle.lq_tap_run.proofs.lanes.put_all.Goals as goal

pub loop-n-preserved : goal.loop-n-preserved
loop-n-preserved g c =
    let own = c.loop-n.invariant in record {
      stands = c.put_next.ensures.stands c.args.sender c.loop-n.k own.stands;
      room = c.put_next.ensures.room;
      few = let test = c.loop-n-test.true in omega arith;
      less = let less = own.less in let some = c.args.run.now.may.few_senders.0 in omega arith;
    }
