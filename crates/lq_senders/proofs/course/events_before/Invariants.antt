use Rattle.std.proofs.Common.{◌≡◌, map}
use Rattle.lq_senders.proofs.Turns.{FirstEvents}
use Rattle.lq_senders.proofs.course.events_before.Given as goal

abbrev pub invariant-loop-e : goal.invariant-loop-e
invariant-loop-e g l = let states = map g.D.TxDevice.state in
    record {
      owner : l.sender.owner ≡ l.fn.sender.owner;
      first : FirstEvents l.run.job.plan.now l.run.job.infos.now l.run.tables.now l.next l.n l.e l.fn.sender.seats.items (states l.fn.sender.spares.items) l.sender.seats.items (states l.sender.spares.items);
    }
