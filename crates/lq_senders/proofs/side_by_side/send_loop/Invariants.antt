use Rattle.std.proofs.Common.{◌≡◌, map}
use Rattle.lq_senders.specs.Senders.{IsSending}
use Rattle.lq_senders.specs.Runs.{opens_in}
use Rattle.lq_senders.specs.Woken.{CountsDown}
use Rattle.lq_senders.proofs.side_by_side.send_loop.Given as goal

abbrev pub invariant-loop-n : goal.invariant-loop-n
invariant-loop-n g l =
    let states = map g.D.TxDevice.state in record {
      owner : l.sender.owner ≡ l.fn.sender.owner;
      counted : CountsDown l.run.job.openings.now l.at.sent l.at.left;
      sending : IsSending l.run.job.plan.now l.run.job.infos.now (opens_in l.run) l.run.tables.now l.sender.owner l.n l.at.sent l.at.next l.fn.sender.seats.items (states l.fn.sender.spares.items) l.sender.seats.items (states l.sender.spares.items);
    }
