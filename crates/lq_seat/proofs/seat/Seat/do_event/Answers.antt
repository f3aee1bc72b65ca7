use Rattle.lq_seat.proofs.Steps.{changed-drained}
use Rattle.lq_seat.proofs.seat.Seat.do_event.Goals as goal

pub returns : goal.returns
returns g c plan = changed-drained plan c.args.event c.args.kind c.args.self.now c.change.new.self c.drain.new.self (c.change.ensures.changes plan) c.drain.ensures
